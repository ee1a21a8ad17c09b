-- Words in which the laws of scans are said.
use Rattle.std.specs.Prelude.{◌≡◌, ◌⊎◌, ℕ, ◌+◌, ◌<◌, ◌≤◌, true, List, [], ◌∷◌, ◌++◌, length}
use Rattle.cedar_tree.specs.Tree.{Tree}
use Rattle.cedar_scan.specs.Scans.{last_of}
use Rattle.cedar_scan.specs.Suffixes.{held_suffix, is_node, overlapping, Occurrence, all_ending}

-- a key that was found comes before another: it ends before it, or where it does and has more bytes
abbrev pub EndsBefore : Occurrence → Occurrence → Type 0
EndsBefore s next = (s.0 + s.1 < next.0 + next.1) ⊎ ((s.0 + s.1 ≡ next.0 + next.1) × (next.1 < s.1))

-- a key that was found comes before the first of some others, if there is one
abbrev pub IsBeforeFirst : Occurrence → List Occurrence → Type 0
IsBeforeFirst s [] = Unit {0}
IsBeforeFirst s (next ∷ spots) = EndsBefore s next

-- each of some keys that were found comes before the next
abbrev pub AreByEnd : List Occurrence → Type 0
AreByEnd [] = Unit {0}
AreByEnd (s ∷ spots) = IsBeforeFirst s spots × AreByEnd spots

-- a suffix of a text leads to a node, and no longer one does
pub record IsLongestHeld (t : Tree) (text suffix : List ℕ) : Type 0 where
  pub is_suffix : suffix ≡ last_of (length suffix) text
  pub held : is_node t suffix ≡ true
  pub longest : (n : ℕ) → n ≤ length text → is_node t (last_of n text) ≡ true → n ≤ length suffix

-- what is found in a piece from what was read before it on, and in the next piece from the suffix of all that on, is what is found in both as
-- one piece: so any number of pieces join
abbrev pub PiecesGoOn : Tree → List ℕ → ℕ → List ℕ → List ℕ → Type 0
PiecesGoOn t read place piece next =
    all_ending t read place (piece ++ next) ≡ all_ending t read place piece ++ all_ending t (held_suffix t (read ++ piece)) (place + length piece) next

-- what is found in two pieces of a text, the second one from the suffix of the first on, is what is found in both together
abbrev pub PiecesJoin : Tree → List ℕ → List ℕ → Type 0
PiecesJoin t first second =
    overlapping t (first ++ second) ≡ overlapping t first ++ all_ending t (held_suffix t first) (length first) second
