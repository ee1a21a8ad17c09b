-- Searches that go on from a position of a text.
use Rattle.std.specs.Prelude.{◌≡◌, ℕ, ◌≤◌, true, List, [], length, drop, take}
use Rattle.cedar_tree.specs.Tree.{Tree}
use Rattle.cedar_scan.specs.Earliest.{earliest_from}
use Rattle.cedar_scan.specs.Preferred.{leftmost_behind}
use Rattle.cedar_scan.specs.Suffixes.{all_ending, is_node, Occurrence}
use Rattle.cedar_scan.specs.declared.kind.MatchKind.{MatchKind}

-- the keys of a text that end behind a position, by their ends
abbrev pub ending_behind : Tree → ℕ → List ℕ → List Occurrence
ending_behind t place text = all_ending t (take place text) place (drop place text)

-- from a position on, keys that don't overlap: of those that end first the longest, and so on from its end
abbrev pub earliest_behind : Tree → ℕ → List ℕ → List Occurrence
earliest_behind t place text = earliest_from t [] place (drop place text)

-- from a position on, keys that don't overlap: of those that begin first the one that counts, and so on from its end
abbrev pub leftmost_from : MatchKind → Tree → ℕ → List ℕ → List Occurrence
leftmost_from kind t place text = leftmost_behind kind t 0 place (drop place text)

-- so many labels lead to the lowest nodes of a tree
pub record IsHeight (t : Tree) (height : ℕ) : Type 0 where
  pub most : (w : List ℕ) → is_node t w ≡ true → length w ≤ height
  pub lowest : List ℕ
  pub node : is_node t lowest ≡ true
  pub reaches : length lowest ≡ height
