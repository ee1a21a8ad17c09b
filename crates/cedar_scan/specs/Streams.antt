-- A text that comes in pieces.
use Rattle.std.specs.Prelude.{◌≡◌, ℕ, ◌+◌, ◌-◌, ◌*◌, ◌<◌, ◌≤◌, ℤ, List, [], ◌∷◌, ◌++◌, length, drop, map}
use Rattle.std.specs.Prelude.{if◌then◌else◌, is_some, Option, MatchOption, true}
use Rattle.std.specs.Coded.{Coded, code_by, coded×, coded_ℕ, coded_ℤ, coded_list}
use Rattle.std.specs.List.{All}
use Rattle.std.proofs.Common.{refl}
use Rattle.cedar_tree.specs.Stored.{coded_tree}
use Rattle.cedar_tree.specs.Tree.{Tree}
use Rattle.cedar_scan.specs.Automata.{IsAutomaton}
use Rattle.cedar_scan.specs.Listed.{keys_from}
use Rattle.cedar_scan.specs.Suffixes.{held_suffix, is_node, Occurrence}
use Rattle.cedar_scan.specs.Suffixes.{occurrence_ending, all_ending}
use Rattle.cedar_scan.specs.declared.state.ListedKey.{ListedKey}
use Rattle.cedar_scan.specs.declared.state.State.{State}

-- a scan between two keys: its tree, the longest suffix of the text so far that leads to a node, the keys that end here and are still to
-- be given, how many bytes of the present piece were read, and how many of the text
pub record StreamAt : Type 0 where
  pub tree : Tree
  pub suffix : List ℕ
  pub pending : List (ℤ × ℕ)
  pub read : ℕ
  pub place : ℕ

-- a scan of a text in pieces as plain data, for `impl Model` alone
abbrev pub stream_code : Coded StreamAt
stream_code =
    code_by ((Tree × (List ℕ × List (ℤ × ℕ))) × (ℕ × ℕ)) (coded× (coded× coded_tree (coded× (coded_list coded_ℕ) (coded_list (coded× coded_ℤ coded_ℕ)))) (coded× coded_ℕ coded_ℕ))
    (λ s. ((s.tree, (s.suffix, s.pending)), (s.read, s.place)))
    (λ p. record { tree = p.0.0; suffix = p.0.1.0; pending = p.0.1.1; read = p.1.0; place = p.1.1 })
    (λ _. refl)

-- the keys that are still to be given in a piece: those that end here, and those that end in the rest of the piece
abbrev pub left_in : StreamAt → List ℕ → List Occurrence
left_in at piece = map (occurrence_ending at.place) at.pending ++ all_ending at.tree at.suffix at.place (drop at.read piece)

-- where a scan between two keys is: the slot of the suffix that it stands for, and the index of the first key that is still to be given
pub record IsStream (t : Tree) (slot_of : List ℕ → ℕ) (states : List State) (keys : List ListedKey) (slot waiting position : ℕ) : Type 0 where
  pub automaton : IsAutomaton t slot_of states keys
  pub suffix : List ℕ
  pub node : is_node t suffix ≡ true
  pub at : slot ≡ slot_of suffix
  pub pending : waiting < length keys
  pub short : All (λ (found : ℤ × ℕ). found.1 ≤ length suffix) (keys_from keys waiting)
  pub within : length suffix ≤ position

-- no key is left in a piece: a scan has read it, and is before the next one
pub record EndsPiece (piece : List ℕ) (old new : StreamAt) : Type 0 where
  pub left : left_in old piece ≡ []
  pub tree : new.tree ≡ old.tree
  pub suffix : new.suffix ≡ held_suffix old.tree (old.suffix ++ drop old.read piece)
  pub pending : new.pending ≡ []
  pub read : new.read ≡ 0
  pub place : new.place ≡ old.place + (length piece - old.read)

-- a scan gives a key of a piece, the first that was left in it
pub record GivesInPiece (piece : List ℕ) (old : StreamAt) (spot : Occurrence) (new : StreamAt) : Type 0 where
  pub left : left_in old piece ≡ spot ∷ left_in new piece
  pub tree : new.tree ≡ old.tree
  pub suffix : held_suffix old.tree (new.suffix ++ drop new.read piece) ≡ held_suffix old.tree (old.suffix ++ drop old.read piece)
  pub place : new.place + (length piece - new.read) ≡ old.place + (length piece - old.read)

-- a scan gives the next key of a piece (`GivesInPiece`), or none is left (`EndsPiece`)
abbrev pub NextInPiece : List ℕ → StreamAt → Option Occurrence → StreamAt → Type 0
NextInPiece piece old next new = MatchOption next (EndsPiece piece old new) (λ spot. GivesInPiece piece old spot new)

-- a scan takes at most two steps for each byte that it reads, one more for each byte by which the suffix is shorter then or one less for
-- each by which it is longer, and one for the key
abbrev pub CostsInPiece : StreamAt → Option Occurrence → StreamAt → ℕ → ℕ → Type 0
CostsInPiece old next new before after = after + length new.suffix + 2 * old.place ≤ before + length old.suffix + 2 * new.place + (if is_some next then 1 else 0)
