-- Sorted pairs, of which a table is made at once, a node with all of its labels after the other.
use Rattle.std.specs.Prelude.{◌≡◌, ℕ, ◌+◌, ◌==◌, cond, ℤ, true, List, [], ◌∷◌, ◌++◌, map}
use Rattle.std.specs.Prelude.{get_or, Option, Some, None, MatchOption, ◌⊎◌}
use Rattle.std.specs.Borrow.{Bor}
use Rattle.cedar_model.specs.Tree.{Forest, none, child, empty_tree, IsAscending}
use Rattle.cedar_model.specs.Queries.{Entry, node_at}
use Rattle.cedar_model.specs.Edits.{edit_at}
use Rattle.cedar_model.specs.declared.layout.Stored.TheVariants.{AtBase}
use Rattle.cedar_model.specs.Table.Cells.{Cells, Held}
use Rattle.cedar_model.specs.Edit.NodeEdits.{GoesBehind, GoesFirst, IsAt, IsNodeOf}
use Rattle.cedar_model.specs.Meaning.Family.{Among, below, InRange}
use Rattle.cedar_model.specs.Meaning.StandsFor.{HoldsTree}
use Rattle.cedar_model.specs.Edit.Steps.{root_of}

-- ---- pairs

-- a key and its number
abbrev pub Pair : Type 0
Pair = Bor (List ℕ) × ℤ

-- the pairs as entries of a tree
abbrev pub entries_of : List Pair → List Entry
entries_of pairs = map (λ p. (p.0.now, p.1)) pairs

-- the entries of pairs whose keys lend these bytes, as texts and byte strings do
abbrev pub entries_by : {K : Type 0} → (K → List ℕ) → List (K × ℤ) → List Entry
entries_by bytes pairs = map (λ p. (bytes p.0, p.1)) pairs

-- the byte of an entry's key behind its first d ones, or 0 if there is none
abbrev pub label_of : ℕ → Entry → ℕ
label_of d entry = get_or entry.0 d 0

-- how many of the first entries have the label l behind their first d bytes
abbrev pub run : ℕ → ℕ → List Entry → ℕ
run d l [] = 0
run d l (e ∷ es) = cond (label_of d e == l) (1 + run d l es) 0

-- ---- a node's labels, one behind the other

-- children with these labels, without number and child
abbrev pub leaves : List ℕ → Forest
leaves [] = none
leaves (l ∷ ls) = child l None none (leaves ls)

-- the label l goes behind all of slot a's chain: right behind the slot `before`, or first of all
pub record GoesLast (size : ℕ) (T : Cells) (a l : ℕ) (before : Option ℕ) : Type 0 where
  pub goes : MatchOption before (GoesFirst T true a l) (λ b. GoesBehind size T true a l b)
  pub last : MatchOption before (T.child a ≡ 0) (λ b. T.sibling b ≡ 0)

-- slot a, which had no label, has these labels now, each a leaf that has no base yet; nothing else has changed
pub record GetsLabels (size : ℕ) (T T' : Cells) (a : ℕ) (ls : List ℕ) : Type 0 where
  pub tree : (f : Forest) (w : List ℕ) → HoldsTree size T f → IsAscending f → IsAt T w a → (node_at (root_of f) w).children ≡ none → HoldsTree size T' (edit_at w (λ n. n) (λ _. leaves ls) f)
  pub paths : (w : List ℕ) (s : ℕ) → IsAt T w s → IsAt T' w s
  pub stays : (x : ℕ) → Held T x → T'.stored x ≡ T.stored x
  pub keeps : (x : ℕ) → Held T x → Held T' x
  pub held : (x : ℕ) → Held T' x → Held T x ⊎ ((l : ℕ) × Among ls l × (x ≡ below T a l))
  pub leaf : (l : ℕ) → Among ls l → T'.stored (below T a l) ≡ AtBase 0
  pub at : (w : List ℕ) (l : ℕ) → IsAt T w a → Among ls l → IsAt T' (w ++ l ∷ []) (below T a l)

-- slot a, which had neither number nor label, has this number now, if it is one, in the slot of label 0; nothing else
-- has changed
pub record GetsNumber (size : ℕ) (T T' : Cells) (a : ℕ) (number : Option ℤ) : Type 0 where
  pub tree : (f : Forest) (w : List ℕ) → HoldsTree size T f → IsAt T w a → node_at (root_of f) w ≡ empty_tree → HoldsTree size T' (edit_at w (λ _. number) (λ u. u) f)
  pub paths : (w : List ℕ) (s : ℕ) → IsAt T w s → IsAt T' w s
  pub stays : (x : ℕ) → Held T x → T'.stored x ≡ T.stored x
  pub keeps : (x : ℕ) → Held T x → Held T' x
  pub held : (x : ℕ) → Held T' x → Held T x ⊎ (x ≡ below T a 0)

-- the labels of a node's slots, of which 0 stands for its number
abbrev pub slot_labels : Option ℤ → List ℕ → List ℕ
slot_labels None ls = ls
slot_labels (Some v) ls = 0 ∷ ls

-- slot a has a base now from which the slots of all these labels are free; the tree is as before
pub record GetsBase (size size' : ℕ) (T T' : Cells) (a : ℕ) (ls : List ℕ) : Type 0 where
  pub tree : (f : Forest) → HoldsTree size T f → HoldsTree size' T' f
  pub paths : (w : List ℕ) (s : ℕ) → IsAt T w s → IsAt T' w s
  pub stays : (x : ℕ) → Held T x → (x ≡ a → ⊥) → T'.stored x ≡ T.stored x
  pub keeps : (x : ℕ) → Held T x → Held T' x
  pub held : (x : ℕ) → Held T' x → Held T x
  pub based : (a ≡ 0 → ⊥) → InRange size' (T'.stored a)
  pub free : (l : ℕ) → Among ls l → Held T' (below T' a l) → ⊥

-- slot a, which had neither number nor label nor base, gets a base, this number and these labels, each a leaf that
-- has no base yet; nothing else changes
pub record Fills (size size' : ℕ) (T T' : Cells) (a : ℕ) (number : Option ℤ) (ls : List ℕ) : Type 0 where
  pub tree : (f : Forest) (w : List ℕ) → HoldsTree size T f → IsAscending f → IsAt T w a → node_at (root_of f) w ≡ empty_tree → HoldsTree size' T' (edit_at w (λ _. number) (λ _. leaves ls) f)
  pub paths : (w : List ℕ) (s : ℕ) → IsAt T w s → IsAt T' w s
  pub stays : (x : ℕ) → Held T x → (x ≡ a → ⊥) → T'.stored x ≡ T.stored x
  pub keeps : (x : ℕ) → Held T x → Held T' x
  pub leaf : (l : ℕ) → Among ls l → T'.stored (below T' a l) ≡ AtBase 0
  pub fresh : (l : ℕ) → Among ls l → Held T (below T' a l) → ⊥
  pub at : (w : List ℕ) (l : ℕ) → IsAt T w a → Among ls l → IsAt T' (w ++ l ∷ []) (below T' a l)

-- slot a is a node that has neither number nor label, in a tree whose labels ascend
abbrev pub IsBareNode : ℕ → Cells → ℕ → Type 0
IsBareNode size T a = (f : Forest) × (n : IsNodeOf size T true f a) × (node_at (root_of f) n.path ≡ empty_tree)

-- slot a is a node that has no label, in a tree whose labels ascend
abbrev pub IsChildless : ℕ → Cells → ℕ → Type 0
IsChildless size T a = (f : Forest) × (n : IsNodeOf size T true f a) × ((node_at (root_of f) n.path).children ≡ none)
