-- How full the blocks of a table are that is made of sorted pairs. One slot alone goes wherever a slot is free. So
-- blocks are made for nodes that take several slots at once, or if all blocks but the first are full.
use Rattle.std.specs.Prelude.{◌≡◌, ◌⊎◌, ℕ, ◌+◌, ◌*◌, ◌≤◌, nat_lt, cond, ℤ, List, []}
use Rattle.std.specs.Prelude.{◌∷◌, ◌++◌, length, Option, option_to_list}
use Rattle.cedar_model.specs.Tree.{Forest, none, child, Tree}
use Rattle.cedar_bulk.specs.declared.spans.Span.{Span}
use Rattle.cedar_model.specs.Edit.Packing.{Packs, TakesOne}
use Rattle.cedar_model.specs.Meaning.StandsFor.{labels}
use Rattle.cedar_model.specs.Table.TableFields.{Fields}
use Rattle.cedar_bulk.specs.Sorted.{entries_by, slot_labels}
use Rattle.cedar_bulk.specs.Spans.{Filling, IsTreeOfSpan, Part, part_of, parts_of}

-- ---- the tree

-- 1 for a node that takes several slots, for several labels, or for a number and a label; and otherwise 0
abbrev pub crowd : Option ℤ → List ℕ → ℕ
crowd number ls = cond (nat_lt 1 (length (slot_labels number ls))) 1 0

-- how many of these siblings and of the nodes below them take several slots
abbrev pub count_crowded_forest : Forest → ℕ
count_crowded_forest none = 0
count_crowded_forest (child l n u rest) = crowd n (labels u) + count_crowded_forest u + count_crowded_forest rest

-- how many nodes below the root of the tree t take several slots
abbrev pub count_crowded : Tree → ℕ
count_crowded t = count_crowded_forest t.children

-- ---- the table

-- in a table of the tree t at most 255 slots outside block 0 are free, and 256 others for each node that takes
-- several slots
abbrev pub IsPacked : Tree → Fields → Type 0
IsPacked t T = Packs (length (labels t.children)) (256 * count_crowded t) T

-- ---- one node

-- a step that fills the node of a span is as `TakesOne` says, or the node takes several slots
abbrev pub PacksSpan : {K : Type 0} → (K → List ℕ) → Fields → Fields → Span K → Type 0
PacksSpan bytes before after span =
    (t : Tree) → IsTreeOfSpan span.depth (entries_by bytes span.pairs.now) t → TakesOne before after ⊎ (crowd t.number (labels t.children) ≡ 1)

-- ---- a turn

-- n of the nodes that wait, and of those below them, take several slots
abbrev pub Crowds : List Part → ℕ → Type 0
Crowds [] n = n ≡ 0
Crowds (s ∷ ss) n =
    (t : Tree) × (m : ℕ) × IsTreeOfSpan s.depth s.entries t × (n ≡ crowd t.number (labels t.children) + count_crowded t + m) × Crowds ss m

-- a table on its way to the tree with the children g, for which these spans wait, has few free slots for the nodes
-- that it has
pub record Packed (T : Fields) (spans : List Part) (g : Forest) : Type 0 where
  pub filled : ℕ
  pub left : ℕ
  pub waits : Crowds spans left
  pub whole : filled + left ≤ count_crowded_forest g
  pub packs : Packs (length (labels g)) (256 * filled) T

-- a step that fills one key's tail leaves as few slots free: what a table on its way with this span behind others has
-- free at most, it has without the span
abbrev pub PacksTail : ℕ → Fields → Fields → Part → Type 0
PacksTail slots before after s =
    (ps : List Part) (g : Forest) (most spare : ℕ) → Filling slots before (ps ++ s ∷ []) g most → Packs (length (labels g)) spare before
    → Packs (length (labels g)) spare after

-- a turn leaves as few slots free: a table on its way with these spans that has few free slots has few with those
abbrev pub PacksTurn : ℕ → Fields → Fields → List Part → List Part → Type 0
PacksTurn slots before after parts left = (g : Forest) (most : ℕ) → Filling slots before parts g most → Packed before parts g → Packed after left g

-- the turn of a span that comes behind those that wait leaves as few slots free (`PacksTurn`)
abbrev pub PacksNext : {K : Type 0} → (K → List ℕ) → ℕ → Fields → Fields → List (Span K) → Span K → List (Span K) → Option (Span K) → Type 0
PacksNext bytes slots before after waiting span left next =
    PacksTurn slots before after (parts_of bytes waiting ++ part_of bytes span ∷ []) (parts_of bytes (left ++ option_to_list next))
