-- What the steps of a build do.
use Rattle.std.specs.Prelude.{◌≡◌, ◌⊎◌, ◌+◌, ◌*◌, ◌<◌, ◌≤◌, ℕ, ℤ, drop, length, List, [], ◌∷◌}
use Rattle.std.specs.Prelude.{◌++◌, map, None, Option, option_to_list, Some, take, true}
use Rattle.cedar_model.specs.Tree.{Forest, IsAscending, none, Tree}
use Rattle.cedar_model.specs.Queries.{Entry, prefixes}
use Rattle.cedar_model.specs.Edits.{add_leaf, edit_at}
use Rattle.cedar_slots.specs.declared.shortage.Shortage.{Shortage}
use Rattle.cedar_slots.specs.declared.shortage.Shortage.TheVariants.{Memory, SlotLimit}
use Rattle.cedar_model.specs.Edit.NodeEdits.{IsAt}
use Rattle.cedar_model.specs.Edit.Steps.{blocks_after}
use Rattle.cedar_model.specs.Meaning.Family.{base_of}
use Rattle.cedar_model.specs.Meaning.StandsFor.{labels}
use Rattle.cedar_model.specs.Meaning.WellFormed.{cells_in, TableHolds}
use Rattle.cedar_model.specs.Table.Layouts.{LayoutKind, reduced_layout}
use Rattle.cedar_model.specs.Table.TableFields.{capacity_of, Fields, size_of}
use Rattle.cedar_bulk.specs.declared.spans.Span.{Span}
use Rattle.cedar_bulk.specs.Sorted.{entries_by, Fills}
use Rattle.cedar_bulk.specs.SortedMarks.{KeepsOwn}
use Rattle.cedar_bulk.specs.Spans.{based_at, Covers, Filling, IsTreeOfSpan, Part, part_of, parts_of}
use Rattle.cedar_bulk.specs.Spans.{work}

-- ---- one node

-- a table's tree, whose labels ascend, gets a leaf at label l of slot a, behind all of its labels
abbrev pub AppendsLeaf : Fields → Fields → ℕ → ℕ → Type 0
AppendsLeaf before after a l =
    (f : Forest) (w : List ℕ) → TableHolds before f → IsAscending f → IsAt (cells_in before) w a
    → TableHolds after (edit_at w (λ n. n) (add_leaf true l) f)

-- a node with these labels keeps its number, which is v, in its own base field
abbrev pub StaysOwn : LayoutKind → Option ℤ → List ℕ → ℤ → Type 0
StaysOwn layout number ls v = (number ≡ Some v) × (length ls ≡ 0) × (layout ≡ reduced_layout)

-- a node with these labels keeps no number in its own base field
abbrev pub StaysBare : LayoutKind → Option ℤ → List ℕ → Type 0
StaysBare layout number ls = layout ≡ reduced_layout → length ls ≡ 0 → number ≡ None

-- ---- the node of a span, whose entries have just one tree

-- the node of a span gets its number and its labels, as `Fills` says
abbrev pub FillsSpan : {K : Type 0} → (K → List ℕ) → Fields → Fields → Span K → Type 0
FillsSpan bytes before after span =
    (t : Tree) → IsTreeOfSpan span.depth (entries_by bytes span.pairs.now) t
    → Fills (size_of before) (size_of after) (cells_in before) (cells_in after) span.node t.number (labels t.children)

-- the node of a span without labels keeps its number in its own base field in the reduced layout, as `KeepsOwn` says
abbrev pub KeepsOwnOf : {K : Type 0} → (K → List ℕ) → LayoutKind → Fields → Span K → Type 0
KeepsOwnOf bytes layout after span =
    (t : Tree) → IsTreeOfSpan span.depth (entries_by bytes span.pairs.now) t
    → KeepsOwn layout (cells_in after) span.node t.number (labels t.children)

-- some spans are those before, and behind them those of the children of f, whose slots begin at a base
abbrev pub AddsSpans : {K : Type 0} → (K → List ℕ) → ℕ → Forest → List (Span K) → List (Span K) → Type 0
AddsSpans bytes base f before after =
    (parts : List Part) × (parts_of bytes after ≡ parts_of bytes before ++ parts) × Covers base parts f none

-- the spans of a span's children are added to those before
abbrev pub AddsChildren : {K : Type 0} → (K → List ℕ) → Fields → Span K → List (Span K) → List (Span K) → Type 0
AddsChildren bytes table span before after =
    (t : Tree) → IsTreeOfSpan span.depth (entries_by bytes span.pairs.now) t
    → AddsSpans bytes (base_of (cells_in table) span.node) t.children before after

-- the spans are those of a span's children
abbrev pub CoversChildren : {K : Type 0} → (K → List ℕ) → Fields → Span K → List (Span K) → Type 0
CoversChildren bytes table span spans =
    (t : Tree) → IsTreeOfSpan span.depth (entries_by bytes span.pairs.now) t
    → Covers (base_of (cells_in table) span.node) (parts_of bytes spans) t.children none

-- the parts with a base for those behind the first n
abbrev pub based_behind : ℕ → ℕ → List Part → List Part
based_behind n base parts = take n parts ++ map (based_at base) (drop n parts)

-- ---- a turn

-- a table on its way to a tree, for which a span waits behind others, is on its way with the others alone
abbrev pub FillsTail : ℕ → Fields → Fields → Part → Type 0
FillsTail slots before after s =
    (ps : List Part) (g : Forest) (most : ℕ) → Filling slots before (ps ++ s ∷ []) g most → Filling slots after ps g most

-- each tree that a table on its way may come to, with this span behind others, wants more than all slots
abbrev pub WantsMore : ℕ → Fields → Part → Type 0
WantsMore slots T s = (ps : List Part) (g : Forest) (most : ℕ) → Filling slots T (ps ++ s ∷ []) g most → slots < 256 * most

-- a table on its way to a tree, for which these spans wait, is on its way with those of another list, which have less
-- to do
abbrev pub TakesTurn : ℕ → Fields → Fields → List Part → List Part → Type 0
TakesTurn slots before after parts left =
    (g : Forest) (most : ℕ) → Filling slots before parts g most → Filling slots after left g most × (work left < work parts)

-- the turn of a span that comes behind those that wait leaves others that wait, and the span whose turn is next, if there is one
-- (`TakesTurn`)
abbrev pub TurnsNext : {K : Type 0} → (K → List ℕ) → ℕ → Fields → Fields → List (Span K) → Span K → List (Span K) → Option (Span K) → Type 0
TurnsNext bytes slots before after waiting span left next =
    TakesTurn slots before after (parts_of bytes waiting ++ part_of bytes span ∷ []) (parts_of bytes (left ++ option_to_list next))

-- ---- the whole

-- a table on its way to a tree, for which these spans wait, comes to it
abbrev pub EndsFilling : ℕ → Fields → Fields → List Part → Type 0
EndsFilling slots before after parts =
    (g : Forest) (most : ℕ) → Filling slots before parts g most → Filling slots after [] g most

-- each tree that a table on its way with these spans may come to wants more than all slots
abbrev pub WantsMoreThan : ℕ → Fields → List Part → Type 0
WantsMoreThan slots T parts = (g : Forest) (most : ℕ) → Filling slots T parts g most → slots < 256 * most

-- P holds of the children of the one tree that the entries have, whose root has no number
abbrev pub OfTree : List Entry → (Forest → Type 0) → Type 0
OfTree entries P = (t : Tree) → IsTreeOfSpan 0 entries t → t.number ≡ None → P t.children

-- memory is lacking, or else slots, and then P holds
abbrev pub LacksMemoryOr : Type 0 → Shortage → Type 0
LacksMemoryOr P error = (error ≡ Memory) ⊎ ((error ≡ SlotLimit) × P)

-- a new table has at most one block for each nonempty prefix of a key of the tree t, beside the first one
abbrev pub HasBlocksFor : Tree → Fields → Type 0
HasBlocksFor t T =
    (n : ℕ) × (n ≤ length (prefixes t)) × (size_of T ≡ 256 + 256 * n) × (capacity_of T ≡ 256 * blocks_after n 1 1)
