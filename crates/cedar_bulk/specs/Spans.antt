-- Spans: each a run of pairs whose keys have the same first bytes, with the node to which these lead, that waits for
-- what is below it.
use Rattle.std.specs.Prelude.{◌≡◌, ◌⊎◌, ℕ, ◌+◌, ◌≤◌, ◌<◌, nat_lt, bit_xor, cond, ℤ, false, List, []}
use Rattle.std.specs.Prelude.{◌∷◌, length, map, drop, Option, Some, None, IfSome, true}
use Rattle.cedar_model.specs.Tree.{AllNumbers, Forest, none, child, Tree, is_bare}
use Rattle.cedar_model.specs.Tree.{IsAscending, IsSoundBelow}
use Rattle.cedar_model.specs.Queries.{Entry, prefixes_forest, walk, walk_forest}
use Rattle.cedar_model.specs.Edits.{edit_at}
use Rattle.cedar_model.specs.declared.layout.Stored.TheVariants.{AtBase}
use Rattle.cedar_bulk.specs.declared.spans.Span.{Span}
use Rattle.cedar_model.specs.Table.Cells.{Cells}
use Rattle.cedar_model.specs.Edit.NodeEdits.{IsAt}
use Rattle.cedar_model.specs.Meaning.Family.{Among}
use Rattle.cedar_slots.specs.Places.{IsTable}
use Rattle.cedar_model.specs.Meaning.StandsFor.{HoldsTree}
use Rattle.cedar_bulk.specs.Sorted.{entries_by, label_of, run}
use Rattle.cedar_bulk.specs.SortedMarks.{KeepsLast}
use Rattle.cedar_model.specs.Table.Layouts.{reduced_layout}
use Rattle.cedar_model.specs.Table.TableFields.{Fields, size_of}
use Rattle.cedar_model.specs.Meaning.WellFormed.{cells_in, is_value}

-- what a span is, whatever the type of the keys: the slot of its node, how many bytes lead to it (`depth`), and its
-- entries
pub record Part : Type 0 where
  pub node : ℕ
  pub depth : ℕ
  pub entries : List Entry

-- the part of a span whose keys lend these bytes
abbrev pub part_of : {K : Type 0} → (K → List ℕ) → Span K → Part
part_of bytes span = record { node = span.node; depth = span.depth; entries = entries_by bytes span.pairs.now }

-- the parts of some spans
abbrev pub parts_of : {K : Type 0} → (K → List ℕ) → List (Span K) → List Part
parts_of bytes spans = map (part_of bytes) spans

-- the entries without the first d bytes of each key
abbrev pub entries_behind : ℕ → List Entry → List Entry
entries_behind d [] = []
entries_behind d (e ∷ es) = (drop d e.0, e.1) ∷ entries_behind d es

-- the number of the first entry, if its key has no more than d bytes
abbrev pub first_number : ℕ → List Entry → Option ℤ
first_number d [] = None
first_number d (e ∷ es) = cond (nat_lt d (length e.0)) None (Some e.1)

-- the label of the first entry behind its first d bytes, or 0 if there is none
abbrev pub first_label : ℕ → List Entry → ℕ
first_label d [] = 0
first_label d (e ∷ es) = label_of d e

-- the key of the first entry has more than d bytes
abbrev pub IsDeeper : ℕ → List Entry → Type 0
IsDeeper d [] = ⊥
IsDeeper d (e ∷ es) = d < length e.0

-- all entries have more than d bytes, and the same label behind these
abbrev pub GoesOnAlike : ℕ → List Entry → Type 0
GoesOnAlike d es = IsDeeper d es × (run d (first_label d es) es ≡ length es)

-- there is one entry, or all go on alike (`GoesOnAlike`)
abbrev pub IsAlike : ℕ → List Entry → Type 0
IsAlike d es = (length es ≡ 1) ⊎ GoesOnAlike d es

-- the entries are just what is below a node with these children, d bytes deep
pub record Lists (d : ℕ) (entries : List Entry) (f : Forest) : Type 0 where
  pub walks : walk_forest f ≡ entries_behind d entries
  pub sound : IsSoundBelow f
  pub ascending : IsAscending f

-- the parts are those of the first children of f, one for each, whose slots begin at the base; `todo` are the other
-- children
abbrev pub Covers : ℕ → List Part → Forest → Forest → Type 0
Covers base [] f todo = f ≡ todo
Covers base (s ∷ ss) none todo = ⊥
Covers base (s ∷ ss) (child l n u rest) todo =
    (s.node ≡ bit_xor base l) × (walk (record { number = n; children = u }) ≡ entries_behind s.depth s.entries) × Covers base ss rest todo

-- a part whose slots began at 0, at a base
abbrev pub based_at : ℕ → Part → Part
based_at base s = record { node = bit_xor base s.node; depth = s.depth; entries = s.entries }

-- how many bytes and entries there are
abbrev pub entry_bytes : List Entry → ℕ
entry_bytes [] = 0
entry_bytes (e ∷ es) = 1 + length e.0 + entry_bytes es

-- how much is left to do with these parts
abbrev pub work : List Part → ℕ
work [] = 0
work (s ∷ ss) = entry_bytes (entries_behind s.depth s.entries) + work ss

-- each number of the tree t may be the value of a key
abbrev pub HasValues : Tree → Type 0
HasValues t = IfSome t.number (λ v. is_value v ≡ true) × AllNumbers (λ v. is_value v ≡ true) t.children

-- the entries are just what the tree t has, d bytes deep; and t isn't bare
pub record IsTreeOfSpan (d : ℕ) (entries : List Entry) (t : Tree) : Type 0 where
  pub walks : walk t ≡ entries_behind d entries
  pub some : is_bare t ≡ false
  pub sound : IsSoundBelow t.children
  pub ascending : IsAscending t.children
  pub values : HasValues t

-- a span waits for the tree t at the path w, where the table has a leaf without number and base
pub record Awaits (T : Cells) (s : Part) (w : List ℕ) (t : Tree) : Type 0 where
  pub at : IsAt T w s.node
  pub leaf : T.stored s.node ≡ AtBase 0
  pub not_root : s.node ≡ 0 → ⊥
  pub tree : IsTreeOfSpan s.depth s.entries t

-- the tree f becomes g once the nodes that wait get their trees, the last one first; these have n nodes
abbrev pub Pending : Cells → List Part → Forest → Forest → ℕ → Type 0
Pending T [] f g n = (f ≡ g) × (n ≡ 0)
Pending T (s ∷ ss) f g n =
    (w : List ℕ) × (t : Tree) × (h : Forest) × (m : ℕ) × Awaits T s w t × (edit_at w (λ _. t.number) (λ _. t.children) h ≡ g)
    × (n ≡ 1 + length (prefixes_forest t.children) + m) × Pending T ss f h m

-- no number comes twice
abbrev pub Distinct : List ℕ → Type 0
Distinct [] = Unit {0}
Distinct (x ∷ xs) = (Among xs x → ⊥) × Distinct xs

-- the nodes' slots of some parts
abbrev pub nodes_of : List Part → List ℕ
nodes_of spans = map (λ s. s.node) spans

-- a table is on its way to the tree with the children g, and so many blocks and nodes may still come
pub record Filling (slots : ℕ) (T : Fields) (spans : List Part) (g : Forest) (most : ℕ) : Type 0 where
  pub table : IsTable slots T.places
  pub forest : Forest
  pub holds : HoldsTree (size_of T) (cells_in T) forest
  pub ascending : IsAscending forest
  pub own : T.layout ≡ reduced_layout → KeepsLast (cells_in T) forest
  pub left : ℕ
  pub pending : Pending (cells_in T) spans forest g left
  pub distinct : Distinct (nodes_of spans)
  pub blocks : T.places.blocks.active + left ≤ most
