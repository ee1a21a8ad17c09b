-- A table on the way to the tree of sorted pairs, one node after another.
use Rattle.std.proofs.Common.{◌≡◌, ℕ, ◌+◌, ◌*◌, ◌<◌, ◌≤◌, ◌∙◌, sym, ap, subst, refl, inl, inr, arith, false, Option, Some, None, List, [], ◌∷◌, ◌++◌, length, Result, Ok, Err}
use Rattle.std.proofs.lemmas.Bool.{true≢false}
use Rattle.cedar_slots.specs.declared.shortage.Shortage.{Shortage}
use Rattle.std.specs.Prelude.{ℤ, IfErr, OnOk}
use Rattle.cedar_model.specs.Tree.{child, empty_tree, Forest, is_bare, none, Tree, IsAscending}
use Rattle.cedar_model.specs.Queries.{node_at, prefixes_forest}
use Rattle.cedar_model.specs.Edits.{edit_at}
use Rattle.cedar_model.specs.declared.layout.Stored.TheVariants.{AtBase}
use Rattle.cedar_model.specs.Table.Cells.{Held}
use Rattle.cedar_model.specs.Edit.NodeEdits.{Above, IsAt}
use Rattle.cedar_model.specs.Meaning.Family.{Among, base_of}
use Rattle.cedar_model.specs.Meaning.StandsFor.{HoldsTree, labels}
use Rattle.cedar_slots.specs.Places.{IsTable}
use Rattle.cedar_bulk.specs.Sorted.{Fills, IsBareNode, leaves}
use Rattle.cedar_bulk.specs.Spans.{Covers, Distinct, Filling, IsTreeOfSpan, nodes_of, Part, Pending, work}
use Rattle.cedar_model.specs.Edit.Steps.{MakesBlocks, root_of}
use Rattle.cedar_model.specs.Table.TableFields.{Fields, size_of}
use Rattle.cedar_model.specs.Meaning.WellFormed.{cells_in}
use Rattle.cedar_bulk.specs.SortedMarks.{KeepsOwn}
use Rattle.cedar_model.specs.Table.Layouts.{reduced_layout}
use Rattle.cedar_bulk.proofs.BulkLemmas.InnerKeys.{last_kept, leaves_keep}
use Rattle.cedar_bulk.proofs.BulkLemmas.LabelByLabel.{ascending_leaves}
use Rattle.cedar_model.proofs.EditLemmas.AtPath.{held_node}
use Rattle.cedar_bulk.proofs.BulkLemmas.BareNode.{bare_leaf}
use Rattle.cedar_bulk.proofs.BulkLemmas.OneAfterAnother.{ascending_edit}
use Rattle.cedar_bulk.proofs.BulkLemmas.Pending.{children_wait, covers_distinct, distinct_on, last_apart, less_work, pending_at, pending_join, pending_kept, pending_split}
use Rattle.cedar_bulk.proofs.BulkLemmas.Spans.{all_positive}
use Rattle.cedar_model.proofs.MeaningLemmas.TreeOf.{in_use}
use Rattle.cedar_model.proofs.MeaningLemmas.AmongLabels.{above_labels}

-- ---- a node that was filled

module _ (T T' : Fields) (f : Forest) (w : List ℕ) (a : ℕ) (t : Tree) (cs : List Part) (d : ℕ) (ps : _) (holds : HoldsTree (size_of T) (cells_in T) f) (up : IsAscending f) (at : IsAt (cells_in T) w a) (bare : node_at (root_of f) w ≡ empty_tree)
    (tree : IsTreeOfSpan d ps t) (fills : Fills (size_of T) (size_of T') (cells_in T) (cells_in T') a t.number (labels t.children)) (covers : Covers (base_of (cells_in T') a) cs t.children none) where
  abbrev filled_forest : Forest
  filled_forest = edit_at w (λ _. t.number) (λ _. leaves (labels t.children)) f

  labels_up : Above 0 (labels t.children)
  labels_up = above_labels 0 t.children (all_positive t.children tree.sound) tree.ascending

  pub filled_holds : HoldsTree (size_of T') (cells_in T') filled_forest
  filled_holds = fills.tree f w holds up at bare

  pub filled_ascending : IsAscending filled_forest
  filled_ascending = ascending_edit w (λ _. t.number) (λ _. leaves (labels t.children)) (λ _ _. ascending_leaves 0 (labels t.children) labels_up) f up

  pub filled_pending : Pending (cells_in T') cs filled_forest (edit_at w (λ _. t.number) (λ _. t.children) f) (length (prefixes_forest t.children))
  filled_pending =
      children_wait (cells_in T') f w t.number (base_of (cells_in T') a) cs [] t.children covers tree.sound tree.ascending tree.values.1 (λ l among h. h)
      (λ l among. (fills.at w l at among, fills.leaf l among, λ z. fills.fresh l among (inl z)))

-- ---- the span that comes next

-- what is known of it
pub record Next (T : Fields) (s : Part) : Type 0 where
  pub inside : s.node < size_of T
  pub node : IsBareNode (size_of T) (cells_in T) s.node
  pub leaf : (cells_in T).stored s.node ≡ AtBase 0
  pub tree : (t : Tree) × IsTreeOfSpan s.depth s.entries t × (s.node ≡ 0 → t.number ≡ None)
  pub not_root : s.node ≡ 0 → ⊥

pub next_span : (slots : ℕ) (T : Fields) (ps : List Part) (s : Part) (g : Forest) (most : ℕ) → Filling slots T (ps ++ s ∷ []) g most → Next T s
next_span slots T ps s g most k =
    by_split (pending_split (cells_in T) ps s k.forest g k.left k.pending)
  where
    by_split : (h : Forest) × (m : ℕ) × (j : ℕ) × (k.left ≡ m + j) × Pending (cells_in T) (s ∷ []) k.forest h m × Pending (cells_in T) ps h g j → Next T s
    by_split (h, m, j, count, (w, t, h₀, m₀, awaits, edits, is, rest), others) =
        let owner = held_node (cells_in T) w s.node awaits.at in record {
          inside = by_owner owner awaits.not_root;
          node = (k.forest, record { holds = k.holds; ascending = λ _. k.ascending; path = w; at = awaits.at }, bare_leaf (size_of T) (cells_in T) k.forest w s.node k.holds awaits.at awaits.not_root awaits.leaf);
          leaf = awaits.leaf;
          tree = (t, awaits.tree, λ z. absurd (awaits.not_root z));
          not_root = awaits.not_root;
        }
      where
        by_owner : Held (cells_in T) s.node → (s.node ≡ 0 → ⊥) → s.node < size_of T
        by_owner (inl z) n = absurd (n z)
        by_owner (inr o) n = in_use T s.node o.0 o.1

-- once its node was filled, its children wait
pub filling_on : (slots : ℕ) (T T' : Fields) (ps : List Part) (s : Part) (new : List Part) (g : Forest) (most n : ℕ) → IsTable slots T'.places → Filling slots T (ps ++ s ∷ []) g most
    → ((t : Tree) → IsTreeOfSpan s.depth s.entries t → Fills (size_of T) (size_of T') (cells_in T) (cells_in T') s.node t.number (labels t.children))
    → ((t : Tree) → IsTreeOfSpan s.depth s.entries t → (cs : List Part) × (new ≡ ps ++ cs) × Covers (base_of (cells_in T') s.node) cs t.children none)
    → n ≤ 1 → MakesBlocks n T T' → T'.layout ≡ T.layout → ((t : Tree) → IsTreeOfSpan s.depth s.entries t → KeepsOwn T.layout (cells_in T') s.node t.number (labels t.children)) → Filling slots T' new g most × (work new < work (ps ++ s ∷ []))
filling_on slots T T' ps s new g most n table k fills spans one made layout own =
    by_split (pending_split (cells_in T) ps s k.forest g k.left k.pending)
  where
    by_split : (h : Forest) × (m : ℕ) × (j : ℕ) × (k.left ≡ m + j) × Pending (cells_in T) (s ∷ []) k.forest h m × Pending (cells_in T) ps h g j → Filling slots T' new g most × (work new < work (ps ++ s ∷ []))
    by_split (h, m, j, count, (w, t, h₀, m₀, awaits, edits, is, rest), others) =
        let bare = bare_leaf (size_of T) (cells_in T) k.forest w s.node k.holds awaits.at awaits.not_root awaits.leaf in
        let f = fills t awaits.tree in
        let c = spans t awaits.tree in
        let cs : List Part = c.0 in
        let p = filled_pending T T' k.forest w s.node t cs s.depth s.entries k.holds k.ascending awaits.at bare awaits.tree f c.2 in
        let whole : edit_at w (λ _. t.number) (λ _. t.children) k.forest ≡ h = ap (edit_at w (λ _. t.number) (λ _. t.children)) rest.0 ∙ edits in
        let apart = last_apart ps s k.distinct in
        let held : (x : ℕ) → Among (nodes_of ps) x → Held (cells_in T) x = λ x among. let way = pending_at (cells_in T) ps h g j others x among in held_node (cells_in T) way.0 x way.1 in
        let kept = pending_kept (cells_in T) (cells_in T') ps h g j f.paths (λ x among e. f.stays x (held x among) (λ same. apart (subst (Among (nodes_of ps)) same among)) ∙ e) others in
        let joined = pending_join (cells_in T') ps cs (edit_at w (λ _. t.number) (λ _. leaves (labels t.children)) k.forest) h g (length (prefixes_forest t.children)) j
        (subst (λ x. Pending (cells_in T') cs (edit_at w (λ _. t.number) (λ _. leaves (labels t.children)) k.forest) x (length (prefixes_forest t.children))) whole p) kept in
        let less = less_work (base_of (cells_in T') s.node) ps cs s t c.2 awaits.tree in (
          record {
            table = table;
            forest = edit_at w (λ _. t.number) (λ _. leaves (labels t.children)) k.forest;
            holds = filled_holds T T' k.forest w s.node t cs s.depth s.entries k.holds k.ascending awaits.at bare awaits.tree f c.2;
            ascending = filled_ascending T T' k.forest w s.node t cs s.depth s.entries k.holds k.ascending awaits.at bare awaits.tree f c.2;
            own = λ reduced.
                let was : T.layout ≡ reduced_layout = sym layout ∙ reduced in
                last_kept T.layout (size_of T) (size_of T') (cells_in T) (cells_in T') k.forest w s.node t.number (labels t.children) was (λ e. awaits.not_root (sym (subst (λ q. IsAt (cells_in T) q s.node) e awaits.at).1)) bare awaits.at awaits.leaf f (own t awaits.tree) (k.own was);
            left = length (prefixes_forest t.children) + j;
            pending = subst (λ xs. Pending (cells_in T') xs (edit_at w (λ _. t.number) (λ _. leaves (labels t.children)) k.forest) g (length (prefixes_forest t.children) + j)) (sym c.1) joined;
            distinct = subst (λ xs. Distinct (nodes_of xs)) (sym c.1) (distinct_on (cells_in T) ps s (base_of (cells_in T') s.node) cs t.children k.distinct c.2 awaits.tree.sound held f.fresh);
            blocks = omega (arith, k.blocks, count, is, one, made.active);
          },
          subst (λ xs. work xs < work (ps ++ s ∷ [])) (sym c.1) less,
        )

-- where no slot was left, there are as many blocks as nodes, or fewer
pub filling_refused : (slots : ℕ) (T : Fields) (ps : List Part) (s : Part) (g : Forest) (most : ℕ) → Filling slots T (ps ++ s ∷ []) g most → 256 * T.places.blocks.active ≡ slots → slots < 256 * most
filling_refused slots T ps s g most k all =
    by_split (pending_split (cells_in T) ps s k.forest g k.left k.pending)
  where
    by_split : (h : Forest) × (m : ℕ) × (j : ℕ) × (k.left ≡ m + j) × Pending (cells_in T) (s ∷ []) k.forest h m × Pending (cells_in T) ps h g j → slots < 256 * most
    by_split (h, m, j, count, (w, t, h₀, m₀, awaits, edits, is, rest), others) = omega (arith, k.blocks, count, is, all)

-- ---- the root

-- the first node to be filled is the root of a new table
pub filling_begins : (slots : ℕ) (T T' : Fields) (t : Tree) (d : ℕ) (ps : _) (cs : List Part) → IsTable slots T'.places → HoldsTree (size_of T) (cells_in T) none → IsTreeOfSpan d ps t → t.number ≡ None
    → Fills (size_of T) (size_of T') (cells_in T) (cells_in T') 0 t.number (labels t.children) → Covers (base_of (cells_in T') 0) cs t.children none → T'.places.blocks.active ≡ 1
    → Filling slots T' cs t.children (1 + length (prefixes_forest t.children))
filling_begins slots T T' t d ps cs table holds tree number fills covers one = record {
  table = table;
  forest = leaves (labels t.children);
  holds = filled_holds T T' none [] 0 t cs d ps holds tt (tt, refl) refl tree fills covers;
  ascending = filled_ascending T T' none [] 0 t cs d ps holds tt (tt, refl) refl tree fills covers;
  own = λ reduced. leaves_keep (cells_in T') (labels t.children);
  left = length (prefixes_forest t.children);
  pending = filled_pending T T' none [] 0 t cs d ps holds tt (tt, refl) refl tree fills covers;
  distinct = covers_distinct (base_of (cells_in T') 0) cs t.children covers tree.sound;
  blocks = omega (arith, one);
}

-- ---- the end

-- no node waits: the tree is there
pub filling_ends : (slots : ℕ) (T : Fields) (g : Forest) (most : ℕ) → Filling slots T [] g most → HoldsTree (size_of T) (cells_in T) g × (T.places.blocks.active ≤ most)
filling_ends slots T g most k = (subst (HoldsTree (size_of T) (cells_in T)) k.pending.0 k.holds, omega (arith, k.blocks))

pub on_ok : {X : Type 0} {P Q : Type 0} (r : Result X Shortage) → OnOk r P → (P → Q) → OnOk r Q
on_ok (Ok x) p f = f p
on_ok (Err e) p f = tt

pub if_err : {X : Type 0} {P Q : Shortage → Type 0} (r : Result X Shortage) → IfErr r P → ((e : Shortage) → P e → Q e) → IfErr r Q
if_err (Ok x) p f = tt
if_err (Err e) p f = f e p

-- the root's children wait, once it was filled
pub filling_started : (slots : ℕ) (T T' : Fields) (t : Tree) (d : ℕ) (ps : _) (old new : List Part) (n : ℕ) → IsTable slots T'.places → HoldsTree (size_of T) (cells_in T) none → IsTreeOfSpan d ps t → t.number ≡ None
    → Fills (size_of T) (size_of T') (cells_in T) (cells_in T') 0 t.number (labels t.children) → (cs : List Part) × (new ≡ old ++ cs) × Covers (base_of (cells_in T') 0) cs t.children none → old ≡ []
    → T.places.blocks.active ≡ 1 → n ≡ 0 → MakesBlocks n T T' → Filling slots T' new t.children (1 + length (prefixes_forest t.children))
filling_started slots T T' t d ps old new n table holds tree number fills (cs, is, covers) nothing one none_made made =
    subst (λ xs. Filling slots T' xs t.children (1 + length (prefixes_forest t.children))) (sym (is ∙ ap (λ xs. xs ++ cs) nothing))
    (filling_begins slots T T' t d ps cs table holds tree number fills covers (omega (arith, one, none_made, made.active)))

-- a tree with a number somewhere has a prefix
pub some_prefix : (n : Option ℤ) (c : Forest) → is_bare (record { number = n; children = c }) ≡ false → n ≡ None → 0 < length (prefixes_forest c)
some_prefix n (child l m u rest) bare e = omega arith
some_prefix (Some v) none bare e = cc
some_prefix None none bare e = absurd (true≢false bare)
