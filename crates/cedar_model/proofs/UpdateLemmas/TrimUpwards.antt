-- A trim on its way up from a node to the root.
use Rattle.std.proofs.Common.{◌≡◌, ◌⊎◌, ℕ, zero, suc, ◌<◌, ◌≤◌, List, [], ◌∷◌, ◌++◌, length, sym, ◌∙◌, ap, refl, subst, inl, inr, arith, true, false, cond, eqb, append_assoc}
use Rattle.std.specs.Prelude.{pos, unsigned_abs}
use Rattle.std.proofs.lemmas.Bool.Decides.{nat_tests}
use Rattle.cedar_tree.specs.Tree.{cut, Forest, has_label, is_bare, IsAscending, subtree, Tree, without}
use Rattle.cedar_tree.specs.Queries.{node_at}
use Rattle.cedar_tree.specs.Edits.{without_leaf}
use Rattle.cedar_tree.proofs.CutLemmas.{ascending-without_leaf, node_at-end, node_at-without_leaf}
use Rattle.cedar_tree.proofs.EntryLemmas.Steps.{cut-without_leaf, cut_stops}
use Rattle.cedar_model.specs.Table.Cells.{Cells}
use Rattle.cedar_model.specs.Meaning.StandsFor.{HoldsTree, OnPath, slot_at}
use Rattle.cedar_model.specs.Edit.NodeEdits.{follow_on, IsAt}
use Rattle.cedar_model.specs.Edit.Steps.{root_of, tree_after_trim}
use Rattle.cedar_model.specs.Edit.Trims.{LosesLeaf}
use Rattle.cedar_model.proofs.MeaningLemmas.NodeAtPath.{at_node, at_path, follow_last}
use Rattle.cedar_model.proofs.EditLemmas.LeafAtPlace.{below_root, ends}
use Rattle.cedar_model.proofs.MeaningLemmas.ReadBack.{path_short}
use Rattle.cedar_model.proofs.UpdateLemmas.BareTrimmed.{label_gone}
use Rattle.cedar_model.proofs.UpdateLemmas.OnTheWay.{trimmed_bare, trimmed_kept}

-- the tree f was trimmed from the path w upward as far as slot a, where the path `path` ends
pub record Climbs (size : ℕ) (T : Cells) (f : Forest) (w : List ℕ) (a : ℕ) : Type 0 where
  pub tree : Forest
  pub path : List ℕ
  pub holds : HoldsTree size T tree
  pub at : IsAt T path a
  pub ascending : IsAscending f → IsAscending tree
  pub same : cut (root_of tree) w ≡ cut (root_of f) w
  pub reached : ((w ≡ path) × (tree ≡ f)) ⊎ ((l : ℕ) × (rest : List ℕ) × (w ≡ path ++ l ∷ rest) × (has_label (node_at (root_of tree) path).children l ≡ false) × (is_bare (node_at (root_of f) w) ≡ true))

pub climb_none : (size : ℕ) (T : Cells) (f : Forest) (w : List ℕ) (a : ℕ) → HoldsTree size T f → IsAt T w a → Climbs size T f w a
climb_none size T f w a h at = record { tree = f; path = w; holds = h; at = at; ascending = λ s. s; same = refl; reached = inl (refl, refl) }

-- one node more
module _ (size : ℕ) (T : Cells) (n : ℕ) (T' : Cells) (f : Forest) (w : List ℕ) (a c : ℕ) (k : Climbs size T f w a) (bare : is_bare (node_at (root_of k.tree) k.path) ≡ true) (s : LosesLeaf n T' k.tree k.path c) where
  on_front : OnPath T (s.label ∷ follow_on s.path [])
  on_front = subst (OnPath T) (ap (λ v. follow_on v []) s.is ∙ follow_last s.label s.path []) k.at.0

  front_at : IsAt T s.path (slot_at T (follow_on s.path []))
  front_at = (on_front.2, refl)

  once : has_label (without (node_at (root_of k.tree) s.path).children s.label) s.label ≡ false
  once = label_gone size T _ (node_at (root_of k.tree) s.path) s.label (at_node size T k.tree s.path _ k.holds front_at)

  bare_leaf : is_bare (subtree (node_at (root_of k.tree) s.path).children s.label) ≡ true
  bare_leaf = ap is_bare (sym (node_at-end (root_of k.tree) s.path s.label)) ∙ ap (λ v. is_bare (node_at (root_of k.tree) v)) (sym s.is) ∙ bare

  gone : has_label (node_at (without_leaf (root_of k.tree) s.path s.label) s.path).children s.label ≡ false
  gone =
      ap (λ (t : Tree). has_label t.children s.label) (node_at-without_leaf (root_of k.tree) s.path s.label (at_path size T k.tree s.path _ k.holds front_at))
      ∙ once

  cut_same : (rest : List ℕ) → w ≡ s.path ++ s.label ∷ rest → cut (without_leaf (root_of k.tree) s.path s.label) w ≡ cut (root_of f) w
  cut_same rest e =
      ap (cut (without_leaf (root_of k.tree) s.path s.label)) e
      ∙ cut-without_leaf (root_of k.tree) s.path s.label rest bare_leaf once
      ∙ ap (cut (root_of k.tree)) (sym e) ∙ k.same

  climbed : (rest : List ℕ) → w ≡ s.path ++ s.label ∷ rest → is_bare (node_at (root_of f) w) ≡ true → Climbs n T' f w c
  climbed rest e was = record {
    tree = (without_leaf (root_of k.tree) s.path s.label).children;
    path = s.path;
    holds = s.holds;
    at = s.at;
    ascending = λ u. ascending-without_leaf (root_of k.tree) s.path s.label (k.ascending u);
    same = cut_same rest e;
    reached = inr (s.label, rest, e, gone, was);
  }

  pub climb_on : Climbs n T' f w c
  climb_on = elim k.reached [
    | inl r ↦ climbed [] (r.0 ∙ s.is) (ap (λ v. is_bare (node_at (root_of f) v)) r.0 ∙ ap (λ g. is_bare (node_at (root_of g) k.path)) (sym r.1) ∙ bare)
    | inr r ↦ climbed (r.0 ∷ r.1) (r.2 ∙ ap (λ v. v ++ r.0 ∷ r.1) s.is ∙ append_assoc s.path (s.label ∷ []) (r.0 ∷ r.1)) r.4
  ]

-- ---- the end
trimmed_root : (f : Forest) → (tree_after_trim (root_of f) []).children ≡ f
trimmed_root f = elim (is_bare (root_of f)) as (λ b. (cond b (cut (root_of f) []) (root_of f)).children ≡ f) [ true ↦ refl | false ↦ refl ]

-- only the empty path leads to the root
pub root_path : (T : Cells) (w : List ℕ) (a : ℕ) → ((c : ℕ) → T.check 0 ≡ pos c → ⊥) → IsAt T w a → a ≡ 0 → w ≡ []
root_path T [] a root at z = refl
root_path T (l ∷ w) a root at z =
    let e = ends l w in absurd (below_root T root e.0 e.1 (subst (OnPath T) e.2 at.0) (sym (ap (slot_at T) e.2) ∙ at.1 ∙ z))

pub climb_end : (size : ℕ) (T : Cells) (f : Forest) (w : List ℕ) (a : ℕ) (k : Climbs size T f w a) → (a ≡ 0) ⊎ (is_bare (node_at (root_of k.tree) k.path) ≡ false) → HoldsTree size T (tree_after_trim (root_of f) w).children
climb_end size T f w a k stands = elim k.reached [
  | inl r ↦ subst (HoldsTree size T) (stopped r.0 r.1 stands) k.holds
  | inr r ↦ subst (HoldsTree size T) (climbed_all r.0 r.1 r.2 r.3 r.4) k.holds
] where
  stopped : w ≡ k.path → k.tree ≡ f → (a ≡ 0) ⊎ (is_bare (node_at (root_of k.tree) k.path) ≡ false) → k.tree ≡ (tree_after_trim (root_of f) w).children
  stopped e same (inl z) = same ∙ sym (trimmed_root f) ∙ ap (λ v. (tree_after_trim (root_of f) v).children) (sym (e ∙ root_path T k.path a k.holds.root k.at z))
  stopped e same (inr n) =
      same ∙ sym (ap (λ (t : Tree). t.children) (trimmed_kept (root_of f) w (ap (λ v. is_bare (node_at (root_of f) v)) e ∙ ap (λ g. is_bare (node_at (root_of g) k.path)) (sym same) ∙ n)))

  above_stands : (a ≡ 0) ⊎ (is_bare (node_at (root_of k.tree) k.path) ≡ false) → (k.path ≡ []) ⊎ (is_bare (node_at (root_of k.tree) k.path) ≡ false)
  above_stands (inl z) = inl (root_path T k.path a k.holds.root k.at z)
  above_stands (inr n) = inr n

  climbed_all : (l : ℕ) (rest : List ℕ) → w ≡ k.path ++ l ∷ rest → has_label (node_at (root_of k.tree) k.path).children l ≡ false → is_bare (node_at (root_of f) w) ≡ true → k.tree ≡ (tree_after_trim (root_of f) w).children
  climbed_all l rest e out was =
      let left : cut (root_of k.tree) w ≡ root_of k.tree = ap (cut (root_of k.tree)) e ∙ cut_stops (root_of k.tree) k.path l rest (above_stands stands) out in
      sym (ap (λ (t : Tree). t.children) (trimmed_bare (root_of f) w was ∙ sym k.same ∙ left))

-- ---- how far it is to the root
-- how many slots own one another above slot s, n of them at most
pub depth : ℕ → Cells → ℕ → ℕ
depth zero T s = 0
depth (suc n) T s = cond (eqb s 0) 0 (suc (depth n T (unsigned_abs (T.check s))))

depth_is : (T : Cells) → ((c : ℕ) → T.check 0 ≡ pos c → ⊥) → (n : ℕ) (p : List ℕ) → OnPath T p → length p ≤ n → depth n T (slot_at T p) ≡ length p
unfolding depth
depth_is T root zero [] on h = refl
depth_is T root (suc n) [] on h = refl
depth_is T root zero (l ∷ p) on h = absurd (omega arith)
depth_is T root (suc n) (l ∷ p) on h =
    let s : ℕ = slot_at T (l ∷ p) in
    let apart : slot_at T (l ∷ p) ≡ 0 → ⊥ = λ e. root _ (ap T.check (sym e) ∙ on.1) in
    let test : eqb (slot_at T (l ∷ p)) 0 ≡ false = grind (arith, nat_tests) in
    let owner : unsigned_abs (T.check (slot_at T (l ∷ p))) ≡ slot_at T p = ap unsigned_abs on.1 in
    ap (λ b. cond b 0 (suc (depth n T (unsigned_abs (T.check s))))) test
    ∙ ap (λ x. suc (depth n T x)) owner
    ∙ ap suc (depth_is T root n p on.2 (omega arith))

pub depth_at : (size : ℕ) (T : Cells) (f : Forest) (w : List ℕ) (a : ℕ) → ((q c : ℕ) → T.check q ≡ pos c → q < size) → HoldsTree size T f → IsAt T w a → depth size T a ≡ length (follow_on w [])
depth_at size T f w a active h at =
    subst (λ s. depth size T s ≡ length (follow_on w [])) at.1 (depth_is T h.root size (follow_on w []) at.0 (path_short size T h.root active (follow_on w []) at.0))

pub depth_less : (size : ℕ) (T : Cells) (n : ℕ) (T' : Cells) (f : Forest) (w : List ℕ) (a c : ℕ) → ((q x : ℕ) → T.check q ≡ pos x → q < size) → ((q x : ℕ) → T'.check q ≡ pos x → q < n)
    → HoldsTree size T f → IsAt T w a → LosesLeaf n T' f w c → depth n T' c < depth size T a
depth_less size T n T' f w a c active active' h at s =
    let before : depth size T a ≡ length (follow_on w []) = depth_at size T f w a active h at in
    let after : depth n T' c ≡ length (follow_on s.path []) = depth_at n T' _ s.path c active' s.holds s.at in
    let longer : length (follow_on w []) ≡ suc (length (follow_on s.path [])) = ap length (ap (λ v. follow_on v []) s.is ∙ follow_last s.label s.path []) in
    omega arith
