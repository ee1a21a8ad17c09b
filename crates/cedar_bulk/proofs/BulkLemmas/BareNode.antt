-- A node with neither number nor label, in the tree and in its slots.
use Rattle.std.proofs.Common.{◌≡◌, ℕ, ◌∙◌, sym, ap, subst, refl, Option, None, List, []}
use Rattle.std.specs.Prelude.{ℤ}
use Rattle.cedar_model.specs.Tree.{child, empty_tree, Forest, none, Tree}
use Rattle.cedar_model.specs.Queries.{node_at}
use Rattle.cedar_model.specs.declared.layout.Stored.TheVariants.{AtBase}
use Rattle.cedar_model.specs.Table.Cells.{Cells}
use Rattle.cedar_model.specs.Edit.NodeEdits.{IsAt}
use Rattle.cedar_model.specs.Meaning.Family.{Family, Head, number_of, own, plain, top, valued}
use Rattle.cedar_model.specs.Meaning.StandsFor.{HoldsTree, labels}
use Rattle.cedar_model.specs.Relocation.Renaming.{OwnsNothing}
use Rattle.cedar_model.specs.Edit.Steps.{root_of}
use Rattle.cedar_model.proofs.MeaningLemmas.NodeAtPath.{at_node}
use Rattle.cedar_model.proofs.EditLemmas.FirstBase.{low_base, no_number}
use Rattle.cedar_model.proofs.UpdateLemmas.TrimUpwards.{root_path}

-- the slots of a node with neither number nor label
pub record Empty (T : Cells) (a : ℕ) : Type 0 where
  pub alone : OwnsNothing T a
  pub child : T.child a ≡ 0
  pub root : a ≡ 0 → T.sibling 0 ≡ 0

module _ (size : ℕ) (T : Cells) (f : Forest) (w : List ℕ) (a : ℕ) (h : HoldsTree size T f) (at : IsAt T w a) where
  root_bare : node_at (root_of f) w ≡ empty_tree → a ≡ 0 → T.sibling 0 ≡ 0
  root_bare bare z =
      let top_path : w ≡ [] = root_path T w 0 h.root (subst (IsAt T w) z at) refl in
      let whole : root_of f ≡ empty_tree = subst (λ v. node_at (root_of f) v ≡ empty_tree) top_path bare in
      let nothing : f ≡ none = ap (λ (t : Tree). t.children) whole in
      (subst (λ g. Family size T 0 top (labels g)) nothing h.stands.0).begins.2

  empty_by_head : (hd : Head) → number_of hd ≡ None → Family size T a hd [] → (a ≡ 0 → T.sibling 0 ≡ 0) → Empty T a
  empty_by_head plain e k r = record { alone = λ q o. k.only q o; child = k.begins; root = r }
  empty_by_head (valued v) e k r = cc
  empty_by_head (own v) e k r = cc
  empty_by_head top e k r = record { alone = λ q o. k.only q o; child = k.begins.1; root = r }

  pub empty_node : node_at (root_of f) w ≡ empty_tree → Empty T a
  empty_node bare =
      let st = at_node size T f w a h at in
      empty_by_head st.head (st.number ∙ ap (λ (t : Tree). t.number) bare) (subst (λ (t : Tree). Family size T a st.head (labels t.children)) bare st.family) (root_bare bare)

  bare_by_head : (hd : Head) (u : Forest) → Family size T a hd (labels u) → (a ≡ 0 → ⊥) → T.stored a ≡ AtBase 0 → (number_of hd ≡ None) × (u ≡ none)
  bare_by_head plain none k z e = (refl, refl)
  bare_by_head plain (child l n v rest) k z e = absurd (low_base size (T.stored a) e k.based)
  bare_by_head (valued v) u k z e = absurd (low_base size (T.stored a) e k.based)
  bare_by_head (own v) u k z e = absurd (no_number (T.stored a) v e k.based)
  bare_by_head top u k z e = absurd (z k.begins.0)

  -- a node below the root that has no base yet
  pub bare_leaf : (a ≡ 0 → ⊥) → T.stored a ≡ AtBase 0 → node_at (root_of f) w ≡ empty_tree
  bare_leaf z e =
      let t : Tree = node_at (root_of f) w in
      let st = at_node size T f w a h at in
      let k = bare_by_head st.head t.children st.family z e in
      let number : t.number ≡ None = sym st.number ∙ k.0 in
      let children : t.children ≡ none = k.1 in
      ap (λ (n : Option ℤ). record { number = n; children = t.children }) number ∙ ap (λ (g : Forest). record { number = None; children = g }) children
