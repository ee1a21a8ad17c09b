-- What writes of a slot's labels leave.
use Rattle.std.proofs.Common.{◌≡◌, ℕ, sym, ◌∙◌, ap, inl, inr}
use Rattle.std.proofs.lemmas.Bool.{cases_eq}
use Rattle.cedar_model.specs.Table.Cells.{Cells, Held, InfoWritten}
use Rattle.cedar_model.specs.Edit.NodeEdits.{LinkedBehind, LinkedChild, SetsChild, SetsSibling}

pub sets_sibling : (T T' : Cells) (q l c : ℕ) → InfoWritten T T' q l c → c ≡ T.child q → SetsSibling T T' q l
sets_sibling T T' q l c w e = record {
  stored = w.stored;
  base = w.base;
  check = w.check;
  child = λ x. elim (cases_eq x q) [ inl s ↦ ap T'.child s ∙ w.child_at ∙ e ∙ ap T.child (sym s) | inr n ↦ w.child x n ];
  at = w.sibling_at;
  other = w.sibling;
}

pub sets_child : (T T' : Cells) (q s l : ℕ) → InfoWritten T T' q s l → s ≡ T.sibling q → SetsChild T T' q l
sets_child T T' q s l w e = record {
  stored = w.stored;
  base = w.base;
  check = w.check;
  sibling = λ x. elim (cases_eq x q) [ inl y ↦ ap T'.sibling y ∙ w.sibling_at ∙ e ∙ ap T.sibling (sym y) | inr n ↦ w.sibling x n ];
  at = w.child_at;
  other = w.child;
}

-- the link of slot x, then that of another slot b
module _ (T T₁ T' : Cells) (b x n l : ℕ) (apart : b ≡ x → ⊥) (i : SetsSibling T T₁ x n) where
  pub linked_behind : SetsSibling T₁ T' b l → n ≡ T.sibling b → LinkedBehind T T' b x l
  linked_behind j n_is = record {
    stored = λ q. j.stored q ∙ i.stored q;
    base = λ q. j.base q ∙ i.base q;
    check = λ q. j.check q ∙ i.check q;
    child = λ q. j.child q ∙ i.child q;
    at = j.at;
    next = j.other x (λ e. apart (sym e)) ∙ i.at ∙ n_is;
    other = λ q m o. j.other q m ∙ i.other q o;
  }

  pub linked_child : SetsChild T₁ T' b l → n ≡ T.child b → LinkedChild T T' b x l
  linked_child j n_is = record {
    stored = λ q. j.stored q ∙ i.stored q;
    base = λ q. j.base q ∙ i.base q;
    check = λ q. j.check q ∙ i.check q;
    at = j.at;
    child = λ q m. j.other q m ∙ i.child q;
    next = j.sibling x ∙ i.at ∙ n_is;
    other = λ q o. j.sibling q ∙ i.other q o;
  }

pub held_still : (T T' : Cells) (q : ℕ) → T'.check q ≡ T.check q → Held T q → Held T' q
held_still T T' q e (inl z) = inl z
held_still T T' q e (inr o) = inr (o.0, e ∙ o.1)
