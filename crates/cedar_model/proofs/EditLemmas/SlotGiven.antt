-- A slot given back touches its owner alone.
use Rattle.std.proofs.Common.{◌≡◌, ℕ, sym, ◌∙◌, ap, refl, subst, inl, inr}
use Rattle.std.specs.Prelude.{pos}
use Rattle.cedar_tree.specs.Tree.{Forest}
use Rattle.cedar_model.specs.Table.Cells.{Cells, Gives, Held}
use Rattle.cedar_model.specs.Meaning.Family.{below, InRange}
use Rattle.cedar_model.specs.Meaning.StandsFor.{HoldsTree}
use Rattle.cedar_model.specs.Edit.NodeEdits.{DropsNumber, SetsChild, Touches}
use Rattle.cedar_model.proofs.EditLemmas.NodeChange.{not_number}
use Rattle.cedar_model.proofs.MeaningLemmas.ExclusiveOr.{pos_injective}

-- a's slot x, on which nothing hangs, is given back, after links were set that are a's own
module _ (T T₁ T₂ : Cells) (a x : ℕ) (root : (c : ℕ) → T.check 0 ≡ pos c → ⊥) (was : T.check x ≡ pos a) (held : Held T a) (not_own : T.check a ≡ pos a → ⊥) (alone : (q : ℕ) → T.check q ≡ pos x → ⊥) (g : Gives T₁ T₂ x)
    (stored : (q : ℕ) → T₁.stored q ≡ T.stored q) (base : (q : ℕ) → T₁.base q ≡ T.base q) (check : (q : ℕ) → T₁.check q ≡ T.check q)
    (child : (q : ℕ) → (q ≡ a → ⊥) → T₁.child q ≡ T.child q)
    (sibling : (q : ℕ) → (T.check q ≡ pos a → ⊥) → (q ≡ 0 → 0 ≡ a → ⊥) → T₁.sibling q ≡ T.sibling q) where
  pub held_first : (q : ℕ) → Held T q → Held T₁ q
  held_first q (inl z) = inl z
  held_first q (inr o) = inr (o.0, check q ∙ o.1)

  pub not_root : x ≡ 0 → ⊥
  not_root e = root a (ap T.check (sym e) ∙ was)

  pub a_not_given : a ≡ x → ⊥
  a_not_given e = not_own (ap T.check e ∙ was)

  before : (q c : ℕ) → T₂.check q ≡ pos c → T.check q ≡ pos c
  before q c o =
      let n : q ≡ x → ⊥ = λ e. g.gone (subst (Held T₂) e (inr (c, o))) in
      let h : Held T₁ q = g.free q (inr (c, o)) in
      sym (check q) ∙ sym (g.other q n h).check ∙ o

  away : (q c : ℕ) → T.check q ≡ pos c → (c ≡ a → ⊥) → q ≡ x → ⊥
  away q c o n e = n (pos_injective c a (sym o ∙ ap T.check e ∙ was))

  pub touches_given : Touches T T₂ a x
  touches_given = record {
    base = λ q h n m. (g.other q m (held_first q h)).base ∙ base q;
    stored = λ q h n m. (g.other q m (held_first q h)).stored ∙ stored q;
    child = λ q h n m. (g.other q m (held_first q h)).child ∙ child q n;
    sibling = λ q c o n.
        (g.other q (away q c o n) (held_first q (inr (c, o)))).sibling
        ∙ sibling q (λ e. n (pos_injective c a (sym o ∙ e))) (λ z _. root c (subst (λ y. T.check y ≡ pos c) z o));
    check = λ q c o n. (g.other q (away q c o n) (held_first q (inr (c, o)))).check ∙ check q ∙ o;
    back = λ q c o n. before q c o;
    root = λ z. (g.other 0 (λ e. not_root (sym e)) (inl refl)).sibling ∙ sibling 0 (root a) (λ _. z);
    place = λ q o. (g.other a a_not_given (held_first a held)).stored ∙ stored a;
    mine = λ q o m. (g.other q m (held_first q (inr (a, o)))).check ∙ check q ∙ o;
    only = λ q o. inl (before q a o);
    alone = alone;
    owner = λ c o. pos_injective c a (sym o ∙ was);
    not_root = not_root;
  }

-- nothing hangs on the slot of a number
pub number_alone : (size : ℕ) (T : Cells) (f : Forest) (a : ℕ) → HoldsTree size T f → T.check (below T a 0) ≡ pos a → (q : ℕ) → T.check q ≡ pos (below T a 0) → ⊥
number_alone size T f a w was q e = let way = w.reached q _ e in not_number T w.root way.0 way.1 a was (sym way.2)

-- the number's slot given back, once the chain begins in the node's own slot
pub drops_number : (size : ℕ) (T T₁ T₂ : Cells) (f : Forest) (a : ℕ) → HoldsTree size T f → T.check (below T a 0) ≡ pos a → Held T a → (T.check a ≡ pos a → ⊥) → InRange size (T.stored a)
    → SetsChild T T₁ a (T.sibling (below T a 0)) → Gives T₁ T₂ (below T a 0) → DropsNumber size T T₂ a
drops_number size T T₁ T₂ f a w was held not_own based s g =
    let x : ℕ = below T a 0 in
    let alone = number_alone size T f a w was in
    let first : (q : ℕ) → Held T q → Held T₁ q = held_first T T₁ T₂ a x w.root was held not_own alone g s.stored s.base s.check s.other (λ q _ _. s.sibling q) in
    let apart : a ≡ x → ⊥ = a_not_given T T₁ T₂ a x w.root was held not_own alone g s.stored s.base s.check s.other (λ q _ _. s.sibling q) in
    let own_slot = g.other a apart (first a held) in
    record {
      touches = touches_given T T₁ T₂ a x w.root was held not_own alone g s.stored s.base s.check s.other (λ q _ _. s.sibling q);
      in_range = subst (InRange size) (sym (own_slot.stored ∙ s.stored a)) based;
      was = was;
      gone = λ e. g.gone (inr (a, e));
      first = own_slot.child ∙ s.at;
      next = λ q o n. (g.other q n (first q (inr (a, o)))).sibling ∙ s.sibling q;
    }
