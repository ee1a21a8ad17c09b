-- A set of slots moved one slot at a time.
use Rattle.std.proofs.Common.{◌≡◌, ℕ, List, [], ◌∷◌, ◌++◌, sym, ◌∙◌, ap, refl, subst, inl, inr, arith}
use Rattle.std.specs.Prelude.{pos, ◌⊎◌, bit_xor}
use Rattle.std.proofs.lemmas.Bool.Decides.{nat_tests}
use Rattle.cedar_model.specs.Table.Cells.{Cells}
use Rattle.cedar_model.specs.Meaning.Family.{base_in, Head, Family, below, Among, Based, base_of}
use Rattle.cedar_model.proofs.MeaningLemmas.ExclusiveOr.{xor_back, xor_injective}
use Rattle.cedar_model.proofs.RelocationLemmas.CarriedNode.{family_carried}
use Rattle.cedar_model.specs.Table.Cells.{Held}
use Rattle.cedar_model.specs.Relocation.Renaming.{Renames, Moves, MovedSome, single}
use Rattle.cedar_model.proofs.MeaningLemmas.ExclusiveOr.{pos_injective}
use Rattle.cedar_model.proofs.MeaningLemmas.AmongLabels.{among_front, among_last, among_push}

pub single_at : (a b : ℕ) → single a b a ≡ b
single_at a b = grind (arith, nat_tests)

pub single_other : (a b q : ℕ) → (q ≡ a → ⊥) → single a b q ≡ q
single_other a b q n = grind (arith, nat_tests)

pub held_renamed : (T T₁ : Cells) (r : ℕ → ℕ) → Renames T T₁ r → (q : ℕ) → Held T q → Held T₁ (r q)
held_renamed T T₁ r k q (inl e) = inl (ap r e ∙ k.root)
held_renamed T T₁ r k q (inr w) = inr (r w.0, k.check q w.0 w.1)

pub renames_twice : (T T₁ T₂ : Cells) (r s : ℕ → ℕ) → Renames T T₁ r → Renames T₁ T₂ s → Renames T T₂ (λ q. s (r q))
renames_twice T T₁ T₂ r s k m = record {
  root = ap s k.root ∙ m.root;
  root_check = m.root_check ∙ k.root_check;
  check = λ q c e. m.check (r q) (r c) (k.check q c e);
  base = λ q h. m.base (r q) (held_renamed T T₁ r k q h) ∙ k.base q h;
  stored = λ q h. m.stored (r q) (held_renamed T T₁ r k q h) ∙ k.stored q h;
  sibling = λ q h. m.sibling (r q) (held_renamed T T₁ r k q h) ∙ k.sibling q h;
  child = λ q h. m.child (r q) (held_renamed T T₁ r k q h) ∙ k.child q h;
  back = λ q d e. let v = m.back q d e in let w = k.back v.0 v.1 v.2 in
      (w.0, w.1, w.2, ap s w.3 ∙ v.3, ap s w.4 ∙ v.4);
  apart = λ x y hx hy e. k.apart x y hx hy (m.apart (r x) (r y) (held_renamed T T₁ r k x hx) (held_renamed T T₁ r k y hy) e);
}

-- one more label gone
pub moved_more : (T : Cells) (p b l : ℕ) (gone : List ℕ) (r : ℕ → ℕ) → T.check (below T p l) ≡ pos p → (Among gone l → ⊥) → ((x : ℕ) → Among gone x → Held T (bit_xor b x) → ⊥) → MovedSome T p b gone r → MovedSome T p b (gone ++ l ∷ []) (λ q. single (below T p l) (bit_xor b l) (r q))
moved_more T p b l gone r here new fresh m =
    let a : ℕ = below T p l in
    let stays : r a ≡ a = m.kept a (λ _ g. new (subst (Among gone) (xor_back (base_of T p) l) g)) in
    record {
      moved = λ q o g. elim (among_push gone l (below T p q) g) [
        | inl before ↦ ap (single a (bit_xor b l)) (m.moved q o before) ∙ single_other a (bit_xor b l) _ (λ e. fresh _ before (inr (p, ap T.check e ∙ here)))
        | inr last ↦
            let same : q ≡ a = sym (xor_back (base_of T p) q) ∙ ap (below T p) (sym last) in
            ap (λ x. single a (bit_xor b l) (r x)) same ∙ ap (single a (bit_xor b l)) stays ∙ single_at a (bit_xor b l) ∙ ap (bit_xor b) last
      ];
      kept = λ q n.
          let stay : r q ≡ q = m.kept q (λ o g. n o (among_front gone (l ∷ []) _ g)) in
          ap (single a (bit_xor b l)) stay ∙ single_other a (bit_xor b l) q (λ e. n (ap T.check e ∙ here) (subst (Among (gone ++ l ∷ [])) (sym (xor_back (base_of T p) l) ∙ ap (below T p) (sym e)) (among_last gone l)));
    }

pub moved_none : (T : Cells) (p b : ℕ) → MovedSome T p b [] (λ q. q)
moved_none T p b = record { moved = λ q o a. absurd a; kept = λ q n. refl }

pub moved_all : (T : Cells) (p b : ℕ) (os : List ℕ) (r : ℕ → ℕ) → ((q : ℕ) → T.check q ≡ pos p → Among os (below T p q)) → MovedSome T p b os r → Moves T p b r
moved_all T p b os r only m = record {
  moved = λ q o. m.moved q o (only q o);
  kept = λ q n. m.kept q (λ o _. n o);
}

-- a place that was free and is nobody's yet is still free
pub still_free : (T T₁ : Cells) (p b l : ℕ) (gone : List ℕ) (r : ℕ → ℕ) → Renames T T₁ r → MovedSome T p b gone r → (Held T (bit_xor b l) → ⊥) → (Among gone l → ⊥) → ((q : ℕ) → Held T q → (T.check q ≡ pos p × Among gone (below T p q)) ⊎ (T.check q ≡ pos p → Among gone (below T p q) → ⊥)) → Held T₁ (bit_xor b l) → ⊥
still_free T T₁ p b l gone r k m free new dec (inl e) = free (inl e)
still_free T T₁ p b l gone r k m free new dec (inr w) =
    let v = k.back (bit_xor b l) w.0 w.1 in
    let h : Held T v.0 = inr (v.1, v.2) in
    elim (dec v.0 h) [
      | inl d ↦ new (subst (Among gone) (xor_injective b _ l (sym (m.moved v.0 d.0 d.1) ∙ v.3)) d.1)
      | inr n ↦ free (subst (Held T) (sym (m.kept v.0 n) ∙ v.3) h)
    ]

-- a node whose own slots have not moved is still a node, with its own new name
pub other_family : (size : ℕ) (T T₁ : Cells) (p b : ℕ) (gone : List ℕ) (r : ℕ → ℕ) → Renames T T₁ r → MovedSome T p b gone r → ((q c : ℕ) → T.check q ≡ pos c → Held T c) → (s : ℕ) (h : Head) (ls : List ℕ) → Held T s → (s ≡ p → ⊥) → Family size T s h ls → Family size T₁ (r s) h ls
other_family size T T₁ p b gone r k m owners s h ls held n f =
    family_carried size T T₁ r s h ls (record {
      steps = λ l o. m.kept _ (λ e _. n (pos_injective s p (sym o ∙ e))) ∙ ap (λ x. bit_xor (base_in x) l) (sym (k.stored s held));
      check = λ q o. k.check q s o;
      sibling = λ q o. k.sibling q (inr (s, o));
      child = k.child s held;
      number = λ o. (k.base _ (inr (s, o)), k.child _ (inr (s, o)));
      back = λ q e. let v = k.back q (r s) e in (v.0, v.2 ∙ ap pos (k.apart v.1 s (owners v.0 v.1 v.2) held v.4), v.3);
    }) (λ e. (ap r e ∙ k.root, k.sibling s held)) (λ d. subst (λ x. Based size x h ls) (sym (k.stored s held)) d) f
