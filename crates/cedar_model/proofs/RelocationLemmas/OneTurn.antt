-- One turn of a relocation, and its end.
use Rattle.std.proofs.Common.{◌≡◌, ℕ, zero, suc, ◌+◌, ◌<◌, List, [], ◌∷◌, length, get_or, take, sym, ◌∙◌, ap, refl, subst, inl, inr, arith}
use Rattle.std.specs.Prelude.{pos, ◌⊎◌, bit_xor}
use Rattle.std.proofs.lemmas.List.{take_more}
use Rattle.cedar_model.specs.Table.Cells.{Cells, Held}
use Rattle.cedar_model.specs.Meaning.Family.{below, Among, base_of, Family}
use Rattle.cedar_model.specs.Relocation.Renaming.{IsNode, OwnsNothing, Renames, Moves, MovedSome, Progress, Movable, Relocated, Rebased, single}
use Rattle.cedar_model.proofs.MeaningLemmas.ExclusiveOr.{xor_back, pos_injective}
use Rattle.cedar_model.proofs.RelocationLemmas.SetMoved.{relocation_keeps, stored_at}
use Rattle.cedar_model.proofs.RelocationLemmas.Repointed.{among_cases, owner_cases}
use Rattle.cedar_model.proofs.RelocationLemmas.SlotBySlot.{renames_twice, moved_more, moved_all, moved_none, still_free, other_family}

pub among_get : (ls : List ℕ) (i d : ℕ) → i < length ls → Among ls (get_or ls i d)
among_get [] i d h = absurd (omega arith)
among_get (l ∷ ls) zero d h = inl refl
among_get (l ∷ ls) (suc i) d h = inr (among_get ls i d (omega arith))

pub among_take : (ls : List ℕ) (i x : ℕ) → Among (take i ls) x → Among ls x
among_take [] zero x a = a
among_take [] (suc i) x a = a
among_take (l ∷ ls) zero x a = absurd a
among_take (l ∷ ls) (suc i) x (inl e) = inl e
among_take (l ∷ ls) (suc i) x (inr a) = inr (among_take ls i x a)

renames_none : (T : Cells) → Renames T T (λ q. q)
renames_none T = record {
  root = refl;
  root_check = refl;
  check = λ q c e. e;
  base = λ q h. refl;
  stored = λ q h. refl;
  sibling = λ q h. refl;
  child = λ q h. refl;
  back = λ q d e. (q, d, e, refl, refl);
  apart = λ x y hx hy e. e;
}

pub progress_none : (T : Cells) (p b : ℕ) → Progress T T p b []
progress_none T p b = record { new_slot = λ q. q; renames = renames_none T; moved = moved_none T p b }

module _ (size : ℕ) (T T₁ : Cells) (p b : ℕ) (ls : List ℕ) (i : ℕ) (m : Movable size T p b ls) (h : i < length ls) (k : Progress T T₁ p b (take i ls)) where
  here : Among ls (get_or ls i 0)
  here = among_get ls i 0 h

  mine : T.check (below T p (get_or ls i 0)) ≡ pos p
  mine = m.owned _ here

  parent_stays : k.new_slot p ≡ p
  parent_stays = k.moved.kept p (λ e _. m.parent.not_own e)

  slot_stays : k.new_slot (below T p (get_or ls i 0)) ≡ below T p (get_or ls i 0)
  slot_stays = k.moved.kept _ (λ _ g. m.distinct i h (subst (Among (take i ls)) (xor_back (base_of T p) (get_or ls i 0)) g))

  slot_held : Held T (below T p (get_or ls i 0))
  slot_held = inr (p, mine)

  pub still_mine : T₁.check (below T p (get_or ls i 0)) ≡ pos p
  still_mine = ap T₁.check (sym slot_stays) ∙ k.renames.check _ p mine ∙ ap pos parent_stays

  pub not_own : p ≡ below T p (get_or ls i 0) → ⊥
  not_own e = m.parent.not_own (ap T.check e ∙ mine)

  cases : (q : ℕ) → Held T q → (T.check q ≡ pos p × Among (take i ls) (below T p q)) ⊎ (T.check q ≡ pos p → Among (take i ls) (below T p q) → ⊥)
  cases q _ = elim (owner_cases (T.check q) p) [
    | inl e ↦ elim (among_cases (take i ls) (below T p q)) [ inl a ↦ inl (e, a) | inr n ↦ inr (λ _ a. n a) ]
    | inr n ↦ inr (λ e _. n e)
  ]

  pub free : Held T₁ (bit_xor b (get_or ls i 0)) → ⊥
  free = still_free T T₁ p b _ (take i ls) k.new_slot k.renames k.moved (m.free _ here) (m.distinct i h) cases

  pub root : (c : ℕ) → T₁.check 0 ≡ pos c → ⊥
  root c e = m.parent.root c (sym k.renames.root_check ∙ e)

  -- what the slot owns now it owned before
  owned_before : (q : ℕ) → T₁.check q ≡ pos (below T p (get_or ls i 0)) → T.check q ≡ pos (below T p (get_or ls i 0))
  owned_before q e =
      let v = k.renames.back q _ e in
      let owner : v.1 ≡ below T p (get_or ls i 0) = k.renames.apart v.1 _ (m.parent.owners v.0 v.1 v.2) slot_held (v.4 ∙ sym slot_stays) in
      let was : T.check v.0 ≡ pos (below T p (get_or ls i 0)) = v.2 ∙ ap pos owner in
      let same : k.new_slot v.0 ≡ v.0 = k.moved.kept v.0 (λ o _. not_own (pos_injective p _ (sym o ∙ was))) in
      subst (λ x. T.check x ≡ pos (below T p (get_or ls i 0))) (sym same ∙ v.3) was

  pub alone : get_or ls i 0 ≡ 0 → OwnsNothing T₁ (below T p (get_or ls i 0))
  alone e q o = m.number (subst (Among ls) e here) q (subst (λ x. T.check q ≡ pos (below T p x)) e (owned_before q o))

  pub node : (get_or ls i 0 ≡ 0 → ⊥) → IsNode size T₁ (below T p (get_or ls i 0))
  node n =
      let old : IsNode size T (below T p (get_or ls i 0)) = m.node _ here n in
      record {
        head = old.head;
        labels = old.labels;
        family = subst (λ s. Family size T₁ s old.head old.labels) slot_stays (other_family size T T₁ p b (take i ls) k.new_slot k.renames k.moved m.parent.owners _ old.head old.labels slot_held (λ e. not_own (sym e)) old.family);
      }

  pub progress_more : (T₂ : Cells) → Renames T₁ T₂ (single (below T p (get_or ls i 0)) (bit_xor b (get_or ls i 0))) → Progress T T₂ p b (take (i + 1) ls)
  progress_more T₂ s = record {
    new_slot = λ q. single (below T p (get_or ls i 0)) (bit_xor b (get_or ls i 0)) (k.new_slot q);
    renames = renames_twice T T₁ T₂ k.new_slot _ k.renames s;
    moved = subst (λ gone. MovedSome T p b gone (λ q. single (below T p (get_or ls i 0)) (bit_xor b (get_or ls i 0)) (k.new_slot q))) (sym (take_more ls i 0 h))
        (moved_more T p b (get_or ls i 0) (take i ls) k.new_slot mine (m.distinct i h) (λ x a. m.free x (among_take ls i x a)) k.moved);
  }

-- the parent of the set is held all the while
pub parent_held : (size : ℕ) (T T₁ : Cells) (p b : ℕ) (ls gone : List ℕ) → Movable size T p b ls → Progress T T₁ p b gone → Held T₁ p
parent_held size T T₁ p b ls gone m k = elim m.parent.held [
  | inl e ↦ absurd (m.parent.not_root e)
  | inr h ↦
      let stays : k.new_slot p ≡ p = k.moved.kept p (λ e _. m.parent.not_own e) in
      inr (k.new_slot h.0, ap T₁.check (sym stays) ∙ k.renames.check p h.0 h.1)
]

pub relocated : (size : ℕ) (T T₁ T' : Cells) (p b : ℕ) (ls : List ℕ) → Movable size T p b ls → Progress T T₁ p b ls → Rebased T₁ T' p b → Relocated size T T' p b
relocated size T T₁ T' p b ls m k w =
    let moves : Moves T p b k.new_slot = moved_all T p b ls k.new_slot m.only k.moved in
    record {
      new_slot = k.new_slot;
      renamed = record {
        keeps = relocation_keeps size T T₁ T' p b k.new_slot k.renames moves w m.parent;
        root = λ c e. m.parent.root c (sym k.renames.root_check ∙ sym (w.check 0) ∙ e);
        root_check = w.check 0 ∙ k.renames.root_check;
        check = λ q c e. w.check _ ∙ k.renames.check q c e;
        back = λ q d e. k.renames.back q d (sym (w.check q) ∙ e);
      };
      moves = moves;
      set = w.set;
      stored = stored_at size T T₁ T' p b k.new_slot k.renames moves w m.parent;
    }

-- a place for a label that hasn't moved is as free as before
pub progress_free : (T T₁ : Cells) (p b : ℕ) (gone : List ℕ) (l : ℕ) → Progress T T₁ p b gone → (Held T (bit_xor b l) → ⊥) → (Among gone l → ⊥) → Held T₁ (bit_xor b l) → ⊥
progress_free T T₁ p b gone l k free new = still_free T T₁ p b l gone k.new_slot k.renames k.moved free new by_owner
  where
    by_owner : (q : ℕ) → Held T q → (T.check q ≡ pos p × Among gone (below T p q)) ⊎ (T.check q ≡ pos p → Among gone (below T p q) → ⊥)
    by_owner q _ = elim (owner_cases (T.check q) p) [
      | inl e ↦ elim (among_cases gone (below T p q)) [ inl a ↦ inl (e, a) | inr n ↦ inr (λ _ a. n a) ]
      | inr n ↦ inr (λ e _. n e)
    ]
