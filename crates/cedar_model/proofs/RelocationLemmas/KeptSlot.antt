-- A table with a slot that is reserved, and the same table with that slot free.
use Rattle.std.proofs.Common.{◌≡◌, ℕ, Bool, true, false, sym, ◌∙◌, ap, refl, subst, inl, inr, arith, cond}
use Rattle.std.specs.Prelude.{pos, negsuc, nat_eq}
use Rattle.std.proofs.lemmas.Bool.{cases_eq}
use Rattle.std.proofs.lemmas.Bool.Decides.{nat_tests}
use Rattle.cedar_model.specs.Table.Cells.{Cells, Gives, Held, SameAt, SameHeld, Takes}
use Rattle.cedar_model.specs.Meaning.Family.{below, Family}
use Rattle.cedar_model.specs.Relocation.Renaming.{ChecksAt, IsNode, OwnsNothing, Rebased, Renames, single}
use Rattle.cedar_model.specs.Relocation.Reserved.{cells_without, without_reserved}
use Rattle.cedar_model.proofs.RelocationLemmas.CarriedNode.{family_carried}
use Rattle.cedar_model.proofs.RelocationLemmas.SlotBySlot.{held_renamed, single_at, single_other}
use Rattle.cedar_model.proofs.MeaningLemmas.ExclusiveOr.{pos_injective}

cond_other : {A : Type 0} (q k : ℕ) (x y : A) → (q ≡ k → ⊥) → cond (nat_eq q k) x y ≡ y
cond_other q k x y n = grind (arith, nat_tests)

cond_same : {A : Type 0} (k : ℕ) (x y : A) → cond (nat_eq k k) x y ≡ x
cond_same k x y = grind (arith, nat_tests)

-- all slots but k are the same
pub freed_other : (T : Cells) (k q : ℕ) → (q ≡ k → ⊥) → SameAt T (cells_without T k) q q
freed_other T k q n = record {
  base = refl;
  stored = refl;
  check = cond_other q k (negsuc 0) (T.check q) n;
  sibling = cond_other q k 0 (T.sibling q) n;
  child = cond_other q k 0 (T.child q) n;
}

not_owned : (c : ℕ) → negsuc 0 ≡ pos c → ⊥
not_owned c e = cc

pub freed_owned : (T : Cells) (k q c : ℕ) → (cells_without T k).check q ≡ pos c → (q ≡ k → ⊥) × (T.check q ≡ pos c)
freed_owned T k q c o = elim (cases_eq q k) [
  | inl e ↦ absurd (not_owned c (sym (cond_same k (negsuc 0) (T.check k)) ∙ subst (λ x. (cells_without T k).check x ≡ pos c) e o))
  | inr n ↦ (n, sym (freed_other T k q n).check ∙ o)
]

pub owned_freed : (T : Cells) (k q c : ℕ) → (q ≡ k → ⊥) → T.check q ≡ pos c → (cells_without T k).check q ≡ pos c
owned_freed T k q c n o = (freed_other T k q n).check ∙ o

pub freed_held : (T : Cells) (k q : ℕ) → (k ≡ 0 → ⊥) → Held (cells_without T k) q → (q ≡ k → ⊥) × Held T q
freed_held T k q z (inl e) = ((λ s. z (sym s ∙ e)), inl e)
freed_held T k q z (inr o) = let v = freed_owned T k q o.0 o.1 in (v.0, inr (o.0, v.1))

pub held_freed : (T : Cells) (k q : ℕ) → (q ≡ k → ⊥) → Held T q → Held (cells_without T k) q
held_freed T k q n (inl e) = inl e
held_freed T k q n (inr o) = inr (o.0, owned_freed T k q o.0 n o.1)

same_then : (T T₁ T₂ : Cells) (x : ℕ) → SameAt T T₁ x x → SameAt T₁ T₂ x x → SameAt T T₂ x x
same_then T T₁ T₂ x a b = record { base = b.base ∙ a.base; stored = b.stored ∙ a.stored; check = b.check ∙ a.check; sibling = b.sibling ∙ a.sibling; child = b.child ∙ a.child }

same_back : (T T₁ : Cells) (x : ℕ) → SameAt T T₁ x x → SameAt T₁ T x x
same_back T T₁ x a = record { base = sym a.base; stored = sym a.stored; check = sym a.check; sibling = sym a.sibling; child = sym a.child }

-- ---- a slot that is given up, and one that is taken

pub gives_freed : (T : Cells) (k : ℕ) → (k ≡ 0 → ⊥) → Gives T (cells_without T k) k
gives_freed T k z = record {
  gone = λ h. (freed_held T k k z h).0 refl;
  sibling = cond_same k 0 (T.sibling k);
  child = cond_same k 0 (T.child k);
  other = λ x n _. freed_other T k x n;
  free = λ x h. (freed_held T k x z h).1;
}

-- once it is given back
pub given_same : (T T' : Cells) (k : ℕ) → (k ≡ 0 → ⊥) → Gives T T' k → SameHeld (cells_without T k) T'
given_same T T' k z g = record {
  other = λ x h. let v = freed_held T k x z h in same_then (cells_without T k) T T' x (same_back T (cells_without T k) x (freed_other T k x v.0)) (g.other x v.0 v.1);
  free = λ x h. held_freed T k x (λ e. g.gone (subst (Held T') e h)) (g.free x h);
}

-- once it is taken to be reserved
pub taken_same : (T T' : Cells) (k c : ℕ) → (k ≡ 0 → ⊥) → (Held T k → ⊥) → Takes T T' k c → SameHeld T (cells_without T' k)
taken_same T T' k c z free t = record {
  other = λ x h. let n : x ≡ k → ⊥ = λ e. free (subst (Held T) e h) in same_then T T' (cells_without T' k) x (t.other x n h) (freed_other T' k x n);
  free = λ x h. let v = freed_held T' k x z h in t.free x v.0 v.1;
}

-- once its owner has changed
pub marked_same : (T T' : Cells) (k c : ℕ) → (k ≡ 0 → ⊥) → ChecksAt T T' k c → SameHeld (cells_without T k) (cells_without T' k)
marked_same T T' k c z w = record {
  other = λ x h.
      let v = freed_held T k x z h in
      let same : SameAt T T' x x = record { base = w.base x; stored = w.stored x; check = w.other x v.0; sibling = w.sibling x; child = w.child x } in
      same_then (cells_without T k) T (cells_without T' k) x (same_back T (cells_without T k) x (freed_other T k x v.0)) (same_then T T' (cells_without T' k) x same (freed_other T' k x v.0));
  free = λ x h. let v = freed_held T' k x z h in held_freed T k x v.0 (held_before x v.0 v.1);
}
  where
    held_before : (x : ℕ) → (x ≡ k → ⊥) → Held T' x → Held T x
    held_before x n (inl e) = inl e
    held_before x n (inr o) = inr (o.0, sym (w.other x n) ∙ o.1)

-- a renaming, and then a step that changes no held slot
pub renames_same : (T V V' : Cells) (r : ℕ → ℕ) → Renames T V r → SameHeld V V' → Renames T V' r
renames_same T V V' r k s = record {
  root = k.root;
  root_check = (s.other 0 (inl refl)).check ∙ k.root_check;
  check = λ q c o. let there : V.check (r q) ≡ pos (r c) = k.check q c o in (s.other (r q) (inr (r c, there))).check ∙ there;
  base = λ q h. (s.other (r q) (held_renamed T V r k q h)).base ∙ k.base q h;
  stored = λ q h. (s.other (r q) (held_renamed T V r k q h)).stored ∙ k.stored q h;
  sibling = λ q h. (s.other (r q) (held_renamed T V r k q h)).sibling ∙ k.sibling q h;
  child = λ q h. (s.other (r q) (held_renamed T V r k q h)).child ∙ k.child q h;
  back = λ q d o. k.back q d (sym (s.other q (s.free q (inr (d, o)))).check ∙ o);
  apart = k.apart;
}

-- ---- the renaming of another slot

single_apart : (a b k q : ℕ) → (k ≡ a → ⊥) → (k ≡ b → ⊥) → (q ≡ k → ⊥) → single a b q ≡ k → ⊥
single_apart a b k q na nb n e = elim (cases_eq q a) [
  | inl s ↦ nb (sym e ∙ ap (single a b) s ∙ single_at a b)
  | inr m ↦ n (sym (single_other a b q m) ∙ e)
]

freed_renames : (T T' : Cells) (k a b : ℕ) → (k ≡ 0 → ⊥) → (k ≡ a → ⊥) → (k ≡ b → ⊥) → Renames T T' (single a b) → Renames (cells_without T k) (cells_without T' k) (single a b)
freed_renames T T' k a b z na nb m =
    let off : (q : ℕ) → (q ≡ k → ⊥) → single a b q ≡ k → ⊥ = λ q n e. single_apart a b k q na nb n e in
    record {
      root = m.root;
      root_check = (freed_other T' k 0 (λ e. z (sym e))).check ∙ m.root_check ∙ sym (freed_other T k 0 (λ e. z (sym e))).check;
      check = λ q c o. let v = freed_owned T k q c o in owned_freed T' k (single a b q) (single a b c) (off q v.0) (m.check q c v.1);
      base = λ q h. m.base q (freed_held T k q z h).1;
      stored = λ q h. m.stored q (freed_held T k q z h).1;
      sibling = λ q h. let v = freed_held T k q z h in (freed_other T' k (single a b q) (off q v.0)).sibling ∙ m.sibling q v.1 ∙ sym (freed_other T k q v.0).sibling;
      child = λ q h. let v = freed_held T k q z h in (freed_other T' k (single a b q) (off q v.0)).child ∙ m.child q v.1 ∙ sym (freed_other T k q v.0).child;
      back = λ q d o.
          let v = freed_owned T' k q d o in
          let w = m.back q d v.1 in
          let n : w.0 ≡ k → ⊥ = λ e. v.0 (sym w.3 ∙ ap (single a b) e ∙ single_other a b k na) in
          (w.0, w.1, owned_freed T k w.0 w.1 n w.2, w.3, w.4);
      apart = λ x y hx hy e. m.apart x y (freed_held T k x z hx).1 (freed_held T k y z hy).1 e;
    }

pub seen_renames : (r : Bool) (T T' : Cells) (k a b : ℕ) → (k ≡ 0 → ⊥) → (r ≡ true → k ≡ a → ⊥) → (r ≡ true → k ≡ b → ⊥) → Renames T T' (single a b) → Renames (without_reserved r T k) (without_reserved r T' k) (single a b)
seen_renames true T T' k a b z na nb m = freed_renames T T' k a b z (na refl) (nb refl) m
seen_renames false T T' k a b z na nb m = m

pub seen_rebased : (r : Bool) (T T' : Cells) (k p b : ℕ) → Rebased T T' p b → Rebased (without_reserved r T k) (without_reserved r T' k) p b
seen_rebased true T T' k p b w = record {
  check = λ q. ap (cond (nat_eq q k) (negsuc 0)) (w.check q);
  sibling = λ q. ap (cond (nat_eq q k) 0) (w.sibling q);
  child = λ q. ap (cond (nat_eq q k) 0) (w.child q);
  base = w.base;
  stored = w.stored;
  set = w.set;
}
seen_rebased false T T' k p b w = w

-- ---- what is seen is there

pub seen_owned : (r : Bool) (T : Cells) (k q c : ℕ) → (without_reserved r T k).check q ≡ pos c → T.check q ≡ pos c
seen_owned true T k q c o = (freed_owned T k q c o).1
seen_owned false T k q c o = o

pub seen_apart : (r : Bool) (T : Cells) (k q c : ℕ) → (without_reserved r T k).check q ≡ pos c → r ≡ true → k ≡ q → ⊥
seen_apart true T k q c o e s = (freed_owned T k q c o).0 (sym s)
seen_apart false T k q c o e s = cc

pub seen_held : (r : Bool) (T : Cells) (k q : ℕ) → Held (without_reserved r T k) q → Held T q
seen_held r T k q (inl e) = inl e
seen_held r T k q (inr o) = inr (o.0, seen_owned r T k q o.0 o.1)

pub seen_free : (r : Bool) (T : Cells) (k q : ℕ) → (r ≡ true → k ≡ q → ⊥) → (Held (without_reserved r T k) q → ⊥) → Held T q → ⊥
seen_free true T k q n free h = free (held_freed T k q (λ e. n refl (sym e)) h)
seen_free false T k q n free h = free h

pub seen_root : (r : Bool) (T : Cells) (k : ℕ) → (k ≡ 0 → ⊥) → ((c : ℕ) → (without_reserved r T k).check 0 ≡ pos c → ⊥) → (c : ℕ) → T.check 0 ≡ pos c → ⊥
seen_root true T k z root c o = root c (owned_freed T k 0 c (λ e. z (sym e)) o)
seen_root false T k z root c o = root c o

-- a reserved slot is in the root's name, so it isn't another node's
pub mine_apart : (T : Cells) (k q s : ℕ) → (s ≡ 0 → ⊥) → T.check k ≡ pos 0 → T.check q ≡ pos s → q ≡ k → ⊥
mine_apart T k q s z marked o e = z (pos_injective s 0 (sym o ∙ ap T.check e ∙ marked))

pub mine_freed : (T : Cells) (k q s : ℕ) → (s ≡ 0 → ⊥) → T.check k ≡ pos 0 → T.check q ≡ pos s → (cells_without T k).check q ≡ pos s
mine_freed T k q s z marked o = owned_freed T k q s (mine_apart T k q s z marked o) o

pub seen_alone : (r : Bool) (T : Cells) (k s : ℕ) → (r ≡ true → T.check k ≡ pos 0) → (s ≡ 0 → ⊥) → OwnsNothing (without_reserved r T k) s → OwnsNothing T s
seen_alone true T k s marked z none q o = none q (mine_freed T k q s z (marked refl) o)
seen_alone false T k s marked z none q o = none q o

pub family_freed : (size : ℕ) (T : Cells) (k s : ℕ) → (s ≡ 0 → ⊥) → (s ≡ k → ⊥) → T.check k ≡ pos 0 → (n : IsNode size (cells_without T k) s) → Family size T s n.head n.labels
family_freed size T k s z apart marked n =
    family_carried size (cells_without T k) T (λ q. q) s n.head n.labels (record {
      steps = λ l o. refl;
      check = λ q o. (freed_owned T k q s o).1;
      sibling = λ q o. sym (freed_other T k q (freed_owned T k q s o).0).sibling;
      child = sym (freed_other T k s apart).child;
      number = λ o. (refl, sym (freed_other T k (below T s 0) (freed_owned T k (below T s 0) s o).0).child);
      back = λ q o. (q, mine_freed T k q s z marked o, refl);
    }) (λ e. absurd (z e)) (λ d. d) n.family

pub seen_node : (r : Bool) (size : ℕ) (T : Cells) (k s : ℕ) → (r ≡ true → T.check k ≡ pos 0) → (s ≡ 0 → ⊥) → (r ≡ true → k ≡ s → ⊥) → IsNode size (without_reserved r T k) s → IsNode size T s
seen_node true size T k s marked z apart n = record { head = n.head; labels = n.labels; family = family_freed size T k s z (λ e. apart refl (sym e)) (marked refl) n }
seen_node false size T k s marked z apart n = n

-- a slot that wasn't reserved yet is taken to be
pub taken_seen : (was : Bool) (T T' : Cells) (k c : ℕ) → was ≡ false → (k ≡ 0 → ⊥) → (Held T k → ⊥) → Takes T T' k c → SameHeld (without_reserved was T k) (cells_without T' k)
taken_seen true T T' k c e z free t = cc
taken_seen false T T' k c e z free t = taken_same T T' k c z free t

pub freed_root : (T : Cells) (k : ℕ) → (k ≡ 0 → ⊥) → (cells_without T k).check 0 ≡ T.check 0
freed_root T k z = (freed_other T k 0 (λ e. z (sym e))).check
