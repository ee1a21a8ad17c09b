-- Moving a set of slots to new places, and then the base of their parent, keeps every node.
use Rattle.std.proofs.Common.{arith, ◌≡◌, ℕ, ◌<◌, ◌≤◌, List, [], ◌∷◌, sym, ◌∙◌, ap, refl, subst, inl, inr}
use Rattle.std.specs.Prelude.{ℤ, pos, bit_xor}
use Rattle.cedar_model.specs.declared.layout.Stored.{Stored}
use Rattle.cedar_model.specs.declared.layout.Stored.TheVariants.{AtBase, OwnNumber}
use Rattle.std.proofs.lemmas.Bool.{cases_eq}
use Rattle.cedar_model.specs.Meaning.Family.{Head, plain, valued, own, top, Family, base_in, below, Begins, Based, InRange, base_of}
use Rattle.cedar_model.specs.Table.Cells.{Cells, Held, NodeWritten}
use Rattle.cedar_model.specs.Relocation.Renaming.{Renames, Moves, Rebased, CanMove, KeepsNodes}
use Rattle.cedar_model.proofs.MeaningLemmas.ExclusiveOr.{xor_back, pos_injective}
use Rattle.cedar_model.proofs.RelocationLemmas.CarriedNode.{Carries, family_carried}

-- a record written with the check that the slot had
pub rebased : (reads : ℤ → Stored) (T T' : Cells) (p b : ℕ) (z c : ℤ) → NodeWritten reads T T' p z c → reads z ≡ AtBase b → c ≡ T.check p → Rebased T T' p b
rebased reads T T' p b z c w stored check = record {
  check = λ q. elim (cases_eq q p) [ inl e ↦ ap T'.check e ∙ w.check_at ∙ check ∙ ap T.check (sym e) | inr n ↦ w.check q n ];
  sibling = w.sibling;
  child = w.child;
  base = w.base;
  stored = w.stored;
  set = w.stored_at ∙ stored;
}

module _ (size : ℕ) (T T₁ T' : Cells) (p b : ℕ) (r : ℕ → ℕ) (k : Renames T T₁ r) (m : Moves T p b r) (w : Rebased T₁ T' p b) (z : CanMove size T p b) where
  p_stays : r p ≡ p
  p_stays = m.kept p z.not_own

  -- the base of each other held slot
  base_at : (q : ℕ) → Held T q → (q ≡ p → ⊥) → T'.base (r q) ≡ T.base q
  base_at q h n = w.base (r q) (λ e. n (k.apart q p h z.held (e ∙ sym p_stays))) ∙ k.base q h

  pub stored_at : (q : ℕ) → Held T q → (q ≡ p → ⊥) → T'.stored (r q) ≡ T.stored q
  stored_at q h n = w.stored (r q) (λ e. n (k.apart q p h z.held (e ∙ sym p_stays))) ∙ k.stored q h

  -- whose children are not moved
  step_other : (s l : ℕ) → (s ≡ p → ⊥) → T.check (below T s l) ≡ pos s → r (below T s l) ≡ below T' (r s) l
  step_other s l n o =
      m.kept _ (λ e. n (pos_injective s p (sym o ∙ e))) ∙ ap (λ x. bit_xor (base_in x) l) (sym (stored_at s (z.owners _ s o) n))

  step_parent : (l : ℕ) → T.check (below T p l) ≡ pos p → r (below T p l) ≡ below T' (r p) l
  step_parent l o =
      m.moved _ o ∙ ap (bit_xor b) (xor_back (base_of T p) l) ∙ ap (λ x. bit_xor (base_in x) l) (sym w.set ∙ ap T'.stored (sym p_stays))

  pub step : (s l : ℕ) → T.check (below T s l) ≡ pos s → r (below T s l) ≡ below T' (r s) l
  step s l o =
      elim (cases_eq s p) [ inl e ↦ subst (λ x. T.check (below T x l) ≡ pos x → r (below T x l) ≡ below T' (r x) l) (sym e) (step_parent l) o | inr n ↦ step_other s l n o ]

  back_at : (s q : ℕ) → Held T s → T'.check q ≡ pos (r s) → (o : ℕ) × (T.check o ≡ pos s) × (r o ≡ q)
  back_at s q h e =
      let v = k.back q (r s) (sym (w.check q) ∙ e) in
      (v.0, v.2 ∙ ap pos (k.apart v.1 s (z.owners v.0 v.1 v.2) h v.4), v.3)

  carries : (s : ℕ) → Held T s → Carries T T' r s
  carries s h = record {
    steps = step s;
    check = λ q o. w.check (r q) ∙ k.check q s o;
    sibling = λ q o. w.sibling (r q) ∙ k.sibling q (inr (s, o));
    child = w.child (r s) ∙ k.child s h;
    number = λ o. (base_at _ (inr (s, o)) (λ e. z.not_number s (subst (λ x. T.check x ≡ pos s) e o) e), w.child _ ∙ k.child _ (inr (s, o)));
    back = λ q e. back_at s q h e;
  }

  in_range : (x : Stored) → x ≡ AtBase b → InRange size x
  in_range x e = (subst (λ y. 256 ≤ base_in y) (sym e) z.low, subst (λ y. base_in y < size) (sym e) z.high)

  new_base : (h : Head) (ls : List ℕ) (old x : Stored) → (h ≡ top → ⊥) → x ≡ AtBase b → 256 ≤ base_in old → Based size old h ls → Based size x h ls
  new_base plain [] old x n e low d = inr (in_range x e)
  new_base plain (l ∷ ls) old x n e low d = in_range x e
  new_base (valued v) ls old x n e low d = in_range x e
  new_base (own v) ls old x n e low d = let some : 256 ≤ base_in (OwnNumber v) = subst (λ y. 256 ≤ base_in y) d low in absurd (omega arith)
  new_base top ls old x n e low d = absurd (n refl)

  not_top : (s : ℕ) (h : Head) (ls : List ℕ) → (s ≡ 0 → ⊥) → Begins T s h ls → h ≡ top → ⊥
  not_top s plain ls n g e = cc
  not_top s (valued v) ls n g e = cc
  not_top s (own v) ls n g e = cc
  not_top s top ls n g e = n g.0

  node_kept : (c s : ℕ) (h : Head) (ls : List ℕ) → T.check s ≡ pos c → Family size T s h ls → Family size T' (r s) h ls
  node_kept c s h ls o f =
      let not_zero : s ≡ 0 → ⊥ = λ e. z.root c (subst (λ x. T.check x ≡ pos c) e o) in
      family_carried size T T' r s h ls (carries s (inr (c, o))) (λ e. absurd (not_zero e))
      (λ d. elim (cases_eq s p) [
        | inl e ↦ new_base h ls (T.stored s) _ (not_top s h ls not_zero f.begins) (ap (λ x. T'.stored (r x)) e ∙ ap T'.stored p_stays ∙ w.set) (subst (λ x. 256 ≤ base_of T x) (sym e) z.based) d
        | inr n ↦ subst (λ x. Based size x h ls) (sym (stored_at s (inr (c, o)) n)) d
      ]) f

  root_kept : (ls : List ℕ) → Family size T 0 top ls → Family size T' 0 top ls
  root_kept ls f =
      let n : 0 ≡ p → ⊥ = λ e. z.not_root (sym e) in
      subst (λ x. Family size T' x top ls) k.root
      (family_carried size T T' r 0 top ls (carries 0 (inl refl)) (λ _. (k.root, w.sibling (r 0) ∙ k.sibling 0 (inl refl)))
      (λ d. stored_at 0 (inl refl) n ∙ d) f)

  pub relocation_keeps : KeepsNodes size size T T' r
  relocation_keeps = record {
    root = root_kept;
    root_stays = k.root;
    node = node_kept;
    steps = step;
  }
