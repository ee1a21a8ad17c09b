-- A relocation that keeps one slot back.
use Rattle.std.proofs.Common.{◌≡◌, ℕ, Bool, true, false, ◌+◌, ◌<◌, List, [], length, get_or, take, sym, ◌∙◌, ap, refl, subst, inl, inr}
use Rattle.std.specs.Prelude.{pos, bit_xor}
use Rattle.std.proofs.lemmas.Bool.{cases_Bool, cases_eq}
use Rattle.std.proofs.lemmas.List.{take_more}
use Rattle.cedar_model.specs.Table.Cells.{Cells, Held, SameHeld}
use Rattle.cedar_model.specs.Meaning.Family.{Among, base_of, below}
use Rattle.cedar_model.specs.Relocation.Renaming.{IsNode, Movable, OwnsNothing, Progress, Rebased, Relocated, Renames, single}
use Rattle.cedar_model.specs.Relocation.Reserved.{cells_without, without_reserved}
use Rattle.cedar_model.proofs.RelocationLemmas.OneTurn.{alone, among_get, among_take, free, node, not_own, parent_held, progress_free, progress_more, progress_none, relocated, root, still_mine}
use Rattle.cedar_model.proofs.RelocationLemmas.SlotBySlot.{single_other}
use Rattle.cedar_model.proofs.RelocationLemmas.KeptSlot.{renames_same, seen_alone, seen_apart, seen_free, seen_held, seen_node, seen_owned, seen_rebased, seen_renames, seen_root}
use Rattle.cedar_model.proofs.MeaningLemmas.ExclusiveOr.{xor_back, xor_injective}
use Rattle.cedar_model.proofs.MeaningLemmas.AmongLabels.{among_push}

-- a relocation that has come as far as these labels, with slot k reserved or not yet
pub record Reserving (T T₁ : Cells) (p b k : ℕ) (done : Bool) (gone : List ℕ) : Type 0 where
  pub marked : done ≡ true → T₁.check k ≡ pos 0
  pub progress : Progress T (without_reserved done T₁ k) p b gone

-- what moving one slot needs
pub record Ready (size : ℕ) (T : Cells) (a b p l : ℕ) : Type 0 where
  pub mine : T.check a ≡ pos p
  pub not_own : p ≡ a → ⊥
  pub free : Held T b → ⊥
  pub root : (c : ℕ) → T.check 0 ≡ pos c → ⊥
  pub node : (l ≡ 0 → ⊥) → IsNode size T a
  pub alone : l ≡ 0 → OwnsNothing T a

pub reserving_none : (T : Cells) (p b k : ℕ) → Reserving T T p b k false []
reserving_none T p b k = record { marked = λ e. cc; progress = progress_none T p b }

seen_not : (done : Bool) (T : Cells) (k : ℕ) → (done ≡ true → ⊥) → without_reserved done T k ≡ T
seen_not true T k n = absurd (n refl)
seen_not false T k n = refl

module _ (size : ℕ) (T T₁ : Cells) (p b k : ℕ) (ls : List ℕ) (i : ℕ) (done : Bool) (m : Movable size T p b ls) (h : i < length ls) (r : Reserving T T₁ p b k done (take i ls))
    (z : k ≡ 0 → ⊥) (new : k ≡ bit_xor b (get_or ls i 0) → ⊥) where
  not_root : below T p (get_or ls i 0) ≡ 0 → ⊥
  not_root e = m.parent.root p (ap T.check (sym e) ∙ m.owned _ (among_get ls i 0 h))

  apart : done ≡ true → k ≡ below T p (get_or ls i 0) → ⊥
  apart = seen_apart done T₁ k _ p (still_mine size T (without_reserved done T₁ k) p b ls i m h r.progress)

  pub ready : Ready size T₁ (below T p (get_or ls i 0)) (bit_xor b (get_or ls i 0)) p (get_or ls i 0)
  ready = record {
    mine = seen_owned done T₁ k _ p (still_mine size T (without_reserved done T₁ k) p b ls i m h r.progress);
    not_own = not_own size T (without_reserved done T₁ k) p b ls i m h r.progress;
    free = seen_free done T₁ k _ (λ _. new) (free size T (without_reserved done T₁ k) p b ls i m h r.progress);
    root = seen_root done T₁ k z (root size T (without_reserved done T₁ k) p b ls i m h r.progress);
    node = λ n. seen_node done size T₁ k _ r.marked not_root apart (node size T (without_reserved done T₁ k) p b ls i m h r.progress n);
    alone = λ e. seen_alone done T₁ k _ r.marked not_root (alone size T (without_reserved done T₁ k) p b ls i m h r.progress e);
  }

  -- another slot has moved
  pub moved_other : (T₂ : Cells) → Renames T₁ T₂ (single (below T p (get_or ls i 0)) (bit_xor b (get_or ls i 0))) → Reserving T T₂ p b k done (take (i + 1) ls)
  moved_other T₂ s = record {
    marked = λ e. ap T₂.check (sym (single_other _ _ k (apart e))) ∙ s.check k 0 (r.marked e) ∙ ap pos (single_other _ _ 0 (λ x. not_root (sym x)));
    progress = progress_more size T (without_reserved done T₁ k) p b ls i m h r.progress (without_reserved done T₂ k) (seen_renames done T₁ T₂ k _ _ z apart (λ _. new) s);
  }

  -- the slot that is kept back has moved
  pub moved_wanted : (T₂ : Cells) → k ≡ below T p (get_or ls i 0) → T₂.check k ≡ pos 0 → Renames T₁ (cells_without T₂ k) (single (below T p (get_or ls i 0)) (bit_xor b (get_or ls i 0))) → Reserving T T₂ p b k true (take (i + 1) ls)
  moved_wanted T₂ same marked s = record {
    marked = λ _. marked;
    progress = progress_more size T (without_reserved done T₁ k) p b ls i m h r.progress (cells_without T₂ k)
        (subst (λ V. Renames V (cells_without T₂ k) (single (below T p (get_or ls i 0)) (bit_xor b (get_or ls i 0)))) (sym (seen_not done T₁ k (λ e. apart e same))) s);
  }

-- the parent of the set is held all the while
pub reserving_held : (size : ℕ) (T T₁ : Cells) (p b k : ℕ) (ls gone : List ℕ) (done : Bool) → Movable size T p b ls → Reserving T T₁ p b k done gone → Held T₁ p
reserving_held size T T₁ p b k ls gone done m r = seen_held done T₁ k p (parent_held size T (without_reserved done T₁ k) p b ls gone m r.progress)

-- and in the end it has its new base
pub reserved_all : (size : ℕ) (T T₁ T' : Cells) (p b k : ℕ) (ls : List ℕ) → Movable size T p b ls → Reserving T T₁ p b k true ls → Rebased T₁ T' p b → Relocated size T (cells_without T' k) p b × (T'.check k ≡ pos 0)
reserved_all size T T₁ T' p b k ls m r w = (relocated size T (cells_without T₁ k) (cells_without T' k) p b ls m r.progress (seen_rebased true T₁ T' k p b w), w.check k ∙ r.marked refl)

-- ---- a slot of the set itself is kept back

-- a relocation of which it is known when the slot k has its turn
pub record Passing (T T₁ : Cells) (p b k : ℕ) (gone : List ℕ) : Type 0 where
  pub done : Bool
  pub reserving : Reserving T T₁ p b k done gone
  pub pending : done ≡ false → Among gone (below T p k) → ⊥

pub passing_none : (T : Cells) (p b k : ℕ) → Passing T T p b k []
passing_none T p b k = record { done = false; reserving = reserving_none T p b k; pending = λ _ a. absurd a }

module _ (size : ℕ) (T T₁ : Cells) (p b k : ℕ) (ls : List ℕ) (i : ℕ) (m : Movable size T p b ls) (h : i < length ls) (r : Passing T T₁ p b k (take i ls)) (mine : T.check k ≡ pos p) where
  wanted_not_root : k ≡ 0 → ⊥
  wanted_not_root e = m.parent.root p (ap T.check (sym e) ∙ mine)

  wanted_not_new : k ≡ bit_xor b (get_or ls i 0) → ⊥
  wanted_not_new e = m.free _ (among_get ls i 0 h) (inr (p, ap T.check (sym e) ∙ mine))

  pub pass_ready : Ready size T₁ (below T p (get_or ls i 0)) (bit_xor b (get_or ls i 0)) p (get_or ls i 0)
  pass_ready = ready size T T₁ p b k ls i r.done m h r.reserving wanted_not_root wanted_not_new

  pub passed_other : (T₂ : Cells) → (below T p (get_or ls i 0) ≡ k → ⊥) → Renames T₁ T₂ (single (below T p (get_or ls i 0)) (bit_xor b (get_or ls i 0))) → Passing T T₂ p b k (take (i + 1) ls)
  passed_other T₂ n s = record {
    done = r.done;
    reserving = moved_other size T T₁ p b k ls i r.done m h r.reserving wanted_not_root wanted_not_new T₂ s;
    pending = λ e a. elim (among_push (take i ls) (get_or ls i 0) (below T p k) (subst (λ gone. Among gone (below T p k)) (take_more ls i 0 h) a)) [
      | inl before ↦ r.pending e before
      | inr last ↦ n (ap (below T p) last ∙ xor_back (base_of T p) k)
    ];
  }

  pub passed_wanted : (T₂ : Cells) → below T p (get_or ls i 0) ≡ k → T₂.check k ≡ pos 0 → Renames T₁ (cells_without T₂ k) (single (below T p (get_or ls i 0)) (bit_xor b (get_or ls i 0))) → Passing T T₂ p b k (take (i + 1) ls)
  passed_wanted T₂ same marked s = record {
    done = true;
    reserving = moved_wanted size T T₁ p b k ls i r.done m h r.reserving wanted_not_root wanted_not_new T₂ (sym same) marked s;
    pending = λ e. cc;
  }

  pub passed : (T₂ : Cells) → (below T p (get_or ls i 0) ≡ k → Renames T₁ (cells_without T₂ k) (single (below T p (get_or ls i 0)) (bit_xor b (get_or ls i 0))) × (T₂.check k ≡ pos 0))
      → ((below T p (get_or ls i 0) ≡ k → ⊥) → Renames T₁ T₂ (single (below T p (get_or ls i 0)) (bit_xor b (get_or ls i 0)))) → Passing T T₂ p b k (take (i + 1) ls)
  passed T₂ wanted other = elim (cases_eq (below T p (get_or ls i 0)) k) [
    | inl e ↦ passed_wanted T₂ e (wanted e).1 (wanted e).0
    | inr n ↦ passed_other T₂ n (other n)
  ]

pub passed_all : (size : ℕ) (T T₁ T' : Cells) (p b k : ℕ) (ls : List ℕ) → Movable size T p b ls → T.check k ≡ pos p → Passing T T₁ p b k ls → Rebased T₁ T' p b → Relocated size T (cells_without T' k) p b × (T'.check k ≡ pos 0)
passed_all size T T₁ T' p b k ls m mine r w = elim (cases_Bool r.done) [
  | inl is ↦ reserved_all size T T₁ T' p b k ls m (subst (λ d. Reserving T T₁ p b k d ls) is r.reserving) w
  | inr un ↦ absurd (r.pending un (m.only k mine))
]

-- ---- a slot at the new base is kept back

-- the slot is reserved, if it wasn't
pub reserved_now : (T T₁ T₂ : Cells) (p b k : ℕ) (was is : Bool) (gone : List ℕ) → Reserving T T₁ p b k was gone → SameHeld (without_reserved was T₁ k) (without_reserved is T₂ k) → (is ≡ true → T₂.check k ≡ pos 0) → Reserving T T₂ p b k is gone
reserved_now T T₁ T₂ p b k was is gone r same marked = record {
  marked = marked;
  progress = record { new_slot = r.progress.new_slot; renames = renames_same T (without_reserved was T₁ k) (without_reserved is T₂ k) r.progress.new_slot r.progress.renames same; moved = r.progress.moved };
}

-- before, it is free
pub new_free : (T T₁ : Cells) (p b l : ℕ) (done : Bool) (ls : List ℕ) (i : ℕ) → (Among ls l → ⊥) → (Held T (bit_xor b l) → ⊥) → Reserving T T₁ p b (bit_xor b l) done (take i ls) → done ≡ false → Held T₁ (bit_xor b l) → ⊥
new_free T T₁ p b l done ls i new free r e =
    let at : without_reserved done T₁ (bit_xor b l) ≡ T₁ = seen_not done T₁ (bit_xor b l) (λ t. absurd (true≢ t)) in
    progress_free T T₁ p b (take i ls) l (subst (λ V. Progress T V p b (take i ls)) at r.progress) free (λ a. new (among_take ls i l a))
  where
    true≢ : done ≡ true → ⊥
    true≢ t = cc

-- it is none of those that the set takes
pub new_apart : (b l : ℕ) (ls : List ℕ) (i : ℕ) → i < length ls → (Among ls l → ⊥) → bit_xor b l ≡ bit_xor b (get_or ls i 0) → ⊥
new_apart b l ls i h new e = new (subst (Among ls) (sym (xor_injective b l _ e)) (among_get ls i 0 h))

pub passing_held : (size : ℕ) (T T₁ : Cells) (p b k : ℕ) (ls gone : List ℕ) → Movable size T p b ls → Passing T T₁ p b k gone → Held T₁ p
passing_held size T T₁ p b k ls gone m r = reserving_held size T T₁ p b k ls gone r.done m r.reserving
