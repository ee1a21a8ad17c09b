-- What becomes of a file while works are done to it, one after another.
use Rattle.std.specs.Prelude.{◌&&◌, IsTrue}
use Rattle.std.proofs.Common.{◌≡◌, ◌⊎◌, inl, inr, ⊎_elim, ℕ, ◌≤◌, Bool, true, false, List, [], ◌∷◌, length, take, refl, sym, ◌∙◌, ap, subst}
use Rattle.std.proofs.lemmas.Bool.{le-leb, and_from}
use Rattle.cedar_journal.specs.Device.{Cut, Only, Torn}
use Rattle.cedar_journal.proofs.Moments as moments
use Rattle.whole_files.specs.Calls.{Call, LeftSince, MayLeave, all_within, is_usable_after, open_call, overlay, seen_after, truncate_call, sync_call, write_call}
use Rattle.cedar_disk.specs.Laws.{only_now}
use Rattle.cedar_disk.proofs.Steps.{cut_follows, leaves, sync_keeps, write_follows}
use Rattle.whole_files.proofs.Syncs.{synced_only}
use Rattle.cedar_plan.specs.Safety.{CrashLeaves}
use Rattle.cedar_plan.specs.Works.{AreCarriedOut, FailsIn, Work, all_done, cut_to, after_work, write_to}

-- one call more, before and after which a crash leaves what has P
pub leaves_one : (call : Call) (old : List Call) (P : List ℕ → Type 0) → ((c : List ℕ) → MayLeave old c → P c) → ((c : List ℕ) → MayLeave (call ∷ old) c → P c)
    → CrashLeaves old (call ∷ old) P
leaves_one call old P here there =
    moments.weakens length LeftSince old (call ∷ old) (λ c. MayLeave old c ⊎ P c) P (λ c. ⊎_elim (here c) (λ (p : P c). p))
    (leaves call old (call ∷ old) P refl (λ c now. inr (there c now)))

-- ---- works

-- after these calls the file has these bytes, on the disk, and no call has failed
pub record Has (calls : List Call) (file : List ℕ) : Type 0 where
  pub seen : seen_after calls ≡ file
  pub only : Only file (MayLeave calls)
  pub within : IsTrue (all_within calls)
  pub usable : IsTrue (is_usable_after calls)

pub has_opened : (file : List ℕ) → Has (open_call file ∷ []) file
has_opened file = record { seen = refl; only = λ c left. left; within = refl; usable = refl }

-- a work begins within the file
abbrev pub Fits : Work → List ℕ → Type 0
Fits (cut_to n) file = n ≤ length file
Fits (write_to at bytes) file = at ≤ length file

-- what a crash leaves of the file while a work is done
abbrev pub Spoiled : Work → List ℕ → List ℕ → Type 0
Spoiled (cut_to n) file c = Cut n file c
Spoiled (write_to at bytes) file c = Torn at (length bytes) file c

-- the file once a work is done
abbrev pub made : Work → List ℕ → List ℕ
made (cut_to n) file = take n file
made (write_to at bytes) file = overlay file at bytes

abbrev pub all_made : List Work → List ℕ → List ℕ
all_made [] file = file
all_made (work ∷ works) file = all_made works (made work file)

module _ (calls : List Call) (file : List ℕ) (has : Has calls file) where
  sized : (n : ℕ) → n ≤ length file → n ≤ length (seen_after calls)
  sized n fits = subst (λ (f : List ℕ). n ≤ length f) (sym has.seen) fits

  cut_within : (n : ℕ) (ok : Bool) → n ≤ length file → IsTrue (all_within (truncate_call n ok ∷ calls))
  cut_within n ok fits = and_from _ _ (le-leb n (length (seen_after calls)) (sized n fits)) has.within

  write_within : (at : ℕ) (bytes : List ℕ) (ok : Bool) → at ≤ length file → IsTrue (all_within (write_call at bytes ok ∷ calls))
  write_within at bytes ok fits = and_from _ _ (le-leb at (length (seen_after calls)) (sized at fits)) has.within

  usable_on : IsTrue (is_usable_after calls && true)
  usable_on = and_from _ _ has.usable refl

  pub work_done : (work : Work) → Fits work file → Has (after_work work calls) (made work file)
  work_done (cut_to n) fits =
      let old = truncate_call n true ∷ calls in
      let seen : seen_after (sync_call true ∷ old) ≡ take n file = ap (take n) has.seen in
      record {
        seen = seen;
        only = λ c left. synced_only old usable_on c left ∙ seen;
        within = cut_within n true fits;
        usable = and_from _ _ usable_on refl;
      }
  work_done (write_to at bytes) fits =
      let old = write_call at bytes true ∷ calls in
      let seen : seen_after (sync_call true ∷ old) ≡ overlay file at bytes = ap (λ f. overlay f at bytes) has.seen in
      record {
        seen = seen;
        only = λ c left. synced_only old usable_on c left ∙ seen;
        within = write_within at bytes true fits;
        usable = and_from _ _ usable_on refl;
      }

  module _ (P : List ℕ → Type 0) (was : P file) where
    before : (c : List ℕ) → MayLeave calls c → P c
    before c left = subst P (sym (has.only c left)) was

    module _ (n : ℕ) (fits : n ≤ length file) (spoiled : (c : List ℕ) → Cut n file c → P c) where
      cut_short : (ok : Bool) (c : List ℕ) → MayLeave (truncate_call n ok ∷ calls) c → P c
      cut_short ok c left =
          let from = cut_follows calls (truncate_call n ok ∷ calls) n ok refl c left in
          spoiled c (subst (λ d. Cut n d c) (has.only from.0 from.1) from.2)

      cut_leaves : (ok : Bool) → CrashLeaves calls (truncate_call n ok ∷ calls) P
      cut_leaves ok = leaves_one (truncate_call n ok) calls P before (cut_short ok)

      cut_synced : (ok : Bool) → CrashLeaves calls (sync_call ok ∷ truncate_call n true ∷ calls) P
      cut_synced ok =
          let old = truncate_call n true ∷ calls in
          moments.joins length LeftSince calls old (sync_call ok ∷ old) P (cut_leaves true)
          (leaves_one (sync_call ok) old P (cut_short true) (λ c left. cut_short true c (sync_keeps old (sync_call ok ∷ old) (cut_within n true fits) ok usable_on refl c left)))

    module _ (at : ℕ) (bytes : List ℕ) (fits : at ≤ length file) (spoiled : (c : List ℕ) → Torn at (length bytes) file c → P c) where
      torn : (ok : Bool) (c : List ℕ) → MayLeave (write_call at bytes ok ∷ calls) c → P c
      torn ok c left =
          let from = write_follows calls (write_call at bytes ok ∷ calls) at bytes ok refl c left in
          spoiled c (subst (λ d. Torn at (length bytes) d c) (has.only from.0 from.1) from.2)

      write_leaves : (ok : Bool) → CrashLeaves calls (write_call at bytes ok ∷ calls) P
      write_leaves ok = leaves_one (write_call at bytes ok) calls P before (torn ok)

      write_synced : (ok : Bool) → CrashLeaves calls (sync_call ok ∷ write_call at bytes true ∷ calls) P
      write_synced ok =
          let old = write_call at bytes true ∷ calls in
          moments.joins length LeftSince calls old (sync_call ok ∷ old) P (write_leaves true)
          (leaves_one (sync_call ok) old P (torn true) (λ c left. torn true c (sync_keeps old (sync_call ok ∷ old) (write_within at bytes true fits) ok usable_on refl c left)))

    pub work_leaves : (work : Work) → Fits work file → ((c : List ℕ) → Spoiled work file c → P c) → CrashLeaves calls (after_work work calls) P
    work_leaves (cut_to n) fits spoiled = cut_synced n fits spoiled true
    work_leaves (write_to at bytes) fits spoiled = write_synced at bytes fits spoiled true

    pub work_fails : (work : Work) (after : List Call) → Fits work file → ((c : List ℕ) → Spoiled work file c → P c) → FailsIn work calls after → CrashLeaves calls after P
    work_fails (cut_to n) after fits spoiled (inl cut) = subst (λ (l : List Call). CrashLeaves calls l P) (sym cut) (cut_leaves n fits spoiled false)
    work_fails (cut_to n) after fits spoiled (inr sync) = subst (λ (l : List Call). CrashLeaves calls l P) (sym sync) (cut_synced n fits spoiled false)
    work_fails (write_to at bytes) after fits spoiled (inl write) = subst (λ (l : List Call). CrashLeaves calls l P) (sym write) (write_leaves at bytes fits spoiled false)
    work_fails (write_to at bytes) after fits spoiled (inr sync) = subst (λ (l : List Call). CrashLeaves calls l P) (sym sync) (write_synced at bytes fits spoiled false)

-- each of these works begins within the file as it is then, and a crash before, during and behind it leaves what has P
abbrev pub Keep : List Work → List ℕ → (List ℕ → Type 0) → Type 0
Keep [] file P = P file
Keep (work ∷ works) file P = P file × Fits work file × ((c : List ℕ) → Spoiled work file c → P c) × Keep works (made work file) P

pub all_have : (works : List Work) (calls : List Call) (file : List ℕ) (P : List ℕ → Type 0) → Has calls file → Keep works file P → Has (all_done works calls) (all_made works file)
all_have [] calls file P has keep = has
all_have (work ∷ works) calls file P has keep = all_have works (after_work work calls) (made work file) P (work_done calls file has work keep.1) keep.3

pub all_leave : (works : List Work) (calls after : List Call) (file : List ℕ) (P : List ℕ → Type 0) → Has calls file → Keep works file P → AreCarriedOut works calls after → CrashLeaves calls after P
all_leave [] calls after file P has keep is =
    subst (λ (l : List Call). CrashLeaves calls l P) (sym is)
    (moments.started length LeftSince calls P (λ c left. subst P (sym (has.only c (only_now calls c left))) keep))
all_leave (work ∷ works) calls after file P has keep (inl fails) = work_fails calls file has P keep.0 work after keep.1 keep.2 fails
all_leave (work ∷ works) calls after file P has keep (inr more) =
    moments.joins length LeftSince calls (after_work work calls) after P (work_leaves calls file has P keep.0 work keep.1 keep.2)
    (all_leave works (after_work work calls) after (made work file) P (work_done calls file has work keep.1) keep.3 more)
