-- What one call more does to what a crash may leave.
use Rattle.std.specs.Prelude.{◌&&◌, IsTrue}
use Rattle.std.proofs.Common.{◌≡◌, ◌⊎◌, inl, inr, ⊎_elim, ℕ, zero, suc, ◌+◌, ◌<◌, ◌≤◌, Bool, true, false, List, [], ◌∷◌, ◌++◌, length, take, drop, refl, sym, ◌∙◌, ap, subst, arith, length-append, length-take-le}
use Rattle.std.proofs.lemmas.Bool.{and_parts, false≢true, leb-true, and_from}
use Rattle.cedar_journal.specs.Device.{Cut, Elapses, Follows, LeavesOnly, Only, Torn}
use Rattle.cedar_journal.proofs.Moments as moments
use Rattle.cedar_journal.proofs.Tears.{cut_same, cut_taken, torn_held, torn_same}
use Rattle.whole_files.specs.Calls.{Call, LeftSince, MayLeave, NextLeft, CallState, all_within, faults_in, is_named_after, is_usable_after, folder_sync_call, next_seen, next_state, overlay, refused_call, rename_call, seen_after, truncate_call, state_after, sync_call, within_by, write_call}
use Rattle.whole_files.proofs.Syncs.{synced_only}
use Rattle.cedar_disk.specs.Laws.{counts_now, only_now}
use Rattle.cedar_disk.specs.Runs.{IsUnplaced}

-- ---- writes and cuts of one file

pub overlaid_length : (at : ℕ) (bytes file : List ℕ) → at ≤ length file → length (overlay file at bytes) ≡ at + length bytes + length (drop (at + length bytes) file)
overlaid_length at bytes file within =
    let front : length (take at file) ≡ at = length-take-le at file within in
    omega (arith, front, length-append (take at file) bytes, length-append (take at file ++ bytes) (drop (at + length bytes) file))

torn_overlaid : (at : ℕ) (bytes file : List ℕ) → at ≤ length file → Torn at (length bytes) file (overlay file at bytes)
torn_overlaid at bytes file within = torn_held at bytes file (overlay file at bytes) within refl

-- ---- A crash may leave what a read returns: so the model never says that there can be none.

good_stays : (kind at : ℕ) (bytes file : List ℕ) (before : List ℕ → Type 0) (was : Bool) → before file → IsTrue (within_by kind at file was) → NextLeft kind at true bytes file before (next_seen kind at true bytes file)
good_stays zero at bytes file before was stays within = refl
good_stays (suc zero) at bytes file before was stays within = (file, stays, torn_overlaid at bytes file (leb-true _ _ (and_parts _ _ within).0))
good_stays (suc (suc zero)) at bytes file before was stays within = (file, stays, cut_taken at file (leb-true _ _ (and_parts _ _ within).0))
good_stays (suc (suc (suc zero))) at bytes file before was stays within = refl
good_stays (suc (suc (suc (suc zero)))) at bytes file before was stays within = inr refl
good_stays (suc (suc (suc (suc (suc zero))))) at bytes file before was stays within = refl
good_stays (suc (suc (suc (suc (suc (suc more)))))) at bytes file before was stays within = stays

flagged : (kind at : ℕ) (ok u : Bool) (bytes file : List ℕ) (before : List ℕ → Type 0) → IsTrue (u && ok) → NextLeft kind at true bytes file before (next_seen kind at true bytes file)
    → NextLeft kind at (ok && (u && ok)) bytes file before (next_seen kind at ok bytes file)
flagged kind at true true bytes file before usable stays = stays
flagged kind at true false bytes file before usable stays = absurd (false≢true usable)
flagged kind at false true bytes file before usable stays = absurd (false≢true usable)
flagged kind at false false bytes file before usable stays = absurd (false≢true usable)

next_stays : (kind at : ℕ) (ok : Bool) (s : CallState) (bytes file : List ℕ) (before : List ℕ → Type 0) (was : Bool) → (IsTrue s.0 → before file) → IsTrue (within_by kind at file was)
    → IsTrue (next_state kind ok s).0 → NextLeft kind at (ok && (next_state kind ok s).0) bytes file before (next_seen kind at ok bytes file)
next_stays zero at ok s bytes file before was stays within usable = refl
next_stays (suc zero) at ok s bytes file before was stays within usable =
    flagged 1 at ok s.0 bytes file before usable (good_stays 1 at bytes file before was (stays (and_parts _ _ usable).0) within)
next_stays (suc (suc zero)) at ok s bytes file before was stays within usable =
    flagged 2 at ok s.0 bytes file before usable (good_stays 2 at bytes file before was (stays (and_parts _ _ usable).0) within)
next_stays (suc (suc (suc zero))) at ok s bytes file before was stays within usable = flagged 3 at ok s.0 bytes file before usable refl
next_stays (suc (suc (suc (suc zero)))) at ok s bytes file before was stays within usable = absurd (false≢true usable)
next_stays (suc (suc (suc (suc (suc zero))))) at ok s bytes file before was stays within usable = flagged 5 at ok s.1 bytes file before usable refl
next_stays (suc (suc (suc (suc (suc (suc more)))))) at ok s bytes file before was stays within usable = stays usable

were_within : (kind at : ℕ) (file : List ℕ) (was : Bool) → IsTrue (within_by (suc kind) at file was) → IsTrue was
were_within zero at file was within = (and_parts _ _ within).1
were_within (suc zero) at file was within = (and_parts _ _ within).1
were_within (suc (suc more)) at file was within = within

pub stays : (calls : List Call) → IsTrue (all_within calls) → IsTrue (is_usable_after calls) → MayLeave calls (seen_after calls)
stays [] within usable = absurd (false≢true within)
stays ((zero, at, ok, bytes) ∷ earlier) within usable = refl
stays ((suc kind, at, ok, bytes) ∷ earlier) within usable =
    next_stays (suc kind) at ok (state_after earlier) bytes (seen_after earlier) (MayLeave earlier) (all_within earlier)
    (stays earlier (were_within kind at (seen_after earlier) (all_within earlier) within)) within usable

pub synced_file : (old new : List Call) → IsTrue (is_usable_after old) → new ≡ sync_call true ∷ old → Only (seen_after old) (MayLeave new) × Only (seen_after new) (MayLeave new)
synced_file old new usable is =
    let only = subst (λ (l : List Call). Only (seen_after old) (MayLeave l)) (sym is) (synced_only old usable) in
    (only, subst (λ (f : List ℕ). Only f (MayLeave new)) (sym (ap seen_after is)) only)

-- and behind that of the folder the name of another file
pub named_only : (calls : List Call) (bytes : List ℕ) → IsTrue (is_named_after calls) → Only bytes (MayLeave (folder_sync_call true ∷ rename_call bytes true ∷ calls))
named_only calls bytes known c left =
    let flag : ((is_named_after calls && true) && true) ≡ true = and_from _ _ (and_from _ _ known refl) refl in
    subst (λ (b : Bool). NextLeft 5 0 b [] bytes (MayLeave (rename_call bytes true ∷ calls)) c) flag left

pub named_file : (old new : List Call) (bytes : List ℕ) → IsTrue (is_named_after old) → new ≡ folder_sync_call true ∷ rename_call bytes true ∷ old → Only bytes (MayLeave new)
named_file old new bytes known is = subst (λ (l : List Call). Only bytes (MayLeave l)) (sym is) (named_only old bytes known)

pub usable_again : (calls : List Call) (bytes : List ℕ) → IsTrue (is_named_after calls) → IsTrue (is_usable_after (folder_sync_call true ∷ rename_call bytes true ∷ calls))
usable_again calls bytes known = and_from _ _ (and_from _ _ known refl) refl

pub named_again : (calls : List Call) (bytes : List ℕ) → IsTrue (is_named_after calls) → IsTrue (is_named_after (folder_sync_call true ∷ rename_call bytes true ∷ calls))
named_again calls bytes known = and_from _ _ (and_from _ _ known refl) refl

-- ---- The calls of a device, of whose calls old were made before and new are made now.

module _ (old new : List Call) where
  pub refused_keeps : new ≡ refused_call ∷ old → (c : List ℕ) → MayLeave new c → MayLeave old c
  refused_keeps is = subst (λ (l : List Call). (c : List ℕ) → MayLeave l c → MayLeave old c) (sym is) (λ c left. left)

  pub refused_write : (at n : ℕ) → new ≡ refused_call ∷ old → Follows (Torn at n) (MayLeave old) (MayLeave new)
  refused_write at n is = λ c left. (c, refused_keeps is c left, torn_same at n c)

  pub refused_cut : (len : ℕ) → new ≡ refused_call ∷ old → Follows (Cut len) (MayLeave old) (MayLeave new)
  refused_cut len is = λ c left. (c, refused_keeps is c left, cut_same len c)

  pub write_follows : (at : ℕ) (bytes : List ℕ) (ok : Bool) → new ≡ write_call at bytes ok ∷ old → Follows (Torn at (length bytes)) (MayLeave old) (MayLeave new)
  write_follows at bytes ok is = subst (λ (l : List Call). Follows (Torn at (length bytes)) (MayLeave old) (MayLeave l)) (sym is) (λ c left. left)

  pub cut_follows : (len : ℕ) (ok : Bool) → new ≡ truncate_call len ok ∷ old → Follows (Cut len) (MayLeave old) (MayLeave new)
  cut_follows len ok is = subst (λ (l : List Call). Follows (Cut len) (MayLeave old) (MayLeave l)) (sym is) (λ c left. left)

  pub sync_keeps : IsTrue (all_within old) → (ok : Bool) → IsTrue (is_usable_after old) → new ≡ sync_call ok ∷ old → (c : List ℕ) → MayLeave new c → MayLeave old c
  sync_keeps within ok usable is =
      subst (λ (l : List Call). (c : List ℕ) → MayLeave l c → MayLeave old c) (sym is)
      (takes (ok && (is_usable_after old && ok)))
    where
      takes : (b : Bool) (c : List ℕ) → NextLeft 3 0 b [] (seen_after old) (MayLeave old) c → MayLeave old c
      takes true c now = subst (MayLeave old) (sym now) (stays old within usable)
      takes false c left = left

-- what a crash may leave once another file of these bytes was given the name, and the folder was synced or not
module _ (old : List Call) (bytes : List ℕ) where
  pub rename_leaves : (ok : Bool) (c : List ℕ) → MayLeave (rename_call bytes ok ∷ old) c → MayLeave old c ⊎ (c ≡ bytes)
  rename_leaves ok c left = left

  pub name_leaves : (ok : Bool) (c : List ℕ) → MayLeave (folder_sync_call ok ∷ rename_call bytes true ∷ old) c → MayLeave old c ⊎ (c ≡ bytes)
  name_leaves ok = takes (ok && ((is_named_after old && true) && ok))
    where
      takes : (b : Bool) (c : List ℕ) → NextLeft 5 0 b [] bytes (MayLeave (rename_call bytes true ∷ old)) c → MayLeave old c ⊎ (c ≡ bytes)
      takes true c now = inr now
      takes false c left = left

-- no call more
pub elapses_none : (calls : List Call) → Elapses (length calls) (length calls) (LeftSince calls) (LeftSince calls) (MayLeave calls)
elapses_none calls = record { later = omega arith; nothing_else = λ t c le left. inl left; keeps = λ t c le past. past }

-- one call more
pub elapses : (call : Call) (earlier : List Call) → Elapses (length earlier) (length (call ∷ earlier)) (LeftSince earlier) (LeftSince (call ∷ earlier)) (MayLeave (call ∷ earlier))
elapses call earlier = record {
  later = omega arith;
  nothing_else = λ t c le left. ⊎_elim (λ now. inr now) (λ past. inl past.1) left;
  keeps = λ t c le past. inr (le, past);
}

pub elapses_to : (call : Call) (old new : List Call) → new ≡ call ∷ old → Elapses (length old) (length new) (LeftSince old) (LeftSince new) (MayLeave new)
elapses_to call old new is =
    subst (λ (l : List Call). Elapses (length old) (length l) (LeftSince old) (LeftSince l) (MayLeave l)) (sym is) (elapses call old)

-- One call more behind some, which leaves all that might be left before it.
pub elapses_on : (call : Call) (old now : List Call) → Elapses (length old) (length now) (LeftSince old) (LeftSince now) (MayLeave now)
    → ((c : List ℕ) → MayLeave now c → MayLeave (call ∷ now) c)
    → Elapses (length old) (length (call ∷ now)) (LeftSince old) (LeftSince (call ∷ now)) (MayLeave (call ∷ now))
elapses_on call old now time more = record {
  later = omega (arith, time.later);
  nothing_else = λ t c le left. ⊎_elim (λ here. inr here) (λ past. ⊎_elim (λ before. inl before) (λ here. inr (more c here)) (time.nothing_else t c le past.1)) left;
  keeps = λ t c le past. inr (omega (arith, le, time.later), time.keeps t c le past);
}

-- a call after which a crash leaves what it might have left before, or what has P
pub leaves : (call : Call) (old new : List Call) (P : List ℕ → Type 0) → new ≡ call ∷ old → ((c : List ℕ) → MayLeave new c → MayLeave old c ⊎ P c)
    → LeavesOnly length LeftSince old new (λ c. MayLeave old c ⊎ P c)
leaves call old new P is left =
    moments.goes_on length LeftSince old old new (λ c. MayLeave old c ⊎ P c) (MayLeave new)
    (moments.started length LeftSince old (λ c. MayLeave old c ⊎ P c) (λ c now. inl (only_now old c now)))
    (elapses_to call old new is)
    left

-- ---- a replacement

-- the file has its new name, or it isn't known
module _ (old new : List Call) (bytes : List ℕ) (ok : Bool) (is : new ≡ rename_call bytes ok ∷ old) where
  pub renamed_leaves : (c : List ℕ) → MayLeave new c → MayLeave old c ⊎ (c ≡ bytes)
  renamed_leaves = subst (λ (l : List Call). (c : List ℕ) → MayLeave l c → MayLeave old c ⊎ (c ≡ bytes)) (sym is) (rename_leaves old bytes ok)

  pub renames : LeavesOnly length LeftSince old new (λ c. MayLeave old c ⊎ (c ≡ bytes))
  renames = leaves (rename_call bytes ok) old new (λ c. c ≡ bytes) is renamed_leaves

-- and its folder was synced, or that failed
module _ (old new : List Call) (bytes : List ℕ) (ok : Bool) (is : new ≡ folder_sync_call ok ∷ rename_call bytes true ∷ old) where
  pub named_leaves : (c : List ℕ) → MayLeave new c → MayLeave old c ⊎ (c ≡ bytes)
  named_leaves = subst (λ (l : List Call). (c : List ℕ) → MayLeave l c → MayLeave old c ⊎ (c ≡ bytes)) (sym is) (name_leaves old bytes ok)

  pub names : LeavesOnly length LeftSince old new (λ c. MayLeave old c ⊎ (c ≡ bytes))
  names =
      let mid = rename_call bytes true ∷ old in
      subst (λ (l : List Call). LeavesOnly length LeftSince old l (λ c. MayLeave old c ⊎ (c ≡ bytes))) (sym is)
      (moments.goes_on length LeftSince old mid (folder_sync_call ok ∷ mid) (λ c. MayLeave old c ⊎ (c ≡ bytes)) (MayLeave (folder_sync_call ok ∷ mid))
      (renames old mid bytes true refl) (elapses (folder_sync_call ok) mid) (name_leaves old bytes ok))

module _ (old : List Call) (bytes : List ℕ) where
  has_new : (ok : Bool) (c : List ℕ) → c ≡ bytes → MayLeave (folder_sync_call ok ∷ rename_call bytes true ∷ old) c
  has_new ok = puts (ok && ((is_named_after old && true) && ok))
    where
      puts : (b : Bool) (c : List ℕ) → c ≡ bytes → NextLeft 5 0 b [] bytes (MayLeave (rename_call bytes true ∷ old)) c
      puts true c is = is
      puts false c is = inr is

  both_elapse : (ok : Bool) → Elapses (length old) (length (folder_sync_call ok ∷ rename_call bytes true ∷ old)) (LeftSince old) (LeftSince (folder_sync_call ok ∷ rename_call bytes true ∷ old)) (MayLeave (folder_sync_call ok ∷ rename_call bytes true ∷ old))
  both_elapse ok = record {
    later = omega arith;
    nothing_else = λ t c le left.
        ⊎_elim (λ now. inr now)
        (λ past. ⊎_elim (λ mid. ⊎_elim (λ was. inl (counts_now old t c le was)) (λ is. inr (has_new ok c is)) mid) (λ far. inl far.1) past.1) left;
    keeps = λ t c le past. inr (omega (arith, le), inr (le, past));
  }

  pub names_elapse : (new : List Call) (ok : Bool) → new ≡ folder_sync_call ok ∷ rename_call bytes true ∷ old → Elapses (length old) (length new) (LeftSince old) (LeftSince new) (MayLeave new)
  names_elapse new ok is =
      subst (λ (l : List Call). Elapses (length old) (length l) (LeftSince old) (LeftSince l) (MayLeave l)) (sym is) (both_elapse ok)

never_and : (b : Bool) → (b && false) ≡ false
never_and true = refl
never_and false = refl

-- one of the two, where a call has failed
module _ (bytes : List ℕ) (old new : List Call) where
  pub placed_faults : new ≡ folder_sync_call true ∷ rename_call bytes true ∷ old → faults_in old ≤ faults_in new
  placed_faults is =
      let same : faults_in new ≡ faults_in old = ap faults_in is in
      omega (arith, same)

  one_fault : faults_in new ≡ suc (faults_in old) → faults_in old < faults_in new
  one_fault more = omega (arith, more)

  module _ (is : IsUnplaced bytes old new) where
    pub unplaced_leaves : (c : List ℕ) → MayLeave new c → MayLeave old c ⊎ (c ≡ bytes)
    unplaced_leaves = ⊎_elim (λ lacks. renamed_leaves old new bytes false lacks) (λ has. named_leaves old new bytes false has) is

    pub unplaced_names : LeavesOnly length LeftSince old new (λ c. MayLeave old c ⊎ (c ≡ bytes))
    unplaced_names = ⊎_elim (λ lacks. renames old new bytes false lacks) (λ has. names old new bytes false has) is

    pub unplaced_elapse : Elapses (length old) (length new) (LeftSince old) (LeftSince new) (MayLeave new)
    unplaced_elapse = ⊎_elim (λ lacks. elapses_to (rename_call bytes false) old new lacks) (λ has. names_elapse old bytes new false has) is

    pub unplaced_faults : faults_in old < faults_in new
    unplaced_faults = ⊎_elim (λ lacks. one_fault (ap faults_in lacks)) (λ has. one_fault (ap faults_in has)) is

    -- and which of the two it is isn't known
    pub unplaced_lost : is_named_after new ≡ false
    unplaced_lost = ⊎_elim (λ lacks. ap is_named_after lacks) (λ has. ap is_named_after has ∙ never_and (is_named_after old && true)) is

    pub unplaced_within : IsTrue (all_within old) → IsTrue (all_within new)
    unplaced_within within =
        ⊎_elim (λ lacks. subst (λ (l : List Call). IsTrue (all_within l)) (sym lacks) within) (λ has. subst (λ (l : List Call). IsTrue (all_within l)) (sym has) within) is
