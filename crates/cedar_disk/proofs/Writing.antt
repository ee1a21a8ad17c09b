-- Bytes that are written by one call behind another.
use Rattle.std.specs.Prelude.{IsTrue, Ok, Err}
use Rattle.std.proofs.Common.{◌≡◌, ℕ, suc, ◌+◌, ◌-◌, ◌≤◌, Bool, true, false, List, [], ◌∷◌, ◌++◌, length, take, drop, slice_range, refl, sym, ◌∙◌, ap, subst, arith, append-nil, append_assoc, length-append, length-drop, length-take-le, take-append-drop}
use Rattle.std.proofs.lemmas.Bool.{le-leb, and_from}
use Rattle.std.proofs.lemmas.List.{drop-drop, drop_all, drop_at, take_all, take_at, take_rest}
use lib.Seq.{take-add}
use Rattle.cedar_journal.specs.declared.device.DeviceError.TheVariants.{Failed, NoRoom}
use Rattle.cedar_journal.specs.Device.{Follows, HasCause, Only, Torn}
use Rattle.cedar_journal.proofs.Causes.{caused}
use Rattle.whole_files.specs.Calls.{Call, MayLeave, faults_in, full_call, full_in, is_usable_after, open_call, overlay, seen_after, sync_call, write_call}
use Rattle.cedar_disk.specs.Runs.{AreWritten, AreWrittenInPart, Spoils}
use Rattle.cedar_journal.proofs.Tears.{torn_held, torn_same, torn_then}
use Rattle.whole_files.proofs.Syncs.{synced_only}
use Rattle.cedar_disk.proofs.Steps.{elapses_none, elapses_on, overlaid_length}

-- ---- bytes over bytes

overlaid_none : (file : List ℕ) (at : ℕ) → overlay file at [] ≡ file
overlaid_none file at =
    let here : at + 0 ≡ at = omega arith in
    ap (λ (l : List ℕ). l ++ drop (at + 0) file) (append-nil (take at file)) ∙ ap (λ (k : ℕ). take at file ++ drop k file) here ∙ take-append-drop at file

overlaid_more : (file : List ℕ) (at : ℕ) (front more : List ℕ) → at ≤ length file → overlay (overlay file at front) (at + length front) more ≡ overlay file at (front ++ more)
overlaid_more file at front more within =
    let m = at + length front in
    let a = take at file ++ front in
    let d = drop m file in
    let size : length a ≡ m = omega (arith, length-append (take at file) front, length-take-le at file within) in
    let head : take m (a ++ d) ≡ a = take_at a d m size in
    let tail : drop (m + length more) (a ++ d) ≡ drop (m + length more) file =
    sym (drop-drop (length more) m (a ++ d)) ∙ ap (λ (l : List ℕ). drop (length more) l) (drop_at a d m size) ∙ drop-drop (length more) m file in
    let end : m + length more ≡ at + length (front ++ more) = omega (arith, length-append front more) in
    ap (λ (l : List ℕ). l ++ more ++ drop (m + length more) (a ++ d)) head
    ∙ ap (λ (l : List ℕ). a ++ more ++ l) tail
    ∙ ap (λ (l : List ℕ). l ++ drop (m + length more) file) (append_assoc (take at file) front more)
    ∙ ap (λ (k : ℕ). take at file ++ (front ++ more) ++ drop k file) end

-- a whole file
overlaid_all : (bytes : List ℕ) → overlay [] 0 bytes ≡ bytes
overlaid_all bytes = ap (λ (l : List ℕ). bytes ++ l) (drop_all (0 + length bytes) [] (omega arith)) ∙ append-nil bytes

-- ---- calls

spoils_none : (at size : ℕ) (calls : List Call) → Spoils at size calls calls
spoils_none at size calls = record {
  crash = λ c left. (c, left, torn_same at size c);
  time = elapses_none calls;
  faults = omega arith;
  full = omega arith;
  within = λ within. within;
  named = refl;
}

pub are_written_none : (at size : ℕ) (calls : List Call) → AreWritten at size [] calls calls
are_written_none at size calls = record {
  seen = sym (overlaid_none (seen_after calls) at);
  usable = λ usable. usable;
  faultless = refl;
  spoils = spoils_none at size calls;
}

module _ (at size : ℕ) (front : List ℕ) (old now : List Call) (fits : at ≤ length (seen_after old)) (so_far : AreWritten at size front old now) where
  begins : (from : ℕ) → from ≤ at + length front → from ≤ length (seen_after now)
  begins from high = omega (arith, high, ap length so_far.seen, overlaid_length at front (seen_after old) fits)

  -- a call that wrote more bytes, or all those or some if it failed
  spoils_more : (from : ℕ) (more : List ℕ) → at ≤ from → from ≤ at + length front → length front + length more ≤ size → (ok : Bool)
      → Follows (Torn at size) (MayLeave old) (MayLeave (write_call from more ok ∷ now))
  spoils_more from more low high room ok c left =
      let earlier = so_far.spoils.crash left.0 left.1 in
      (earlier.0, earlier.1, torn_then at size from (length more) earlier.0 left.0 c low (omega (arith, high, room)) earlier.2 left.2)

  pub are_written_more : (from : ℕ) (more : List ℕ) → from ≡ at + length front → length front + length more ≤ size → AreWritten at size (front ++ more) old (write_call from more true ∷ now)
  are_written_more from more is room = record {
    seen =
        ap (λ (f : List ℕ). overlay f from more) so_far.seen ∙ ap (λ (k : ℕ). overlay (overlay (seen_after old) at front) k more) is
        ∙ overlaid_more (seen_after old) at front more fits;
    usable = λ usable. and_from _ _ (so_far.usable usable) refl;
    faultless = so_far.faultless;
    spoils = record {
      crash = spoils_more from more (omega (arith, is)) (omega (arith, is)) room true;
      time = elapses_on (write_call from more true) old now so_far.spoils.time (λ c left. (c, left, torn_same from (length more) c));
      faults = so_far.spoils.faults;
      full = so_far.spoils.full;
      within = λ within. and_from _ _ (le-leb from (length (seen_after now)) (begins from (omega (arith, is)))) (so_far.spoils.within within);
      named = so_far.spoils.named;
    };
  }

  pub spoils_failed : (from : ℕ) (more : List ℕ) → at ≤ from → from ≤ at + length front → length front + length more ≤ size → Spoils at size old (write_call from more false ∷ now)
  spoils_failed from more low high room = record {
    crash = spoils_more from more low high room false;
    time = elapses_on (write_call from more false) old now so_far.spoils.time (λ c left. (c, left, torn_same from (length more) c));
    faults = omega (arith, so_far.spoils.faults);
    full = so_far.spoils.full;
    within = λ within. and_from _ _ (le-leb from (length (seen_after now)) (begins from high)) (so_far.spoils.within within);
    named = so_far.spoils.named;
  }

-- a call that changes nothing
module _ (more k : ℕ) (ok : Bool) where
  abbrev idle : Call
  idle = (suc (suc (suc (suc (suc (suc more))))), k, ok, [])

  spoils_idle : (at size : ℕ) (old now : List Call) → Spoils at size old now → faults_in old ≤ faults_in (idle ∷ now) → full_in old ≤ full_in (idle ∷ now) → Spoils at size old (idle ∷ now)
  spoils_idle at size old now so_far faults full = record {
    crash = so_far.crash;
    time = elapses_on idle old now so_far.time (λ c left. left);
    faults = faults;
    full = full;
    within = so_far.within;
    named = so_far.named;
  }

-- ---- the loop

fronts : (bytes : List ℕ) (done n : ℕ) → take done bytes ++ take n (slice_range bytes done (length bytes)) ≡ take (done + n) bytes
fronts bytes done n = ap (λ (l : List ℕ). take done bytes ++ take n l) (take_rest bytes done) ∙ sym (take-add done n bytes)

module _ (bytes : List ℕ) (done : ℕ) (within : done ≤ length bytes) where
  pub front_length : length (take done bytes) ≡ done
  front_length = length-take-le done bytes within

  rest_length : length (slice_range bytes done (length bytes)) ≡ length bytes - done
  rest_length = ap length (take_rest bytes done) ∙ length-drop done bytes

module _ (at done from : ℕ) (bytes : List ℕ) (old now new : List Call) (fits : at ≤ length (seen_after old)) (within : done ≤ length bytes)
    (so_far : AreWritten at (length bytes) (take done bytes) old now) where
  pub wrote_more : (n : ℕ) → from ≡ at + done → done + n ≤ length bytes → new ≡ write_call from (take n (slice_range bytes done (length bytes))) true ∷ now
      → AreWritten at (length bytes) (take (done + n) bytes) old new
  wrote_more n is room noted =
      let more = take n (slice_range bytes done (length bytes)) in
      let front = front_length bytes done within in
      let size : length more ≡ n = length-take-le n (slice_range bytes done (length bytes)) (omega (arith, rest_length bytes done within, room)) in
      subst (λ (l : List Call). AreWritten at (length bytes) (take (done + n) bytes) old l) (sym noted)
      (subst (λ (l : List ℕ). AreWritten at (length bytes) l old (write_call from more true ∷ now)) (fronts bytes done n)
      (are_written_more at (length bytes) (take done bytes) old now fits so_far from more (omega (arith, is, front)) (omega (arith, front, size, room))))

  pub wrote_perhaps : at ≤ from → from ≤ at + done → new ≡ write_call from (slice_range bytes done (length bytes)) false ∷ now → Spoils at (length bytes) old new
  wrote_perhaps low high noted =
      let front = front_length bytes done within in
      subst (λ (l : List Call). Spoils at (length bytes) old l) (sym noted)
      (spoils_failed at (length bytes) (take done bytes) old now fits so_far from (slice_range bytes done (length bytes)) low (omega (arith, high, front))
      (omega (arith, front, rest_length bytes done within, within)))

module _ (at size : ℕ) (front : List ℕ) (old now new : List Call) (so_far : AreWritten at size front old now) where
  -- there was no room for the next ones
  pub wrote_no_more : new ≡ full_call ∷ now → AreWritten at size front old new
  wrote_no_more noted =
      subst (λ (l : List Call). AreWritten at size front old l) (sym noted) (record {
        seen = so_far.seen;
        usable = so_far.usable;
        faultless = so_far.faultless;
        spoils = spoils_idle 3 0 false at size old now so_far.spoils so_far.spoils.faults (omega (arith, so_far.spoils.full));
      })

  pub lacked_room : new ≡ full_call ∷ now → HasCause {T = Unit {0}} (faults_in old) (faults_in new) (full_in old) (full_in new) (Err NoRoom)
  lacked_room noted =
      let same : faults_in new ≡ faults_in old = ap faults_in noted ∙ so_far.faultless in
      let more : full_in new ≡ suc (full_in now) = ap full_in noted in
      caused _ _ _ _ (Err NoRoom) (omega (arith, same)) (omega (arith, more, so_far.spoils.full)) tt (omega (arith, more, so_far.spoils.full), same)

  -- a call has failed, and didn't lack room
  pub has_failed : faults_in new ≡ suc (faults_in now) → full_in new ≡ full_in now → HasCause {T = Unit {0}} (faults_in old) (faults_in new) (full_in old) (full_in new) (Err Failed)
  has_failed more same =
      caused _ _ _ _ (Err Failed) (omega (arith, more, so_far.spoils.faults)) (omega (arith, same, so_far.spoils.full)) tt (omega (arith, more, so_far.spoils.faults))

pub wrote_well : (at size : ℕ) (bytes : List ℕ) (old new : List Call) → AreWritten at size bytes old new → HasCause {T = Unit {0}} (faults_in old) (faults_in new) (full_in old) (full_in new) (Ok tt)
wrote_well at size bytes old new all = caused {T = Unit {0}} _ _ _ _ (Ok tt) all.spoils.faults all.spoils.full all.faultless tt

-- what a read returns then
pub torn_in_part : (at : ℕ) (bytes : List ℕ) (old new : List Call) → at ≤ length (seen_after old) → AreWrittenInPart at bytes old new
    → Torn at (length bytes) (seen_after old) (seen_after new)
torn_in_part at bytes old new fits part =
    let file = seen_after old in
    let torn = torn_held at part.0 file (seen_after new) fits part.2.seen in
    torn_then at (length bytes) at (length part.0) file file (seen_after new) (omega arith) (omega (arith, part.1)) (torn_same at (length bytes) file) torn

-- at its end
pub wrote_all : (at done : ℕ) (bytes : List ℕ) (old now : List Call) → length bytes ≤ done → AreWritten at (length bytes) (take done bytes) old now → AreWritten at (length bytes) bytes old now
wrote_all at done bytes old now all so_far = subst (λ (l : List ℕ). AreWritten at (length bytes) l old now) (take_all done bytes all) so_far

-- ---- a new file

pub new_file : (bytes : List ℕ) (start now : List Call) → start ≡ open_call [] ∷ [] → AreWritten 0 (length bytes) bytes start now → seen_after now ≡ bytes
new_file bytes start now is so_far = so_far.seen ∙ ap (λ (l : List Call). overlay (seen_after l) 0 bytes) is ∙ overlaid_all bytes

pub new_file_only : (bytes : List ℕ) (start now new : List Call) → start ≡ open_call [] ∷ [] → AreWritten 0 (length bytes) bytes start now → new ≡ sync_call true ∷ now → Only bytes (MayLeave new)
new_file_only bytes start now new is so_far noted =
    let usable : IsTrue (is_usable_after now) = so_far.usable (subst (λ (l : List Call). IsTrue (is_usable_after l)) (sym is) refl) in
    subst (λ (l : List Call). Only bytes (MayLeave l)) (sym noted) (λ c left. synced_only now usable c left ∙ new_file bytes start now is so_far)
