-- The changes of a batch as records, written one behind another.
use Rattle.std.specs.Prelude.{option_map, option_and_then, Option, Some, None}
use Rattle.std.proofs.Common.{◌≡◌, ℕ, zero, suc, ◌+◌, ◌≤◌, ◌<◌, true, List, [], ◌∷◌, ◌++◌, length, get_or, refl, ◌∙◌, ap, arith, length-append}
use Rattle.std.proofs.lemmas.List.{drop_all, take_all}
use Rattle.cedar_journal.specs.Records.{payload_length, payload, behind_record, has_record, payloads_in, AreWholeRecords}
use Rattle.cedar_journal.proofs.Fronts.{front_and, front_of_none, one_record, record_is_front}
use Rattle.cedar_journal.proofs.Numbers.{told_length}
use Rattle.cedar_journal.proofs.Reading.{is_record, nothing_there, payloads_none}
use Rattle.cedar_store.specs.declared.error.DurableError.{DurableError}
use Rattle.cedar_store.specs.declared.error.DurableError.TheVariants as error
use Rattle.cedar_store.specs.Batches.{batch_length, change_length, record_of}
use Rattle.cedar_store.specs.Causes.{FrameCause, PayloadCause}
use Rattle.cedar_store.specs.Changes.{Change, change_of, changes_of, each_change, records_length}
use Rattle.cedar_store.proofs.Batched.{whole_batch}
use Rattle.cedar_store.proofs.Payloads.{of_batch}

-- ---- the record of one payload

module _ (p : List ℕ) (short : length p < 4294967296) where
  there : has_record (record_of p) ≡ true
  there = is_record (record_of p) refl (omega (arith, told_length (length p) short))

  itself : payload (record_of p) ≡ p
  unfolding payload
  itself = take_all (payload_length (record_of p)) p (omega (arith, told_length (length p) short))

  alone : behind_record (record_of p) ≡ []
  unfolding behind_record
  alone = drop_all (5 + payload_length (record_of p)) (record_of p) (omega (arith, told_length (length p) short))

  its_front : AreWholeRecords (record_of p)
  its_front = record_is_front (record_of p) there alone

  pub its_payloads : payloads_in (record_of p) ≡ p ∷ []
  its_payloads = one_record (record_of p) there alone ∙ ap (λ (l : List ℕ). l ∷ []) itself

-- ---- one change more

insert_one : (o : Option Change) (r : Option (List Change)) (c : Change)
    → option_and_then (λ d. option_map (λ changes. d ∷ changes) (option_map (λ changes. changes ++ c ∷ []) r)) o
    ≡ option_map (λ changes. changes ++ c ∷ []) (option_and_then (λ d. option_map (λ changes. d ∷ changes) r) o)
insert_one None r c = refl
insert_one (Some d) None c = refl
insert_one (Some d) (Some changes) c = refl

pub each_more : (ps : List (List ℕ)) (p : List ℕ) (c : Change) → change_of p ≡ Some c → each_change (ps ++ p ∷ []) ≡ option_map (λ changes. changes ++ c ∷ []) (each_change ps)
each_more [] p c is = ap (option_and_then (λ (d : Change). option_map (λ changes. d ∷ changes) (Some []))) is
each_more (q ∷ ps) p c is =
    ap (λ (r : Option (List Change)). option_and_then (λ d. option_map (λ changes. d ∷ changes) r) (change_of q)) (each_more ps p c is) ∙ insert_one (change_of q) (each_change ps) c

pub longer_records : (ps : List (List ℕ)) (p : List ℕ) → records_length (ps ++ p ∷ []) ≡ records_length ps + (5 + length p)
longer_records [] p = omega arith
longer_records (q ∷ ps) p = let more = longer_records ps p in omega (arith, more)

longer_batch : (changes : List Change) (c : Change) → batch_length (changes ++ c ∷ []) ≡ batch_length changes + (5 + change_length c)
longer_batch [] c = omega arith
longer_batch (d ∷ changes) c = let more = longer_batch changes c in omega (arith, more)

-- some bytes are the records of some changes, one behind another
pub record AreRecorded (changes : List Change) (bytes : List ℕ) : Type 0 where
  pub front : AreWholeRecords bytes
  pub each : each_change (payloads_in bytes) ≡ Some changes
  pub long : records_length (payloads_in bytes) ≡ length bytes
  pub size : 1 + length bytes ≡ batch_length changes

pub none_recorded : AreRecorded [] []
none_recorded = record {
  front = front_of_none;
  each = ap each_change (payloads_none [] nothing_there);
  long = ap records_length (payloads_none [] nothing_there);
  size = refl;
}

pub one_recorded : (changes : List Change) (c : Change) (bytes p : List ℕ) → AreRecorded changes bytes → change_of p ≡ Some c → length p ≡ change_length c → length p < 4294967296
    → AreRecorded (changes ++ c ∷ []) (bytes ++ record_of p)
one_recorded changes c bytes p before is size short =
    let payloads : payloads_in (bytes ++ record_of p) ≡ payloads_in bytes ++ p ∷ [] = before.front (record_of p) ∙ ap (λ (l : List (List ℕ)). payloads_in bytes ++ l) (its_payloads p short) in
    let joined = length-append bytes (record_of p) in
    let longer : length (bytes ++ record_of p) ≡ length bytes + (5 + length p) = omega (arith, joined) in record {
      front = front_and bytes (record_of p) before.front (its_front p short);
      each = ap each_change payloads ∙ each_more (payloads_in bytes) p c is ∙ ap (option_map (λ (l : List Change). l ++ c ∷ [])) before.each;
      long = ap records_length payloads ∙ longer_records (payloads_in bytes) p ∙ omega (arith, before.long, longer);
      size = omega (arith, before.size, longer, size, longer_batch changes c);
    }

pub batch_recorded : (changes : List Change) (bytes : List ℕ) → AreRecorded changes bytes → changes_of (2 ∷ bytes) ≡ Some changes
batch_recorded changes bytes all = of_batch (2 ∷ bytes) refl ∙ whole_batch bytes all.long ∙ all.each

-- ---- why no payload was made

pub longest : (changes : List Change) (i : ℕ) (d : Change) → i < length changes → change_length (get_or changes i d) ≤ batch_length changes
longest [] i d low = absurd (omega (arith, low))
longest (c ∷ changes) zero d low = omega arith
longest (c ∷ changes) (suc i) d low = let less = longest changes i d (omega (arith, low)) in omega (arith, less)

pub longer_cause : (n m : ℕ) (e : DurableError) → n ≤ m → PayloadCause n e → PayloadCause m e
longer_cause n m error.TooLong low cause = omega (arith, low, cause)
longer_cause n m (error.Refused e) low cause = cause
longer_cause n m (error.RefusedAt index e) low cause = cause
longer_cause n m error.Foreign low cause = cause
longer_cause n m (error.Damaged place) low cause = cause
longer_cause n m error.Corrupt low cause = cause
longer_cause n m error.Full low cause = cause
longer_cause n m error.NoRoom low cause = cause
longer_cause n m (error.Device e) low cause = cause
longer_cause n m error.Failed low cause = cause

pub frame_cause : (end n : ℕ) (e : DurableError) → PayloadCause n e → FrameCause end n e
frame_cause end n error.TooLong cause = cause
frame_cause end n (error.Refused e) cause = cause
frame_cause end n (error.RefusedAt index e) cause = cause
frame_cause end n error.Foreign cause = cause
frame_cause end n (error.Damaged place) cause = cause
frame_cause end n error.Corrupt cause = cause
frame_cause end n error.Full cause = absurd cause
frame_cause end n error.NoRoom cause = cause
frame_cause end n (error.Device e) cause = cause
frame_cause end n error.Failed cause = cause
