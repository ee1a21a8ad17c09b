-- The records of a group, one behind another.
use Rattle.std.specs.Prelude.{ℤ, option_map, Some}
use Rattle.std.proofs.Common.{◌≡◌, inl, inr, ℕ, zero, suc, ◌+◌, ◌≤◌, ◌<◌, true, List, [], ◌∷◌, ◌++◌, length, take, drop, refl, sym, subst, ◌∙◌, ap, append_assoc, arith, slice_set, length-append, length-drop, take-append-drop}
use Rattle.std.proofs.lemmas.Bool.{cases_Bool, cases_eq}
use Rattle.std.proofs.lemmas.List.{drop-drop, take-append-le, take_all, take-set, drop-set, set-append_right, length-take-le}
use borrow.Rule.Slice.PartMut.{put_mid}
use Rattle.cedar_journal.specs.declared.format.Format.{Format}
use Rattle.cedar_journal.specs.declared.format.Format.TheVariants.{Plain, Summed}
use Rattle.cedar_journal.specs.Formats.{frame_of, opening, sum_of}
use Rattle.cedar_journal.specs.Records.{AreWholeRecords, behind_record, has_record, length_bytes, payload, payloads_in}
use Rattle.cedar_journal.proofs.Found.{length-payload}
use Rattle.cedar_journal.proofs.Fronts.{front_of_none}
use Rattle.cedar_journal.proofs.Reading.{behind_and_rest, length-behind, payloads_first, payloads_none, record_is_whole, same_payload, still_there}
use Rattle.cedar_plan.specs.Plans.{PlansAppend, works_of}
use Rattle.cedar_plan.specs.Works.{append_works}
use Rattle.cedar_plan.specs.declared.plan.Plan.{Plan}
use Rattle.crc32c.specs.Sums.{crc32c}
use Rattle.cedar_store.specs.Batches.{record_of}
use Rattle.cedar_store.specs.Changes.{Change, all_changed, batch_of, change_of, each_change, put_at, records_length}
use Rattle.cedar_store.proofs.Batched.{cut_batch, whole_batch}
use Rattle.cedar_store.proofs.Payloads.{of_batch}
use Rattle.cedar_store.proofs.Recorded.{each_more, its_payloads, longer_records}
use Rattle.cedar_c.specs.Changes.{IsRecord}
use Rattle.cedar_c.specs.Groups.{AddsChange, IsGroup, group_head}
use Rattle.cedar_c.proofs.PlanLemmas.{is_change}
use Rattle.std.proofs.lemmas.Option.{none-some}

-- ---- records that take all their bytes: what follows them is read as if it were alone

record_long : (bytes : List ℕ) → has_record bytes ≡ true → records_length (payloads_in bytes) ≡ 5 + length (payload bytes) + records_length (payloads_in (behind_record bytes))
record_long bytes has = ap records_length (payloads_first bytes has)

all_front : (n : ℕ) (bytes : List ℕ) → length bytes ≤ n → records_length (payloads_in bytes) ≡ length bytes → AreWholeRecords bytes
all_front n [] low long = front_of_none
all_front zero (x ∷ bytes) low long = absurd (omega (arith, low))
all_front (suc n) (x ∷ bytes) low long = elim (cases_Bool (has_record (x ∷ bytes))) [
  | inl has ↦
      let size = length-payload (x ∷ bytes) has in
      let less = length-behind (x ∷ bytes) in
      let whole = record_is_whole (x ∷ bytes) has in
      let again = all_front n (behind_record (x ∷ bytes)) (omega (arith, low, less, whole)) (omega (arith, long, record_long (x ∷ bytes) has, size, less, whole)) in
      λ rest.
      payloads_first ((x ∷ bytes) ++ rest) (still_there (x ∷ bytes) rest has)
      ∙ (λ i. same_payload (x ∷ bytes) rest has i ∷ payloads_in (behind_and_rest (x ∷ bytes) rest has i))
      ∙ ap (λ (l : List (List ℕ)). payload (x ∷ bytes) ∷ l) (again rest)
      ∙ ap (λ (l : List (List ℕ)). l ++ payloads_in rest) (sym (payloads_first (x ∷ bytes) has))
  | inr lacks ↦ let none = ap records_length (payloads_none (x ∷ bytes) lacks) in absurd (omega (arith, long, none))
]

-- ---- one change more

batch_long : (records : List ℕ) (changes : List Change) → batch_of records ≡ Some changes → records_length (payloads_in records) ≡ length records
batch_long records changes is = elim (cases_eq (records_length (payloads_in records)) (length records)) [
  | inl same ↦ same
  | inr other ↦ absurd (none-some changes (sym (cut_batch records other) ∙ is))
]

more : (records p : List ℕ) (changes : List Change) (change : Change) → batch_of records ≡ Some changes → change_of p ≡ Some change → length p < 4294967296
    → batch_of (records ++ record_of p) ≡ Some (changes ++ change ∷ [])
more records p changes change is has short =
    let long = batch_long records changes is in
    let payloads : payloads_in (records ++ record_of p) ≡ payloads_in records ++ p ∷ [] =
    all_front (length records) records (omega arith) long (record_of p) ∙ ap (λ (l : List (List ℕ)). payloads_in records ++ l) (its_payloads p short) in
    let joined = length-append records (record_of p) in
    let longer : records_length (payloads_in (records ++ record_of p)) ≡ length (records ++ record_of p) =
    ap records_length payloads ∙ longer_records (payloads_in records) p ∙ omega (arith, long, joined) in
    whole_batch (records ++ record_of p) longer ∙ ap each_change payloads ∙ each_more (payloads_in records) p change has
    ∙ ap (option_map (λ (l : List Change). l ++ change ∷ [])) (sym (whole_batch records long) ∙ is)

-- the record of version 1 of a change in a buffer, without its last byte
plain_adds : (change : Change) (end n size k : ℕ) (buffer : List ℕ) → k ≡ n + 5 → IsRecord change Plain end n size buffer → AddsChange change (take k buffer)
plain_adds change end n size k buffer far r = λ records changes is.
    let shown : buffer ≡ record_of r.payload ++ 0 ∷ r.rest =
    r.written ∙ ap (λ (l : List ℕ). 1 ∷ (length_bytes (length r.payload) ++ l)) (append_assoc r.payload (0 ∷ []) r.rest) in
    let first : take k buffer ≡ record_of r.payload =
    ap (take k) shown
    ∙ take-append-le k (record_of r.payload) (0 ∷ r.rest) (omega (arith, r.long, far))
    ∙ take_all k (record_of r.payload) (omega (arith, r.long, far)) in
    ap (λ (l : List ℕ). batch_of (records ++ l)) first ∙ more records r.payload changes change is r.has (omega (arith, r.short, r.long))

pub adds_change : (change : Change) (f : Format) (end n size k : ℕ) (buffer : List ℕ) → k ≡ n + 5 → IsRecord change f end n size buffer → f ≡ Plain
    → AddsChange change (take k buffer)
adds_change change f end n size k buffer far r plain = plain_adds change end n size k buffer far (subst (λ g. IsRecord change g end n size buffer) plain r)

-- so of the record of a put, whose value a word of the machine held meanwhile
pub put_adds : (key : List ℕ) (w v : ℤ) (f : Format) (end n size k : ℕ) (buffer : List ℕ) → k ≡ n + 5 → IsRecord (put_at key w) f end n size buffer → f ≡ Plain
    → w ≡ v → AddsChange (put_at key v) (take k buffer)
put_adds key w v f end n size k buffer far r plain same =
    subst (λ x. AddsChange (put_at key x) (take k buffer)) same (adds_change (put_at key w) f end n size k buffer far r plain)

-- ---- the record of all of them

-- a buffer begins with the record of a group of these records
abbrev pub BeginsWithGroup : Format → List ℕ → List ℕ → Type 0
BeginsWithGroup f records buffer = (rest : List ℕ) × (buffer ≡ (opening f ∷ frame_of f (2 ∷ records)) ++ rest)

-- what the plan of a group does
pub group_works : (f : Format) (end size : ℕ) (records buffer : List ℕ) (plan : Plan) → length records ≡ size → BeginsWithGroup f records buffer
    → PlansAppend plan (size + group_head f + 1) end → works_of buffer plan ≡ append_works f end (2 ∷ records)
group_works f end size records buffer plan long begins works =
    ap (λ (b : List ℕ). works_of b plan) begins.1 ∙ works f (2 ∷ records) begins.0 (omega (arith, long))

pub is_group : (f : Format) (end to size : ℕ) (records buffer : List ℕ) (plan : Plan) → end < 1152921504606846976 → length records ≡ size → size + 1 < 4294967296
    → BeginsWithGroup f records buffer → PlansAppend plan (size + group_head f + 1) end → to + 1 ≡ end + (size + group_head f + 1)
    → IsGroup (works_of buffer plan) f end to records
is_group f end to size records buffer plan room long short begins works far = λ changes s is.
    is_change f end (2 ∷ records) s (all_changed s changes) (omega (arith, long, short)) room
    (ap (option_map (all_changed s)) (of_batch (2 ∷ records) refl ∙ is)) to (works_of buffer plan)
    (group_works f end size records buffer plan long begins works) (omega (arith, far, long))

-- ---- a buffer in which the head and the closed gate have been written

-- behind a head of k bytes
closed_behind : (k n : ℕ) (b h : List ℕ) → n + k + 1 ≤ length b → length h ≡ k
    → slice_set (h ++ drop k b) (n + k) 0 ≡ h ++ (take n (drop k b) ++ 0 ∷ drop (n + 1) (drop k b))
closed_behind k n b h room long =
    let size = length-drop k b in
    let last : slice_set (drop k b) n 0 ≡ take n (drop k b) ++ 0 ∷ drop (n + 1) (drop k b) =
    sym (take-append-drop n (slice_set (drop k b) n 0)) ∙ (λ i. take-set (drop k b) n 0 i ++ drop-set (drop k b) n 0 (omega (arith, size, room)) i) in
    set-append_right h (drop k b) k (n + k) 0 long (omega arith)
    ∙ ap (λ m. h ++ slice_set (drop k b) m 0) (omega arith)
    ∙ ap (λ (l : List ℕ). h ++ l) last

-- how many bytes the record of the group has as its payload
count : (k n : ℕ) (b : List ℕ) → n + k + 1 ≤ length b → n + 1 ≡ length (2 ∷ take n (drop k b))
count k n b room = omega (arith, length-take-le n (drop k b) (omega (arith, length-drop k b, room)))

-- what a group's record of version 1 has behind its gate and in front of the records
plain_begins : (n : ℕ) (b h : List ℕ) → n + 7 ≤ length b → h ≡ 1 ∷ (length_bytes (n + 1) ++ 2 ∷ [])
    → BeginsWithGroup Plain (take n (drop 6 b)) (slice_set (h ++ drop 6 b) (n + 6) 0)
plain_begins n b h room is =
    let records = take n (drop 6 b) in
    let behind = drop (n + 1) (drop 6 b) in
    let number = count 6 n b (omega (arith, room)) in (
      behind,
      closed_behind 6 n b h (omega (arith, room)) (ap length is)
          ∙ ap (λ (l : List ℕ). l ++ (records ++ 0 ∷ behind)) (is ∙ ap (λ m. 1 ∷ (length_bytes m ++ 2 ∷ [])) number)
          ∙ ap (λ (l : List ℕ). 1 ∷ (length_bytes (length (2 ∷ records)) ++ 2 ∷ l)) (sym (append_assoc records (0 ∷ []) behind)),
    )

pub plain_framed : (n : ℕ) (b start : List ℕ) → n + 7 ≤ length b → start ≡ length_bytes (n + 1) ++ 2 ∷ []
    → BeginsWithGroup Plain (take n (drop 6 b)) (slice_set (put_mid 1 5 (slice_set b 0 1) start) (n + 6) 0)
plain_framed n [] start room is = absurd (omega (arith, room))
plain_framed n (x ∷ b) start room is = plain_begins n (x ∷ b) (1 ∷ start) room (ap (λ (l : List ℕ). 1 ∷ l) is)

-- the same of version 2
summed_begins : (n sum : ℕ) (b h part : List ℕ) → n + 11 ≤ length b → part ≡ take n (drop 10 b) → sum ≡ crc32c ((length_bytes (n + 1) ++ 2 ∷ []) ++ part)
    → h ≡ 255 ∷ (length_bytes sum ++ (length_bytes (n + 1) ++ 2 ∷ [])) → BeginsWithGroup Summed (take n (drop 10 b)) (slice_set (h ++ drop 10 b) (n + 10) 0)
summed_begins n sum b h part room same is_sum is =
    let records = take n (drop 10 b) in
    let behind = drop (n + 1) (drop 10 b) in
    let number = count 10 n b (omega (arith, room)) in
    let its_sum : sum ≡ sum_of (2 ∷ records) = is_sum ∙ (λ i. crc32c ((length_bytes (number i) ++ 2 ∷ []) ++ same i)) in (
      behind,
      closed_behind 10 n b h (omega (arith, room)) (ap length is)
          ∙ ap (λ (l : List ℕ). l ++ (records ++ 0 ∷ behind)) (is ∙ (λ i. 255 ∷ (length_bytes (its_sum i) ++ (length_bytes (number i) ++ 2 ∷ []))))
          ∙ ap (λ (l : List ℕ). 255 ∷ (length_bytes (sum_of (2 ∷ records)) ++ (length_bytes (length (2 ∷ records)) ++ 2 ∷ l))) (sym (append_assoc records (0 ∷ []) behind)),
    )

-- what the two parts of the head leave of a buffer
two_parts : (x : ℕ) (b digits start : List ℕ) (sum : ℕ) → digits ≡ length_bytes sum
    → put_mid 5 5 (put_mid 1 4 (slice_set (x ∷ b) 0 255) digits) start ≡ (255 ∷ (length_bytes sum ++ start)) ++ drop 10 (x ∷ b)
two_parts x b digits start sum is =
    ap (λ (l : List ℕ). put_mid 5 5 (put_mid 1 4 (slice_set (x ∷ b) 0 255) l) start) is
    ∙ ap (λ (l : List ℕ). 255 ∷ (length_bytes sum ++ (start ++ l))) (drop-drop 5 4 b)

pub summed_framed : (n sum : ℕ) (b digits start part : List ℕ) → n + 11 ≤ length b → start ≡ length_bytes (n + 1) ++ 2 ∷ [] → part ≡ take n (drop 10 b)
    → sum ≡ crc32c (start ++ part) → digits ≡ length_bytes sum
    → BeginsWithGroup Summed (take n (drop 10 b)) (slice_set (put_mid 5 5 (put_mid 1 4 (slice_set b 0 255) digits) start) (n + 10) 0)
summed_framed n sum [] digits start part room is same is_sum is_digits = absurd (omega (arith, room))
summed_framed n sum (x ∷ b) digits start part room is same is_sum is_digits =
    subst (λ (l : List ℕ). BeginsWithGroup Summed (take n (drop 10 (x ∷ b))) (slice_set l (n + 10) 0)) (sym (two_parts x b digits start sum is_digits))
    (summed_begins n sum (x ∷ b) (255 ∷ (length_bytes sum ++ start)) part room same (is_sum ∙ ap (λ (l : List ℕ). crc32c (l ++ part)) is)
    (ap (λ (l : List ℕ). 255 ∷ (length_bytes sum ++ l)) is))
