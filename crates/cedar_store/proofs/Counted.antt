-- How many records a file has: no more than bytes.
use Rattle.std.specs.Prelude.{option_map, Option, Some, None}
use Rattle.std.proofs.Common.{◌≡◌, ◌≤◌, ◌∙◌, ℕ, zero, suc, ◌+◌, Bool, true, false, cond, List, [], ◌∷◌, ◌++◌, length, take, drop, sym, ap, arith, length-append, length-drop}
use Rattle.cedar_journal.specs.declared.format.Format.{Format}
use Rattle.cedar_journal.specs.declared.format.Format.TheVariants.{Plain, Summed}
use Rattle.cedar_journal.specs.Files.{HasRecords, IsNewFile, IsWholeFront, with_payload, file_reading, format_of, is_begun, read_by, file_payloads, recovered_by}
use Rattle.cedar_journal.specs.Formats.{Reading, damaged, four_at, is_ended, is_summed, payloads_read, read_behind, read_first, records_read, stands}
use Rattle.cedar_journal.specs.Records.{behind_record, first_payloads, has_record, payload, payloads_in}
use Rattle.cedar_journal.proofs.Crash as crash
use Rattle.cedar_journal.proofs.Headers.{front_alone, front_ends}
use Rattle.std.proofs.lemmas.Option.{none-some}
use Rattle.cedar_journal.proofs.Readings.{shut}
use Rattle.cedar_store.specs.Files.{record_count}

-- ---- a record has some bytes

few_with : (b : Bool) (x : List ℕ) (xs : List (List ℕ)) (n : ℕ) → length xs ≤ n → length (cond b (x ∷ xs) []) ≤ suc n
few_with true x xs n few = omega (arith, few)
few_with false x xs n few = omega arith

few_payloads : (n : ℕ) (bytes : List ℕ) → length (first_payloads n bytes) ≤ n
unfolding first_payloads
few_payloads zero bytes = omega arith
few_payloads (suc n) bytes = few_with (has_record bytes) (payload bytes) (first_payloads n (behind_record bytes)) n (few_payloads n (behind_record bytes))

few_behind : (k : ℕ) (p : List ℕ) (r : Reading) (n : ℕ) → length (payloads_read r) ≤ n → length (payloads_read (read_behind k (p ∷ []) r)) ≤ suc n
few_behind k p (stands ps) n few = omega (arith, few)
few_behind k p (damaged place) n few = omega arith

few_if : (ended sound : Bool) (r : Reading) (n : ℕ) → length (payloads_read r) ≤ n → length (payloads_read (cond ended (stands []) (cond sound r (damaged 0)))) ≤ n
few_if true sound r n few = omega arith
few_if false true r n few = few
few_if false false r n few = omega arith

few_first : (n : ℕ) (bytes : List ℕ) → length (payloads_read (read_first n bytes)) ≤ n
unfolding read_first
few_first zero bytes = omega arith
few_first (suc n) bytes =
    let m = 9 + four_at bytes 5 in
    few_if (is_ended bytes) (is_summed bytes) (read_behind m (take (four_at bytes 5) (drop 9 bytes) ∷ []) (read_first n (drop m bytes))) (suc n)
    (few_behind m (take (four_at bytes 5) (drop 9 bytes)) (read_first n (drop m bytes)) n (few_first n (drop m bytes)))

few_read : (f : Format) (bytes : List ℕ) → length (payloads_read (records_read f bytes)) ≤ length bytes
unfolding records_read payloads_in
few_read Plain bytes = few_payloads (length bytes) bytes
few_read Summed bytes = few_first (length bytes) bytes

-- ---- so of a file

few_stands : (k : ℕ) (r : Reading) (ps : List (List ℕ)) (n : ℕ) → length (payloads_read r) ≤ n → recovered_by (Some (read_behind k [] r)) ≡ Some ps → length ps ≤ n
few_stands k (stands qs) ps n few is = let same : qs ≡ ps = cc in omega (arith, few, ap length same)
few_stands k (damaged place) ps n few is = absurd (none-some ps is)

few_new : (b : Bool) (ps : List (List ℕ)) (n : ℕ) → recovered_by (cond b (Some (stands [])) None) ≡ Some ps → length ps ≤ n
few_new true ps n is = let same : ◌≡◌ {A = List (List ℕ)} [] ps = cc in omega (arith, ap length same)
few_new false ps n is = absurd (none-some ps is)

few_by : (o : Option Format) (bytes : List ℕ) (ps : List (List ℕ)) → recovered_by (read_by o bytes) ≡ Some ps → length ps ≤ length bytes
few_by None bytes ps is = few_new (is_begun bytes) ps (length bytes) is
few_by (Some f) bytes ps is =
    let few = few_read f (drop 13 bytes) in
    few_stands 13 (records_read f (drop 13 bytes)) ps (length bytes) (omega (arith, few, length-drop 13 bytes)) is

few_recovered : (bytes : List ℕ) (ps : List (List ℕ)) → file_payloads bytes ≡ Some ps → length ps ≤ length bytes
unfolding file_payloads file_reading
few_recovered bytes ps is = few_by (format_of bytes) bytes ps is

-- a file at rest has no more records than bytes up to where they end
pub few_settled : (file : List ℕ) (f : Format) (end records : ℕ) → file ≡ take end file ++ 0 ∷ drop (end + 1) file → IsWholeFront f (take end file) → record_count file ≡ Some records → records ≤ end
few_settled file f end records split front counted =
    let whole = ap file_payloads split ∙ front_ends f (take end file) front.0 front.1 (0 ∷ drop (end + 1) file) (shut f (drop (end + 1) file)) in
    let both : Some (length front.0) ≡ Some records = sym (ap (option_map length) whole) ∙ counted in
    let is : length front.0 ≡ records = cc in
    omega (arith, is, few_recovered (take end file) front.0 (front_alone f (take end file) front.0 front.1), crash.front_ends file end split)

-- ---- a file that goes as far as this

pub new_counted : (file : List ℕ) → IsNewFile file → record_count file ≡ Some 0
new_counted file new = ap (option_map length) new.stands

pub records_counted : (file : List ℕ) (f : Format) (end : ℕ) → HasRecords file f end → record_count file ≡ Some (length (payloads_read (records_read f (drop 13 file))))
records_counted file f end records = ap (option_map length) records.stands

-- ---- one more

counted_one : (r : Option (List (List ℕ))) (p : List ℕ) (n m : ℕ) → option_map length r ≡ Some n → m ≡ n + 1 → option_map length (with_payload p r) ≡ Some m
counted_one None p n m is more = absurd (none-some n is)
counted_one (Some ps) p n m is more =
    let same : length ps ≡ n = cc in
    ap (λ k. Some k) (length-append ps (p ∷ []) ∙ ap (λ k. k + 1) same ∙ sym more)

pub counted_more : (before after p : List ℕ) (n m : ℕ) → record_count before ≡ Some n → file_payloads after ≡ with_payload p (file_payloads before) → m ≡ n + 1 → record_count after ≡ Some m
counted_more before after p n m is more next = ap (option_map length) more ∙ counted_one (file_payloads before) p n m is next
