-- What the code finds at the front of some bytes.
use Rattle.std.proofs.Common.{◌≡◌, ◌≢◌, ℕ, ◌+◌, ◌≤◌, ◌<◌, true, false, List, length, take, drop, get_or, ◌∙◌, ap, arith, length-drop, length-take-le}
use Rattle.std.proofs.lemmas.Bool.{false_from_ne_true}
use Rattle.cedar_journal.specs.Records.{payload_length, payload, behind_record, has_record}
use Rattle.cedar_journal.proofs.Reading.{record_is_whole, gate_is_open, is_record}

pub lacks_short : (file : List ℕ) → length file < 5 → has_record file ≡ false
lacks_short file low = false_from_ne_true _ (λ has. let fits = record_is_whole file has in absurd (omega (arith, low, fits)))

pub lacks_shut : (file : List ℕ) → get_or file 0 0 ≢ 1 → has_record file ≡ false
lacks_shut file shut = false_from_ne_true _ (λ has. shut (gate_is_open file has))

pub lacks_cut : (file : List ℕ) (n : ℕ) → n ≡ payload_length file → length file < 5 + n → has_record file ≡ false
lacks_cut file n is low = false_from_ne_true _ (λ has. let fits = record_is_whole file has in absurd (omega (arith, low, is, fits)))

pub length-payload : (file : List ℕ) → has_record file ≡ true → length (payload file) ≡ payload_length file
unfolding payload
length-payload file has = length-take-le (payload_length file) (drop 5 file) (omega (arith, record_is_whole file has, length-drop 5 file))

pub found : (file : List ℕ) (n m : ℕ) → get_or file 0 0 ≡ 1 → n ≡ payload_length file → m ≡ n → 5 + n ≤ length file → (has_record file ≡ true) × (take m (drop 5 file) ≡ payload file)
unfolding payload
found file n m gate is same fits = (is_record file gate (omega (arith, is, fits)), ap (λ k. take k (drop 5 file)) (same ∙ is))

pub found_behind : (file : List ℕ) (n m : ℕ) → n ≡ payload_length file → m ≡ n → 5 + n ≤ length file → (5 + length (take m (drop 5 file)) ≤ length file) × (drop (5 + length (take m (drop 5 file))) file ≡ behind_record file)
unfolding behind_record
found_behind file n m is same fits =
    let size : length (take m (drop 5 file)) ≡ m = length-take-le m (drop 5 file) (omega (arith, same, fits, length-drop 5 file)) in
    (omega (arith, size, same, fits), ap (λ k. drop (5 + k) file) (size ∙ same ∙ is))
