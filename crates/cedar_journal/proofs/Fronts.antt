-- Fronts of files that are whole records.
use Rattle.std.proofs.Common.{◌≡◌, ℕ, zero, suc, ◌+◌, ◌≤◌, ◌<◌, true, List, [], ◌∷◌, ◌++◌, length, take, drop, get_or, refl, sym, ◌∙◌, ap, arith, length-take-le, append_assoc}
use Rattle.std.proofs.lemmas.List.{get_or-take, drop_all, take_all}
use Rattle.cedar_journal.specs.Records.{payload_length, payload, behind_record, has_record, payloads_in, AreWholeRecords, length_bytes}
use Rattle.cedar_journal.proofs.Numbers.{told_length}
use Rattle.cedar_journal.proofs.Reading.{record_is_whole, gate_is_open, is_record, nothing_there, payloads_first, payloads_none, still_there, same_payload, behind_and_rest}

pub front_of_none : AreWholeRecords []
front_of_none rest = ap (λ (l : List (List ℕ)). l ++ payloads_in rest) (sym (payloads_none [] nothing_there))

pub front_and : (a b : List ℕ) → AreWholeRecords a → AreWholeRecords b → AreWholeRecords (a ++ b)
front_and a b first second rest =
    ap payloads_in (append_assoc a b rest) ∙ first (b ++ rest) ∙ ap (λ (l : List (List ℕ)). payloads_in a ++ l) (second rest)
    ∙ sym (append_assoc (payloads_in a) (payloads_in b) (payloads_in rest)) ∙ ap (λ (l : List (List ℕ)). l ++ payloads_in rest) (sym (first b))

module _ (r : List ℕ) (has : has_record r ≡ true) (alone : behind_record r ≡ []) where
  pub one_record : payloads_in r ≡ payload r ∷ []
  one_record = payloads_first r has ∙ ap (λ (l : List ℕ). payload r ∷ payloads_in l) alone ∙ ap (λ (l : List (List ℕ)). payload r ∷ l) (payloads_none [] nothing_there)

  pub record_is_front : AreWholeRecords r
  record_is_front rest =
      payloads_first (r ++ rest) (still_there r rest has)
      ∙ ap (λ (l : List (List ℕ)). l) (both_parts (same_payload r rest has) (behind_and_rest r rest has ∙ ap (λ (l : List ℕ). l ++ rest) alone))
      ∙ ap (λ (l : List (List ℕ)). l ++ payloads_in rest) (sym one_record)
    where
      both_parts : payload (r ++ rest) ≡ payload r → behind_record (r ++ rest) ≡ rest → payload (r ++ rest) ∷ payloads_in (behind_record (r ++ rest)) ≡ payload r ∷ payloads_in rest
      both_parts p b = λ i. p i ∷ payloads_in (b i)

-- ---- one record more of a file that is read

pub first_of : (n : ℕ) (file : List ℕ) → has_record file ≡ true → n ≡ 5 + payload_length file → (has_record (take n file) ≡ true) × (behind_record (take n file) ≡ [])
unfolding behind_record
first_of n file has is =
    let whole = record_is_whole file has in
    let size : length (take n file) ≡ n = length-take-le n file (omega (arith, whole, is)) in
    let byte : (i : ℕ) → i < 5 → get_or (take n file) i 0 ≡ get_or file i 0 = λ i low. get_or-take n file i 0 (omega (arith, is, low)) in
    let same : payload_length (take n file) ≡ payload_length file = omega (arith, byte 1 (omega arith), byte 2 (omega arith), byte 3 (omega arith), byte 4 (omega arith)) in (
      is_record (take n file) (byte 0 (omega arith) ∙ gate_is_open file has) (omega (arith, same, size, is)),
      drop_all (5 + payload_length (take n file)) (take n file) (omega (arith, same, size, is)),
    )

pub take_both : (m n : ℕ) (l : List ℕ) → m ≤ length l → take (m + n) l ≡ take m l ++ take n (drop m l)
take_both zero n l fits = let same : 0 + n ≡ n = omega arith in ap (λ (k : ℕ). take k l) same
take_both (suc m) n [] fits = absurd (omega (arith, fits))
take_both (suc m) n (x ∷ l) fits =
    let more : suc m + n ≡ suc (m + n) = omega arith in
    ap (λ (k : ℕ). take k (x ∷ l)) more ∙ ap (λ (k : List ℕ). x ∷ k) (take_both m n l (omega (arith, fits)))

-- a written record, its gate open
abbrev pub record_of : List ℕ → List ℕ
record_of bytes = 1 ∷ length_bytes (length bytes) ++ bytes

module _ (bytes : List ℕ) (short : length bytes < 4294967296) where
  told : payload_length (record_of bytes) ≡ length bytes
  told = told_length (length bytes) short

  written_is_record : has_record (record_of bytes) ≡ true
  written_is_record = is_record (record_of bytes) refl (omega (arith, told))

  written_alone : behind_record (record_of bytes) ≡ []
  unfolding behind_record
  written_alone = drop_all (5 + payload_length (record_of bytes)) (record_of bytes) (omega (arith, told))

  written_payload : payload (record_of bytes) ≡ bytes
  unfolding payload
  written_payload = ap (λ n. take n bytes) told ∙ take_all (length bytes) bytes (omega arith)

  pub written_is_front : AreWholeRecords (record_of bytes)
  written_is_front = record_is_front (record_of bytes) written_is_record written_alone

  pub written_stands : payloads_in (record_of bytes) ≡ bytes ∷ []
  written_stands = one_record (record_of bytes) written_is_record written_alone ∙ ap (λ (l : List ℕ). l ∷ []) written_payload
