-- How the records of a file are read one after another.
use Rattle.std.proofs.Common.{◌≡◌, ◌≢◌, inl, inr, ℕ, zero, suc, ◌+◌, ◌-◌, ◌≤◌, ◌<◌, true, false, List, [], ◌∷◌, ◌++◌, length, take, drop, get_or, refl, sym, ◌∙◌, ap, arith, length-drop, length-append, take-append-drop}
use Rattle.std.proofs.lemmas.Bool.{cases_Bool, cond-true, cond-false, le-leb, leb-true, false≢true, and_parts, eqb-true, eq-eqb, false_from_ne_true, and_from}
use Rattle.std.proofs.lemmas.List.{take-append-le, drop-append-le, get_or_append_left}
use Rattle.cedar_journal.specs.Records.{payload_length, payload, behind_record, has_record, first_payloads, payloads_in}

pub record_is_whole : (file : List ℕ) → has_record file ≡ true → 5 + payload_length file ≤ length file
unfolding has_record
record_is_whole file has = leb-true (5 + payload_length file) (length file) (and_parts _ _ has).1

pub gate_is_open : (file : List ℕ) → has_record file ≡ true → get_or file 0 0 ≡ 1
unfolding has_record
gate_is_open file has = eqb-true (get_or file 0 0) 1 (and_parts _ _ has).0

pub is_record : (file : List ℕ) → get_or file 0 0 ≡ 1 → 5 + payload_length file ≤ length file → has_record file ≡ true
unfolding has_record
is_record file gate fits = and_from _ _ (eq-eqb (get_or file 0 0) 1 gate) (le-leb (5 + payload_length file) (length file) fits)

pub closed : (gate : ℕ) (rest : List ℕ) → gate ≢ 1 → has_record (gate ∷ rest) ≡ false
closed gate rest shut = false_from_ne_true _ (λ has. shut (gate_is_open (gate ∷ rest) has))

pub nothing_there : has_record [] ≡ false
nothing_there = false_from_ne_true _ (λ has. let long = record_is_whole [] has in absurd (omega (arith, long)))

pub length-behind : (file : List ℕ) → length (behind_record file) ≡ length file - (5 + payload_length file)
unfolding behind_record
length-behind file = length-drop (5 + payload_length file) file

-- ---- reads take no more turns than there are bytes

turn_taken : (n : ℕ) (file : List ℕ) → has_record file ≡ true → first_payloads (suc n) file ≡ payload file ∷ first_payloads n (behind_record file)
unfolding first_payloads
turn_taken n file has = cond-true (has_record file) _ _ has

turn_ends : (n : ℕ) (file : List ℕ) → has_record file ≡ false → first_payloads n file ≡ []
unfolding first_payloads
turn_ends zero file lacks = refl
turn_ends (suc n) file lacks = cond-false (has_record file) _ _ lacks

same_payloads : (n m : ℕ) (file : List ℕ) → length file ≤ n → length file ≤ m → first_payloads n file ≡ first_payloads m file
same_payloads n m [] low high = turn_ends n [] nothing_there ∙ sym (turn_ends m [] nothing_there)
same_payloads zero m (x ∷ file) low high = absurd (omega (arith, low))
same_payloads (suc n) zero (x ∷ file) low high = absurd (omega (arith, high))
same_payloads (suc n) (suc m) (x ∷ file) low high = elim (cases_Bool (has_record (x ∷ file))) [
  | inl has ↦
      let size = length-behind (x ∷ file) in
      turn_taken n (x ∷ file) has
      ∙ ap (λ (l : List (List ℕ)). payload (x ∷ file) ∷ l) (same_payloads n m (behind_record (x ∷ file)) (omega (arith, size, low)) (omega (arith, size, high)))
      ∙ sym (turn_taken m (x ∷ file) has)
  | inr lacks ↦ turn_ends (suc n) (x ∷ file) lacks ∙ sym (turn_ends (suc m) (x ∷ file) lacks)
]

pub payloads_first : (file : List ℕ) → has_record file ≡ true → payloads_in file ≡ payload file ∷ payloads_in (behind_record file)
unfolding payloads_in
payloads_first [] has = absurd (false≢true (sym nothing_there ∙ has))
payloads_first (x ∷ file) has =
    let size = length-behind (x ∷ file) in
    turn_taken (length file) (x ∷ file) has
    ∙ ap (λ (l : List (List ℕ)). payload (x ∷ file) ∷ l) (same_payloads (length file) (length (behind_record (x ∷ file))) (behind_record (x ∷ file)) (omega (arith, size)) (omega arith))

pub payloads_none : (file : List ℕ) → has_record file ≡ false → payloads_in file ≡ []
unfolding payloads_in
payloads_none file lacks = turn_ends (length file) file lacks

-- ---- what follows a record changes nothing of it

module _ (front rest : List ℕ) (has : has_record front ≡ true) where
  whole : 5 + payload_length front ≤ length front
  whole = record_is_whole front has

  byte : (i : ℕ) → i < 5 → get_or (front ++ rest) i 0 ≡ get_or front i 0
  byte i low = get_or_append_left front rest 0 i (omega (arith, whole, low))

  same_length : payload_length (front ++ rest) ≡ payload_length front
  same_length = omega (arith, byte 1 (omega arith), byte 2 (omega arith), byte 3 (omega arith), byte 4 (omega arith))

  pub still_there : has_record (front ++ rest) ≡ true
  still_there = is_record (front ++ rest) (byte 0 (omega arith) ∙ gate_is_open front has) (omega (arith, same_length, whole, length-append front rest))

  pub same_payload : payload (front ++ rest) ≡ payload front
  unfolding payload
  same_payload =
      ap (λ n. take n (drop 5 (front ++ rest))) same_length
      ∙ ap (λ (l : List ℕ). take (payload_length front) l) (drop-append-le 5 front rest (omega (arith, whole)))
      ∙ take-append-le (payload_length front) (drop 5 front) rest (omega (arith, whole, length-drop 5 front))

  pub behind_and_rest : behind_record (front ++ rest) ≡ behind_record front ++ rest
  unfolding behind_record
  behind_and_rest = ap (λ n. drop (5 + n) (front ++ rest)) same_length ∙ drop-append-le (5 + payload_length front) front rest whole

-- nor does a cut make a record
pub cut_lacks : (n : ℕ) (file : List ℕ) → has_record file ≡ false → has_record (take n file) ≡ false
cut_lacks n file lacks =
    false_from_ne_true _ (λ has. false≢true (sym lacks ∙ ap has_record (sym (take-append-drop n file)) ∙ still_there (take n file) (drop n file) has))
