-- What is read of records of either format.
use Rattle.std.specs.Prelude.{◌||◌, nat_le}
use Rattle.std.proofs.Common.{◌≡◌, ◌≢◌, ◌⊎◌, inl, inr, ℕ, zero, suc, ◌+◌, ◌≤◌, ◌<◌, true, false, List, [], ◌∷◌, ◌++◌, length, take, drop, get_or, refl, sym, subst, ◌∙◌, ap, arith, append_assoc, length-append, length-drop, length-take}
use Rattle.std.proofs.lemmas.Bool.{cases_Bool, cases_eq, cond-true, cond-false, le-leb, leb-true, false≢true, and_parts, eqb-true, eq-eqb, false_from_ne_true, and_from, or_cases, or_right}
use Rattle.std.proofs.lemmas.List.{append-nil, take-append-le, drop-append-le, drop_at, get_or_append_left, take_all}
use Rattle.crc32c.specs.Sums.{crc32c}
use Rattle.cedar_journal.specs.declared.format.Format.{Format}
use Rattle.cedar_journal.specs.declared.format.Format.TheVariants.{Plain, Summed}
use Rattle.cedar_journal.specs.Files.{EndsThere}
use Rattle.cedar_journal.specs.Formats.{ArePieces, AreWhole, Reading, read_behind, damaged, frame_of, record_head, is_ended, is_summed, payloads_read, four_at, opening, overhead, read_first, records_read, stands, sum_of}
use Rattle.cedar_journal.specs.Records.{has_record, length_bytes, payloads_in}
use Rattle.cedar_journal.proofs.Fronts.{record_of, written_is_front, written_stands}
use Rattle.cedar_journal.proofs.Numbers.{told_length, sum_below}
use Rattle.cedar_journal.proofs.Found.{lacks_short}
use Rattle.cedar_journal.proofs.Reading.{closed, cut_lacks, payloads_none}

-- ---- one reading behind another

pub behind_none : (r : Reading) → read_behind 0 [] r ≡ r
behind_none (stands payloads) = refl
behind_none (damaged at) = ap damaged (omega arith)

pub behind_behind : (m n : ℕ) (ps qs : List (List ℕ)) (r : Reading) → read_behind m ps (read_behind n qs r) ≡ read_behind (m + n) (ps ++ qs) r
behind_behind m n ps qs (stands payloads) = ap stands (sym (append_assoc ps qs payloads))
behind_behind m n ps qs (damaged at) = ap damaged (omega arith)

pub no_pieces : (f : Format) → ArePieces f [] []
no_pieces f rest = sym (behind_none (records_read f rest))

pub pieces_and : (f : Format) (a b : List ℕ) (ps qs : List (List ℕ)) → ArePieces f a ps → ArePieces f b qs → ArePieces f (a ++ b) (ps ++ qs)
pieces_and f a b ps qs first second rest =
    ap (records_read f) (append_assoc a b rest) ∙ first (b ++ rest) ∙ ap (read_behind (length a) ps) (second rest)
    ∙ behind_behind (length a) (length b) ps qs (records_read f rest)
    ∙ ap (λ n. read_behind n (ps ++ qs) (records_read f rest)) (sym (length-append a b))

-- ---- version 2: each turn

pub ended_gate : (file : List ℕ) → get_or file 0 0 ≡ 0 → is_ended file ≡ true
unfolding is_ended
ended_gate file shut = ap (λ b. b || nat_le (length file) 1) (eq-eqb (get_or file 0 0) 0 shut)

pub ended_few : (file : List ℕ) → length file ≤ 1 → is_ended file ≡ true
unfolding is_ended
ended_few file few = or_right _ _ (le-leb (length file) 1 few)

pub ended_parts : (file : List ℕ) → is_ended file ≡ true → (get_or file 0 0 ≡ 0) ⊎ (length file ≤ 1)
unfolding is_ended
ended_parts file is = elim (or_cases _ _ is) [ inl shut ↦ inl (eqb-true (get_or file 0 0) 0 shut) | inr few ↦ inr (leb-true (length file) 1 few) ]

pub not_ended : (file : List ℕ) → get_or file 0 0 ≢ 0 → 1 < length file → is_ended file ≡ false
not_ended file ajar long = false_from_ne_true _ (λ is. elim (ended_parts file is) [ inl shut ↦ ajar shut | inr few ↦ absurd (omega (arith, few, long)) ])

nothing_ended : is_ended [] ≡ true
nothing_ended = ended_gate [] refl

pub is_whole : (file : List ℕ) → is_summed file ≡ true → 9 + four_at file 5 ≤ length file
unfolding is_summed
is_whole file is = leb-true (9 + four_at file 5) (length file) (and_parts _ _ is).0

pub has_sum : (file : List ℕ) → is_summed file ≡ true → crc32c (take (4 + four_at file 5) (drop 5 file)) ≡ four_at file 1
unfolding is_summed
has_sum file is = eqb-true _ (four_at file 1) (and_parts _ _ is).1

pub summed : (file : List ℕ) → 9 + four_at file 5 ≤ length file → crc32c (take (4 + four_at file 5) (drop 5 file)) ≡ four_at file 1 → is_summed file ≡ true
unfolding is_summed
summed file fits sum = and_from _ _ (le-leb (9 + four_at file 5) (length file) fits) (eq-eqb _ (four_at file 1) sum)

turn_ends : (n : ℕ) (file : List ℕ) → is_ended file ≡ true → read_first n file ≡ stands []
unfolding read_first
turn_ends zero file ended = refl
turn_ends (suc n) file ended = cond-true (is_ended file) _ _ ended

turn_fails : (n : ℕ) (file : List ℕ) → is_ended file ≡ false → is_summed file ≡ false → read_first (suc n) file ≡ damaged 0
unfolding read_first
turn_fails n file going lacks = cond-false (is_ended file) _ _ going ∙ cond-false (is_summed file) _ _ lacks

-- the payload of the first record
abbrev payload_at : List ℕ → List ℕ
payload_at file = take (four_at file 5) (drop 9 file)

turn_taken : (n : ℕ) (file : List ℕ) → is_ended file ≡ false → is_summed file ≡ true
    → read_first (suc n) file ≡ read_behind (9 + four_at file 5) (payload_at file ∷ []) (read_first n (drop (9 + four_at file 5) file))
unfolding read_first
turn_taken n file going has = cond-false (is_ended file) _ _ going ∙ cond-true (is_summed file) _ _ has

same_readings : (n m : ℕ) (file : List ℕ) → length file ≤ n → length file ≤ m → read_first n file ≡ read_first m file
same_readings n m [] low high = turn_ends n [] nothing_ended ∙ sym (turn_ends m [] nothing_ended)
same_readings zero m (x ∷ file) low high = absurd (omega (arith, low))
same_readings (suc n) zero (x ∷ file) low high = absurd (omega (arith, high))
same_readings (suc n) (suc m) (x ∷ file) low high = elim (cases_Bool (is_ended (x ∷ file))) [
  | inl ended ↦ turn_ends (suc n) (x ∷ file) ended ∙ sym (turn_ends (suc m) (x ∷ file) ended)
  | inr going ↦ elim (cases_Bool (is_summed (x ∷ file))) [
    | inl has ↦
        let size = four_at (x ∷ file) 5 in
        let less = length-drop (9 + size) (x ∷ file) in
        turn_taken n (x ∷ file) going has
        ∙ ap (read_behind (9 + size) (payload_at (x ∷ file) ∷ [])) (same_readings n m (drop (9 + size) (x ∷ file)) (omega (arith, less, low)) (omega (arith, less, high)))
        ∙ sym (turn_taken m (x ∷ file) going has)
    | inr lacks ↦ turn_fails n (x ∷ file) going lacks ∙ sym (turn_fails m (x ∷ file) going lacks)
  ]
]

pub summed_ends : (file : List ℕ) → is_ended file ≡ true → records_read Summed file ≡ stands []
unfolding records_read
summed_ends file ended = turn_ends (length file) file ended

pub summed_fails : (file : List ℕ) → is_ended file ≡ false → is_summed file ≡ false → records_read Summed file ≡ damaged 0
unfolding records_read
summed_fails [] going lacks = absurd (false≢true (sym going ∙ nothing_ended))
summed_fails (x ∷ file) going lacks = turn_fails (length file) (x ∷ file) going lacks

pub summed_first : (file : List ℕ) → is_ended file ≡ false → is_summed file ≡ true
    → records_read Summed file ≡ read_behind (9 + four_at file 5) (payload_at file ∷ []) (records_read Summed (drop (9 + four_at file 5) file))
unfolding records_read
summed_first [] going has = absurd (false≢true (sym going ∙ nothing_ended))
summed_first (x ∷ file) going has =
    let size = four_at (x ∷ file) 5 in
    let less = length-drop (9 + size) (x ∷ file) in
    turn_taken (length file) (x ∷ file) going has
    ∙ ap (read_behind (9 + size) (payload_at (x ∷ file) ∷ []))
    (same_readings (length file) (length (drop (9 + size) (x ∷ file))) (drop (9 + size) (x ∷ file)) (omega (arith, less)) (omega arith))

-- ---- version 2: what follows a record changes nothing of it

module _ (front rest : List ℕ) (nine : 9 ≤ length front) where
  byte : (i : ℕ) → i < 9 → get_or (front ++ rest) i 0 ≡ get_or front i 0
  byte i low = get_or_append_left front rest 0 i (omega (arith, nine, low))

  pub same_number : (i : ℕ) → i < 6 → four_at (front ++ rest) i ≡ four_at front i
  same_number i low = omega (arith, byte i (omega (arith, low)), byte (i + 1) (omega (arith, low)), byte (i + 2) (omega (arith, low)), byte (i + 3) (omega (arith, low)))

  pub same_gate : get_or (front ++ rest) 0 0 ≡ get_or front 0 0
  same_gate = byte 0 (omega arith)

  pub same_text_of : (n : ℕ) → 9 + n ≤ length front → take (4 + n) (drop 5 (front ++ rest)) ≡ take (4 + n) (drop 5 front)
  same_text_of n fits =
      ap (λ (l : List ℕ). take (4 + n) l) (drop-append-le 5 front rest (omega (arith, nine)))
      ∙ take-append-le (4 + n) (drop 5 front) rest (omega (arith, fits, length-drop 5 front))

  pub same_payload_at : (n : ℕ) → 9 + n ≤ length front → take n (drop 9 (front ++ rest)) ≡ take n (drop 9 front)
  same_payload_at n fits =
      ap (λ (l : List ℕ). take n l) (drop-append-le 9 front rest nine)
      ∙ take-append-le n (drop 9 front) rest (omega (arith, fits, length-drop 9 front))

-- a record that has all its bytes
module _ (r : List ℕ) (ajar : get_or r 0 0 ≢ 0) (n : ℕ) (told : four_at r 5 ≡ n) (size : length r ≡ 9 + n) (sum : crc32c (take (4 + n) (drop 5 r)) ≡ four_at r 1) where
  pub summed_pieces : ArePieces Summed r (take n (drop 9 r) ∷ [])
  summed_pieces rest =
      let nine : 9 ≤ length r = omega (arith, size) in
      let all = r ++ rest in
      let long = length-append r rest in
      let told_all : four_at all 5 ≡ n = same_number r rest nine 5 (omega arith) ∙ told in
      let fits : 9 + n ≤ length r = omega (arith, size) in
      let sum_all : crc32c (take (4 + four_at all 5) (drop 5 all)) ≡ four_at all 1 =
      ap (λ k. crc32c (take (4 + k) (drop 5 all))) told_all ∙ ap crc32c (same_text_of r rest nine n fits) ∙ sum ∙ sym (same_number r rest nine 1 (omega arith)) in
      let going = not_ended all (λ shut. ajar (sym (same_gate r rest nine) ∙ shut)) (omega (arith, long, nine)) in
      let has = summed all (omega (arith, told_all, long, size)) sum_all in
      summed_first all going has
      ∙ ap (λ k. read_behind (9 + k) (take k (drop 9 all) ∷ []) (records_read Summed (drop (9 + k) all))) told_all
      ∙ ap (λ (l : List ℕ). read_behind (9 + n) (l ∷ []) (records_read Summed (drop (9 + n) all))) (same_payload_at r rest nine n fits)
      ∙ ap (λ (l : List ℕ). read_behind (9 + n) (take n (drop 9 r) ∷ []) (records_read Summed l)) (drop_at r rest (9 + n) size)
      ∙ ap (λ k. read_behind k (take n (drop 9 r) ∷ []) (records_read Summed rest)) (sym size)

-- ---- a record as it is written

module _ (gate : ℕ) (payload : List ℕ) (ajar : gate ≢ 0) (short : length payload < 4294967296) where
  abbrev whole : List ℕ
  whole = gate ∷ (record_head Summed payload ++ payload)

  written_summed : ArePieces Summed whole (payload ∷ [])
  written_summed =
      let n = length payload in
      let told : four_at whole 5 ≡ n = told_length n short in
      let text : take (4 + n) (length_bytes n ++ payload) ≡ length_bytes n ++ payload = take_all (4 + n) (length_bytes n ++ payload) (omega arith) in
      let sum : crc32c (take (4 + n) (drop 5 whole)) ≡ four_at whole 1 = ap crc32c text ∙ sym (told_length (sum_of payload) (sum_below (length_bytes n ++ payload))) in
      subst (λ (l : List ℕ). ArePieces Summed whole (l ∷ [])) (take_all n payload (omega arith))
      (summed_pieces whole ajar n told (omega arith) sum)

-- a gate by which a record counts
abbrev pub IsOpen : Format → ℕ → Type 0
IsOpen Plain gate = gate ≡ 1
IsOpen Summed gate = gate ≢ 0

pub opening_open : (f : Format) → IsOpen f (opening f)
opening_open Plain = refl
opening_open Summed = omega arith

pub record_size : (f : Format) (payload : List ℕ) → length (opening f ∷ (record_head f payload ++ payload)) ≡ overhead f + length payload
record_size Plain payload = omega arith
record_size Summed payload = omega arith

pub length-frame : (f : Format) (payload : List ℕ) → length (frame_of f payload) ≡ overhead f + length payload
length-frame Plain payload = omega (arith, length-append payload (0 ∷ []))
length-frame Summed payload = omega (arith, length-append payload (0 ∷ []))

-- whatever is behind it doesn't count
abbrev pub IsShut : Format → ℕ → Type 0
IsShut format gate = (rest : List ℕ) → records_read format (gate ∷ rest) ≡ stands []

pub is_open_or_shut : (f : Format) (gate : ℕ) → IsOpen f gate ⊎ IsShut f gate
unfolding records_read
is_open_or_shut Plain gate = elim (cases_eq gate 1) [ inl is ↦ inl is | inr shut ↦ inr (λ rest. ap stands (payloads_none (gate ∷ rest) (closed gate rest shut))) ]
is_open_or_shut Summed gate = elim (cases_eq gate 0) [ inl shut ↦ inr (λ rest. summed_ends (gate ∷ rest) (ended_gate (gate ∷ rest) shut)) | inr ajar ↦ inl ajar ]

pub shut : (f : Format) → IsShut f 0
unfolding records_read
shut Plain rest = ap stands (payloads_none (0 ∷ rest) (closed 0 rest (omega arith)))
shut Summed rest = summed_ends (0 ∷ rest) (ended_gate (0 ∷ rest) refl)

pub plain_pieces : (front : List ℕ) → ((rest : List ℕ) → payloads_in (front ++ rest) ≡ payloads_in front ++ payloads_in rest) → ArePieces Plain front (payloads_in front)
unfolding records_read
plain_pieces front whole rest = ap stands (whole rest)

pub written : (f : Format) (gate : ℕ) (payload : List ℕ) → IsOpen f gate → length payload < 4294967296 → ArePieces f (gate ∷ (record_head f payload ++ payload)) (payload ∷ [])
written Plain gate payload is short =
    subst (λ g. ArePieces Plain (g ∷ (record_head Plain payload ++ payload)) (payload ∷ [])) (sym is)
    (subst (ArePieces Plain (record_of payload)) (written_stands payload short) (plain_pieces (record_of payload) (written_is_front payload short)))
written Summed gate payload ajar short = written_summed gate payload ajar short

-- ---- where nothing more counts

pub few_end : (f : Format) (rest : List ℕ) → length rest ≤ 1 → records_read f rest ≡ stands []
unfolding records_read
few_end Plain rest few = ap stands (payloads_none rest (lacks_short rest (omega (arith, few))))
few_end Summed rest few = summed_ends rest (ended_few rest few)

pub nothing_read : (f : Format) → records_read f [] ≡ stands []
nothing_read f = few_end f [] (omega arith)

pub plain_end : (rest : List ℕ) → has_record rest ≡ false → EndsThere Plain rest
unfolding records_read
plain_end rest lacks n = ap stands (payloads_none (take n rest) (cut_lacks n rest lacks))

cut_ended : (n : ℕ) (rest : List ℕ) → is_ended rest ≡ true → is_ended (take n rest) ≡ true
cut_ended zero rest ended = nothing_ended
cut_ended (suc n) [] ended = nothing_ended
cut_ended (suc n) (x ∷ rest) ended = elim (ended_parts (x ∷ rest) ended) [
  | inl shut ↦ ended_gate (x ∷ take n rest) shut
  | inr few ↦ let less = length-take n rest in ended_few (x ∷ take n rest) (omega (arith, few, less))
]

pub summed_end : (rest : List ℕ) → is_ended rest ≡ true → EndsThere Summed rest
summed_end rest ended n = summed_ends (take n rest) (cut_ended n rest ended)

pub closed_end : (f : Format) (rest : List ℕ) → EndsThere f rest → records_read f rest ≡ stands []
closed_end f rest end = ap (records_read f) (sym (take_all (length rest) rest (omega arith))) ∙ end (length rest)

-- the payloads of whole records are those that are read of them
pub pieces_listed : (f : Format) (front : List ℕ) (ps : List (List ℕ)) → ArePieces f front ps → payloads_read (records_read f front) ≡ ps
pieces_listed f front ps pieces =
    ap (λ (l : List ℕ). payloads_read (records_read f l)) (sym (append-nil front)) ∙ ap payloads_read (pieces [] ∙ ap (read_behind (length front) ps) (nothing_read f)) ∙ append-nil ps

pub pieces_whole : (f : Format) (front : List ℕ) (ps : List (List ℕ)) → ArePieces f front ps → AreWhole f front
pieces_whole f front ps pieces = subst (ArePieces f front) (sym (pieces_listed f front ps pieces)) pieces

-- ---- a staged record

pub framed_apart : (f : Format) (payload tail : List ℕ) (gate : ℕ) → gate ∷ (frame_of f payload ++ tail) ≡ (gate ∷ (record_head f payload ++ payload)) ++ (0 ∷ tail)
framed_apart f payload tail gate =
    let head = record_head f payload in
    ap (λ (l : List ℕ). gate ∷ l)
    (append_assoc head (payload ++ 0 ∷ []) tail ∙ ap (λ (l : List ℕ). head ++ l) (append_assoc payload (0 ∷ []) tail) ∙ sym (append_assoc head payload (0 ∷ tail)))

pub staged_open : (f : Format) (payload tail : List ℕ) (gate : ℕ) → IsOpen f gate → length payload < 4294967296 → records_read f (gate ∷ (frame_of f payload ++ tail)) ≡ stands (payload ∷ [])
staged_open f payload tail gate is short =
    ap (records_read f) (framed_apart f payload tail gate) ∙ written f gate payload is short (0 ∷ tail)
    ∙ ap (read_behind (length (gate ∷ (record_head f payload ++ payload))) (payload ∷ [])) (shut f tail)

pub staged_reads : (f : Format) (payload tail : List ℕ) (gate : ℕ) → length payload < 4294967296
    → (records_read f (gate ∷ (frame_of f payload ++ tail)) ≡ stands []) ⊎ (records_read f (gate ∷ (frame_of f payload ++ tail)) ≡ stands (payload ∷ []))
staged_reads f payload tail gate short = elim (is_open_or_shut f gate) [
  | inl is ↦ inr (staged_open f payload tail gate is short)
  | inr shut ↦ inl (shut (frame_of f payload ++ tail))
]
