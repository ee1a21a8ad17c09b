-- The bytes of a character are read as that character.
use Rattle.std.proofs.Common.{◌≡◌, ℕ, ◌+◌, ◌-◌, ◌*◌, ◌/◌, ◌%◌, ◌<◌, ◌≤◌, ◌⊎◌, true, false}
use Rattle.std.proofs.Common.{ltb, List, [], ◌∷◌, ◌++◌, Some, refl, sym, subst, ◌∙◌, ap, arith}
use Rattle.std.proofs.Common.{append_assoc, append-nil, inl, inr, lt-ltb, le-ltb, ltb-false}
use Rattle.std.proofs.Common.{ltb-true}
use Rattle.std.specs.Prelude.{fold}
use Rattle.std.proofs.Math.Utf8.{encode, encodes, scalar, scalars, scalar_cases}
use Rattle.std.proofs.lemmas.Bool.{and_parts, cases_Bool}
use Rattle.std.proofs.lemmas.List.Sums.{fold-append}
use Rattle.byte_automata.specs.Characters.{characters_after, characters_of, CharactersRead}
use Rattle.byte_automata.specs.Characters.{first_byte, part_before_last, part_before_two}
use Rattle.byte_automata.specs.Characters.{read_byte, read_on, whole_characters}
use Rattle.byte_automata.specs.declared.characters.ReadByte.{ReadByte}
use Rattle.byte_automata.specs.declared.characters.ReadByte.TheVariants.{Part, Whole}

-- ---- the first byte of a character

lead_one : (c : ℕ) → c < 128 → first_byte c ≡ Whole c
lead_one c low = let a : ltb c 128 ≡ true = lt-ltb c 128 low in rw a refl

lead_two : (x : ℕ) → 2 ≤ x → x < 32 → first_byte (192 + x) ≡ Part 1 x
lead_two x least low =
    let a : ltb (192 + x) 128 ≡ false = le-ltb (192 + x) 128 (omega arith) in
    let b : ltb (192 + x) 194 ≡ false = le-ltb (192 + x) 194 (omega (arith, least)) in
    let c : ltb (192 + x) 224 ≡ true = lt-ltb (192 + x) 224 (omega (arith, low)) in
    let d : 192 + x - 192 ≡ x = omega arith in
    rw (a, b, c) (ap (Part 1) d)

lead_three : (x : ℕ) → x < 16 → first_byte (224 + x) ≡ Part 2 x
lead_three x low =
    let a : ltb (224 + x) 128 ≡ false = le-ltb (224 + x) 128 (omega arith) in
    let b : ltb (224 + x) 194 ≡ false = le-ltb (224 + x) 194 (omega arith) in
    let c : ltb (224 + x) 224 ≡ false = le-ltb (224 + x) 224 (omega arith) in
    let e : ltb (224 + x) 240 ≡ true = lt-ltb (224 + x) 240 (omega (arith, low)) in
    let d : 224 + x - 224 ≡ x = omega arith in
    rw (a, b, c, e) (ap (Part 2) d)

lead_four : (x : ℕ) → x < 5 → first_byte (240 + x) ≡ Part 3 x
lead_four x low =
    let a : ltb (240 + x) 128 ≡ false = le-ltb (240 + x) 128 (omega arith) in
    let b : ltb (240 + x) 194 ≡ false = le-ltb (240 + x) 194 (omega arith) in
    let c : ltb (240 + x) 224 ≡ false = le-ltb (240 + x) 224 (omega arith) in
    let e : ltb (240 + x) 240 ≡ false = le-ltb (240 + x) 240 (omega arith) in
    let f : ltb (240 + x) 245 ≡ true = lt-ltb (240 + x) 245 (omega (arith, low)) in
    let d : 240 + x - 240 ≡ x = omega arith in
    rw (a, b, c, e, f) (ap (Part 3) d)

-- ---- the bytes that follow

last_byte : (v y : ℕ) → y < 64 → read_byte 1 v (128 + y) ≡ Whole (v * 64 + y)
unfolding read_byte
last_byte v y low =
    let a : ltb (128 + y) 128 ≡ false = le-ltb (128 + y) 128 (omega arith) in
    let b : ltb (128 + y) 192 ≡ true = lt-ltb (128 + y) 192 (omega (arith, low)) in
    let d : 128 + y - 128 ≡ y = omega arith in
    rw (a, b) (ap (λ m. Whole (v * 64 + m)) d)

-- the bytes of a character up to its last one, as a number: those of three bytes, without surrogates, and those of four
pub data IsBeforeLast (m : ℕ) : Type 0 where
  is_low : 32 ≤ m → m < 864 → IsBeforeLast m
  is_high : 896 ≤ m → m < 65536 → IsBeforeLast m

before_last : (m : ℕ) → IsBeforeLast m → part_before_last m ≡ Part 1 m
before_last m (is_low least most) =
    let a : ltb m 32 ≡ false = le-ltb m 32 least in
    let b : ltb m 864 ≡ true = lt-ltb m 864 most in
    rw (a, b) refl
before_last m (is_high least most) =
    let a : ltb m 32 ≡ false = le-ltb m 32 (omega (arith, least)) in
    let b : ltb m 864 ≡ false = le-ltb m 864 (omega (arith, least)) in
    let d : ltb m 896 ≡ false = le-ltb m 896 least in
    let e : ltb m 65536 ≡ true = lt-ltb m 65536 most in
    rw (a, b, d, e) refl

before_two : (m : ℕ) → 16 ≤ m → m < 272 → part_before_two m ≡ Part 2 m
before_two m least most =
    let a : ltb m 16 ≡ false = le-ltb m 16 least in
    let b : ltb m 272 ≡ true = lt-ltb m 272 most in
    rw (a, b) refl

byte_before : (v y : ℕ) → y < 64 → IsBeforeLast (v * 64 + y) → read_byte 2 v (128 + y) ≡ Part 1 (v * 64 + y)
unfolding read_byte
byte_before v y low is =
    let a : ltb (128 + y) 128 ≡ false = le-ltb (128 + y) 128 (omega arith) in
    let b : ltb (128 + y) 192 ≡ true = lt-ltb (128 + y) 192 (omega (arith, low)) in
    let d : 128 + y - 128 ≡ y = omega arith in
    rw (a, b, d) (before_last (v * 64 + y) is)

two_before : (v y : ℕ) → y < 64 → 16 ≤ v * 64 + y → v * 64 + y < 272 → read_byte 3 v (128 + y) ≡ Part 2 (v * 64 + y)
unfolding read_byte
two_before v y low least most =
    let a : ltb (128 + y) 128 ≡ false = le-ltb (128 + y) 128 (omega arith) in
    let b : ltb (128 + y) 192 ≡ true = lt-ltb (128 + y) 192 (omega (arith, low)) in
    let d : 128 + y - 128 ≡ y = omega arith in
    rw (a, b, d) (before_two (v * 64 + y) least most)

-- ---- a character

abbrev ready : List ℕ → CharactersRead
ready done = record { done = done; left = 0; value = 0; lost = false }

abbrev partly : List ℕ → ℕ → ℕ → CharactersRead
partly done left value = record { done = done; left = left; value = value; lost = false }

starts : (done : List ℕ) (b : ℕ) (r : ReadByte) → first_byte b ≡ r → characters_after (ready done) b ≡ read_on (ready done) r
unfolding characters_after read_byte
starts done b r is = ap (read_on (ready done)) is

goes : (done : List ℕ) (left value b : ℕ) (r : ReadByte) → read_byte left value b ≡ r → characters_after (partly done left value) b ≡ read_on (partly done left value) r
unfolding characters_after
goes done left value b r is = ap (read_on (partly done left value)) is

one_byte : (done : List ℕ) (c : ℕ) → c < 128 → fold characters_after (ready done) (c ∷ []) ≡ ready (done ++ c ∷ [])
one_byte done c low = starts done c (Whole c) (lead_one c low)

two_bytes : (done : List ℕ) (c : ℕ) → 128 ≤ c → c < 2048 → fold characters_after (ready done) ((192 + c / 64) ∷ (128 + c % 64) ∷ []) ≡ ready (done ++ c ∷ [])
two_bytes done c least low =
    let whole : c / 64 * 64 + c % 64 ≡ c = omega arith in
    ap (λ s. characters_after s (128 + c % 64)) (starts done (192 + c / 64) (Part 1 (c / 64)) (lead_two (c / 64) (omega (arith, least)) (omega (arith, low))))
    ∙ goes done 1 (c / 64) (128 + c % 64) (Whole (c / 64 * 64 + c % 64)) (last_byte (c / 64) (c % 64) (omega arith))
    ∙ ap (λ n. ready (done ++ n ∷ [])) whole

three_bytes : (done : List ℕ) (c : ℕ) → c < 65536 → IsBeforeLast (c / 64)
    → fold characters_after (ready done) ((224 + c / 4096) ∷ (128 + c / 64 % 64) ∷ (128 + c % 64) ∷ []) ≡ ready (done ++ c ∷ [])
three_bytes done c low is =
    let top : c / 4096 * 64 + c / 64 % 64 ≡ c / 64 = omega arith in
    let whole : c / 64 * 64 + c % 64 ≡ c = omega arith in
    ap (λ s. characters_after (characters_after s (128 + c / 64 % 64)) (128 + c % 64)) (starts done (224 + c / 4096) (Part 2 (c / 4096)) (lead_three (c / 4096) (omega (arith, low))))
    ∙ ap (λ s. characters_after s (128 + c % 64))
    (goes done 2 (c / 4096) (128 + c / 64 % 64) (Part 1 (c / 4096 * 64 + c / 64 % 64)) (byte_before (c / 4096) (c / 64 % 64) (omega arith) (subst IsBeforeLast (sym top) is))
    ∙ ap (λ n. partly done 1 n) top)
    ∙ goes done 1 (c / 64) (128 + c % 64) (Whole (c / 64 * 64 + c % 64)) (last_byte (c / 64) (c % 64) (omega arith))
    ∙ ap (λ n. ready (done ++ n ∷ [])) whole

four_bytes : (done : List ℕ) (c : ℕ) → 65536 ≤ c → c < 1114112
    → fold characters_after (ready done) ((240 + c / 262144) ∷ (128 + c / 4096 % 64) ∷ (128 + c / 64 % 64) ∷ (128 + c % 64) ∷ []) ≡ ready (done ++ c ∷ [])
four_bytes done c least low =
    let first : c / 262144 * 64 + c / 4096 % 64 ≡ c / 4096 = omega arith in
    let top : c / 4096 * 64 + c / 64 % 64 ≡ c / 64 = omega arith in
    let whole : c / 64 * 64 + c % 64 ≡ c = omega arith in
    ap (λ s. characters_after (characters_after (characters_after s (128 + c / 4096 % 64)) (128 + c / 64 % 64)) (128 + c % 64))
    (starts done (240 + c / 262144) (Part 3 (c / 262144)) (lead_four (c / 262144) (omega (arith, low))))
    ∙ ap (λ s. characters_after (characters_after s (128 + c / 64 % 64)) (128 + c % 64))
    (goes done 3 (c / 262144) (128 + c / 4096 % 64) (Part 2 (c / 262144 * 64 + c / 4096 % 64)) (two_before (c / 262144) (c / 4096 % 64) (omega arith) (omega (arith, least, first)) (omega (arith, low, first)))
    ∙ ap (λ n. partly done 2 n) first)
    ∙ ap (λ s. characters_after s (128 + c % 64))
    (goes done 2 (c / 4096) (128 + c / 64 % 64) (Part 1 (c / 4096 * 64 + c / 64 % 64)) (byte_before (c / 4096) (c / 64 % 64) (omega arith) (is_high (omega (arith, least, top)) (omega (arith, low, top))))
    ∙ ap (λ n. partly done 1 n) top)
    ∙ goes done 1 (c / 64) (128 + c % 64) (Whole (c / 64 * 64 + c % 64)) (last_byte (c / 64) (c % 64) (omega arith))
    ∙ ap (λ n. ready (done ++ n ∷ [])) whole

-- the bytes of a character of three bytes up to its last one
of_three : (c : ℕ) → 2048 ≤ c → c < 65536 → (c < 55296) ⊎ ((57344 ≤ c) × (c < 1114112)) → IsBeforeLast (c / 64)
of_three c least most (inl below) = is_low (omega (arith, least)) (omega (arith, below))
of_three c least most (inr above) = let from = above.0 in is_high (omega (arith, from)) (omega (arith, most))

one_character : (done : List ℕ) (c : ℕ) → scalar c ≡ true → fold characters_after (ready done) (encode c) ≡ ready (done ++ c ∷ [])
unfolding encode
one_character done c is =
    elim (cases_Bool (ltb c 128)) [
      | inl one ↦ rw one (one_byte done c (ltb-true c 128 one))
      | inr more ↦ elim (cases_Bool (ltb c 2048)) [
        | inl two ↦ rw (more, two) (two_bytes done c (ltb-false c 128 more) (ltb-true c 2048 two))
        | inr most ↦ elim (cases_Bool (ltb c 65536)) [
          | inl three ↦
              let low = ltb-true c 65536 three in
              rw (more, most, three) (three_bytes done c low (of_three c (ltb-false c 2048 most) low (scalar_cases c is)))
          | inr four ↦
              let low : c < 1114112 = elim (scalar_cases c is) [ inl below ↦ omega (arith, below) | inr above ↦ above.1 ] in
              rw (more, most, four) (four_bytes done c (ltb-false c 65536 four) low)
        ]
      ]
    ]

-- ---- some characters

all_characters : (done text : List ℕ) → scalars text ≡ true → fold characters_after (ready done) (encodes text) ≡ ready (done ++ text)
all_characters done [] is = ap ready (sym (append-nil done))
all_characters done (c ∷ text) is =
    let parts = and_parts (scalar c) (scalars text) is in
    fold-append characters_after (ready done) (encode c) (encodes text)
    ∙ ap (λ s. fold characters_after s (encodes text)) (one_character done c parts.0)
    ∙ all_characters (done ++ c ∷ []) text parts.1
    ∙ ap ready (append_assoc done (c ∷ []) text)

pub reads_characters : (text : List ℕ) → scalars text ≡ true → characters_of (encodes text) ≡ Some text
unfolding characters_of
reads_characters text is = ap whole_characters (all_characters [] text is)
