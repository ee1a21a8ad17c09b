-- What is read of bytes as characters is a text whose bytes these are.
use Rattle.std.proofs.Common.{◌≡◌, ℕ, ◌+◌, ◌-◌, ◌*◌, ◌/◌, ◌%◌, ◌<◌, ◌≤◌, ◌⊎◌, Bool, true}
use Rattle.std.proofs.Common.{false, cond, eqb, leb, ltb, List, [], ◌∷◌, ◌++◌, Some}
use Rattle.std.proofs.Common.{None, refl, sym, subst, ◌∙◌, ap, ap₂, arith, append_assoc}
use Rattle.std.proofs.Common.{append-nil, inl, inr, le-leb, le-ltb, lt-ltb, ltb-false, ltb-true}
use Rattle.std.proofs.Common.{eqb-true, true≢false}
use Rattle.std.specs.Prelude.{fold}
use Rattle.std.proofs.Math.Utf8.{encode, encodes, low_scalar, scalar, scalars}
use Rattle.std.proofs.lemmas.Bool.{and_from, and_parts, cases_Bool}
use Rattle.std.proofs.lemmas.Option.{none-some, same_Some}
use Rattle.std.proofs.lemmas.Str.{encodes-append}
use Rattle.byte_automata.specs.Characters.{characters_after, characters_of, CharactersRead}
use Rattle.byte_automata.specs.Characters.{first_byte, none_read, part_before_last}
use Rattle.byte_automata.specs.Characters.{part_before_two, read_byte, read_on, whole_characters}
use Rattle.byte_automata.specs.declared.characters.ReadByte.{ReadByte}
use Rattle.byte_automata.specs.declared.characters.ReadByte.TheVariants.{Lost, Part, Whole}
use Rattle.byte_automata.proofs.EncodingLemmas.{IsBeforeLast, is_high, is_low}

-- ---- bytes that more bytes make a character

-- bytes that want one more: with any that may follow they are the character of this number
abbrev Ends1 : ℕ → List ℕ → Type 0
Ends1 v p = (y : ℕ) → y < 64 → (scalar (v * 64 + y) ≡ true) × (encode (v * 64 + y) ≡ p ++ (128 + y) ∷ [])

-- bytes that want two more
abbrev Ends2 : ℕ → List ℕ → Type 0
Ends2 v p = (y : ℕ) → y < 64 → IsBeforeLast (v * 64 + y) → Ends1 (v * 64 + y) (p ++ (128 + y) ∷ [])

-- bytes that want three more
abbrev Ends3 : ℕ → List ℕ → Type 0
Ends3 v p = (y : ℕ) → y < 64 → 16 ≤ v * 64 + y → v * 64 + y < 272 → Ends2 (v * 64 + y) (p ++ (128 + y) ∷ [])

high_scalar : (c : ℕ) → 57344 ≤ c → c < 1114112 → scalar c ≡ true
high_scalar c least most =
    let a : ltb c 55296 ≡ false = le-ltb c 55296 (omega (arith, least)) in
    let b : leb 57344 c ≡ true = le-leb 57344 c least in
    let d : ltb c 1114112 ≡ true = lt-ltb c 1114112 most in
    rw (a, b, d) refl

of_two : (x : ℕ) → 2 ≤ x → x < 32 → Ends1 x ((192 + x) ∷ [])
unfolding encode
of_two x least most y low =
    let a : ltb (x * 64 + y) 128 ≡ false = le-ltb (x * 64 + y) 128 (omega (arith, least)) in
    let b : ltb (x * 64 + y) 2048 ≡ true = lt-ltb (x * 64 + y) 2048 (omega (arith, most, low)) in
    let first : (x * 64 + y) / 64 ≡ x = omega (arith, low) in
    let last : (x * 64 + y) % 64 ≡ y = omega (arith, low) in
    (low_scalar (x * 64 + y) (omega (arith, most, low)), rw (a, b) (ap₂ (λ (m n : ℕ). (192 + m) ∷ (128 + n) ∷ []) first last))

scalar_of_three : (m z : ℕ) → IsBeforeLast m → m < 1024 → z < 64 → scalar (m * 64 + z) ≡ true
scalar_of_three m z (is_low least most) small low = low_scalar (m * 64 + z) (omega (arith, most, low))
scalar_of_three m z (is_high least most) small low = high_scalar (m * 64 + z) (omega (arith, least)) (omega (arith, small, low))

least_of_three : (m : ℕ) → IsBeforeLast m → 32 ≤ m
least_of_three m (is_low least most) = least
least_of_three m (is_high least most) = omega (arith, least)

of_three : (x : ℕ) → x < 16 → Ends2 x ((224 + x) ∷ [])
unfolding encode
of_three x most y low is z less =
    let least : 32 ≤ x * 64 + y = least_of_three (x * 64 + y) is in
    let a : ltb ((x * 64 + y) * 64 + z) 128 ≡ false = le-ltb ((x * 64 + y) * 64 + z) 128 (omega (arith, least)) in
    let b : ltb ((x * 64 + y) * 64 + z) 2048 ≡ false = le-ltb ((x * 64 + y) * 64 + z) 2048 (omega (arith, least)) in
    let d : ltb ((x * 64 + y) * 64 + z) 65536 ≡ true = lt-ltb ((x * 64 + y) * 64 + z) 65536 (omega (arith, most, low, less)) in
    let first : ((x * 64 + y) * 64 + z) / 4096 ≡ x = omega (arith, low, less) in
    let second : ((x * 64 + y) * 64 + z) / 64 % 64 ≡ y = omega (arith, low, less) in
    let last : ((x * 64 + y) * 64 + z) % 64 ≡ z = omega (arith, less) in (
      scalar_of_three (x * 64 + y) z is (omega (arith, most, low)) less,
      rw (a, b, d) (ap₂ (λ (m n : ℕ). (224 + m) ∷ (128 + n) ∷ (128 + ((x * 64 + y) * 64 + z) % 64) ∷ []) first second
          ∙ ap (λ n. (224 + x) ∷ (128 + y) ∷ (128 + n) ∷ []) last),
    )

of_four : (x : ℕ) → Ends3 x ((240 + x) ∷ [])
unfolding encode
of_four x y low least most z less is w small =
    let a : ltb (((x * 64 + y) * 64 + z) * 64 + w) 128 ≡ false = le-ltb (((x * 64 + y) * 64 + z) * 64 + w) 128 (omega (arith, least)) in
    let b : ltb (((x * 64 + y) * 64 + z) * 64 + w) 2048 ≡ false = le-ltb (((x * 64 + y) * 64 + z) * 64 + w) 2048 (omega (arith, least)) in
    let d : ltb (((x * 64 + y) * 64 + z) * 64 + w) 65536 ≡ false = le-ltb (((x * 64 + y) * 64 + z) * 64 + w) 65536 (omega (arith, least)) in
    let first : (((x * 64 + y) * 64 + z) * 64 + w) / 262144 ≡ x = omega (arith, low, less, small) in
    let second : (((x * 64 + y) * 64 + z) * 64 + w) / 4096 % 64 ≡ y = omega (arith, low, less, small) in
    let third : (((x * 64 + y) * 64 + z) * 64 + w) / 64 % 64 ≡ z = omega (arith, less, small) in
    let last : (((x * 64 + y) * 64 + z) * 64 + w) % 64 ≡ w = omega (arith, small) in (
      high_scalar (((x * 64 + y) * 64 + z) * 64 + w) (omega (arith, least)) (omega (arith, most, less, small)),
      rw (a, b, d)
          (ap₂ (λ (m n : ℕ). (240 + m) ∷ (128 + n) ∷ (128 + (((x * 64 + y) * 64 + z) * 64 + w) / 64 % 64) ∷ (128 + (((x * 64 + y) * 64 + z) * 64 + w) % 64) ∷ []) first second
          ∙ ap₂ (λ (m n : ℕ). (240 + x) ∷ (128 + y) ∷ (128 + m) ∷ (128 + n) ∷ []) third last),
    )

-- ---- one byte

-- bytes of which so many are still to come, and which have this value
data Pending (left value : ℕ) (p : List ℕ) : Type 0 where
  is_none : left ≡ 0 → p ≡ [] → Pending left value p
  is_one : left ≡ 1 → Ends1 value p → Pending left value p
  is_two : left ≡ 2 → Ends2 value p → Pending left value p
  is_three : left ≡ 3 → Ends3 value p → Pending left value p

-- what a byte is behind some bytes of a character
abbrev Goes : List ℕ → ℕ → ReadByte → Type 0
Goes p b Lost = Unit {0}
Goes p b (Part left value) = Pending left value (p ++ b ∷ [])
Goes p b (Whole c) = (scalar c ≡ true) × (encode c ≡ p ++ b ∷ [])

leads : (b : ℕ) → Goes [] b (first_byte b)
unfolding encode
leads b =
    elim (cases_Bool (ltb b 128)) [
      | inl one ↦ rw one (low_scalar b (let low = ltb-true b 128 one in omega (arith, low)), rw one refl)
      | inr from ↦ elim (cases_Bool (ltb b 194)) [
        | inl lost ↦ rw (from, lost) tt
        | inr least ↦ elim (cases_Bool (ltb b 224)) [
          | inl two ↦
              let low = ltb-false b 194 least in
              let high = ltb-true b 224 two in
              let is : 192 + (b - 192) ≡ b = omega (arith, low) in
              rw (from, least, two) (is_one refl (subst (λ n. Ends1 (b - 192) (n ∷ [])) is (of_two (b - 192) (omega (arith, low)) (omega (arith, high)))))
          | inr more ↦ elim (cases_Bool (ltb b 240)) [
            | inl three ↦
                let low = ltb-false b 224 more in
                let high = ltb-true b 240 three in
                let is : 224 + (b - 224) ≡ b = omega (arith, low) in
                rw (from, least, more, three) (is_two refl (subst (λ n. Ends2 (b - 224) (n ∷ [])) is (of_three (b - 224) (omega (arith, high)))))
            | inr most ↦ elim (cases_Bool (ltb b 245)) [
              | inl four ↦
                  let low = ltb-false b 240 most in
                  let is : 240 + (b - 240) ≡ b = omega (arith, low) in
                  rw (from, least, more, most, four) (is_three refl (subst (λ n. Ends3 (b - 240) (n ∷ [])) is (of_four (b - 240))))
              | inr none ↦ rw (from, least, more, most, none) tt
            ]
          ]
        ]
      ]
    ]

-- a byte behind others of a character is one of 64
follows_by : (b : ℕ) (r : ReadByte) (p : List ℕ) → ((y : ℕ) → y < 64 → b ≡ 128 + y → Goes p b r)
    → Goes p b (cond (ltb b 128) Lost (cond (ltb b 192) r Lost))
follows_by b r p goes =
    elim (cases_Bool (ltb b 128)) [
      | inl lost ↦ rw lost tt
      | inr from ↦ elim (cases_Bool (ltb b 192)) [
        | inl follows ↦
            let low = ltb-false b 128 from in
            let high = ltb-true b 192 follows in
            rw (from, follows) (goes (b - 128) (omega (arith, low, high)) (omega (arith, low)))
        | inr lost ↦ rw (from, lost) tt
      ]
    ]

last_follows : (v b : ℕ) (p : List ℕ) → Ends1 v p → Goes p b (read_byte 1 v b)
unfolding read_byte
last_follows v b p ends =
    follows_by b (Whole (v * 64 + (b - 128))) p
    (λ y low is.
    let same : b - 128 ≡ y = omega (arith, is) in
    (ap (λ n. scalar (v * 64 + n)) same ∙ (ends y low).0, ap (λ n. encode (v * 64 + n)) same ∙ (ends y low).1 ∙ ap (λ n. p ++ n ∷ []) (sym is)))

before_last_goes : (m b : ℕ) (p : List ℕ) → (IsBeforeLast m → Ends1 m (p ++ b ∷ [])) → Goes p b (part_before_last m)
before_last_goes m b p ends =
    elim (cases_Bool (ltb m 32)) [
      | inl lost ↦ rw lost tt
      | inr least ↦ elim (cases_Bool (ltb m 864)) [
        | inl low ↦ rw (least, low) (is_one refl (ends (is_low (ltb-false m 32 least) (ltb-true m 864 low))))
        | inr more ↦ elim (cases_Bool (ltb m 896)) [
          | inl lost ↦ rw (least, more, lost) tt
          | inr high ↦ elim (cases_Bool (ltb m 65536)) [
            | inl fits ↦ rw (least, more, high, fits) (is_one refl (ends (is_high (ltb-false m 896 high) (ltb-true m 65536 fits))))
            | inr lost ↦ rw (least, more, high, lost) tt
          ]
        ]
      ]
    ]

second_follows : (v b : ℕ) (p : List ℕ) → Ends2 v p → Goes p b (read_byte 2 v b)
unfolding read_byte
second_follows v b p ends =
    follows_by b (part_before_last (v * 64 + (b - 128))) p
    (λ y low is.
    let same : b - 128 ≡ y = omega (arith, is) in
    before_last_goes (v * 64 + (b - 128)) b p
    (λ kind. subst (λ n. Ends1 (v * 64 + n) (p ++ b ∷ [])) (sym same)
    (subst (λ n. Ends1 (v * 64 + y) (p ++ n ∷ [])) (sym is) (ends y low (subst (λ n. IsBeforeLast (v * 64 + n)) same kind)))))

before_two_goes : (m b : ℕ) (p : List ℕ) → (16 ≤ m → m < 272 → Ends2 m (p ++ b ∷ [])) → Goes p b (part_before_two m)
before_two_goes m b p ends =
    elim (cases_Bool (ltb m 16)) [
      | inl lost ↦ rw lost tt
      | inr least ↦ elim (cases_Bool (ltb m 272)) [
        | inl most ↦ rw (least, most) (is_two refl (ends (ltb-false m 16 least) (ltb-true m 272 most)))
        | inr lost ↦ rw (least, lost) tt
      ]
    ]

third_follows : (v b : ℕ) (p : List ℕ) → Ends3 v p → Goes p b (read_byte 3 v b)
unfolding read_byte
third_follows v b p ends =
    follows_by b (part_before_two (v * 64 + (b - 128))) p
    (λ y low is.
    let same : b - 128 ≡ y = omega (arith, is) in
    before_two_goes (v * 64 + (b - 128)) b p
    (λ least most. subst (λ n. Ends2 (v * 64 + n) (p ++ b ∷ [])) (sym same)
    (subst (λ n. Ends2 (v * 64 + y) (p ++ n ∷ [])) (sym is)
    (ends y low (subst (λ n. 16 ≤ v * 64 + n) same least) (subst (λ n. v * 64 + n < 272) same most)))))

leads_behind_none : (v b : ℕ) → Goes [] b (read_byte 0 v b)
unfolding read_byte
leads_behind_none v b = leads b

goes_on : (left value b : ℕ) (p : List ℕ) → Pending left value p → Goes p b (read_byte left value b)
goes_on left value b p (is_none none empty) =
    subst (λ n. Goes p b (read_byte n value b)) (sym none) (subst (λ q. Goes q b (read_byte 0 value b)) (sym empty) (leads_behind_none value b))
goes_on left value b p (is_one one ends) = subst (λ n. Goes p b (read_byte n value b)) (sym one) (last_follows value b p ends)
goes_on left value b p (is_two two ends) = subst (λ n. Goes p b (read_byte n value b)) (sym two) (second_follows value b p ends)
goes_on left value b p (is_three three ends) = subst (λ n. Goes p b (read_byte n value b)) (sym three) (third_follows value b p ends)

-- ---- some bytes

-- the characters that were read are those of bytes, up to those of the next one; or nothing is known
record IsReadOf (r : CharactersRead) (bytes : List ℕ) : Type 0 where
  pub part : List ℕ
  pub are : scalars r.done ≡ true
  pub bytes_are : bytes ≡ encodes r.done ++ part
  pub pending : Pending r.left r.value part

abbrev StandsFor : CharactersRead → List ℕ → Type 0
StandsFor r bytes = (r.lost ≡ true) ⊎ IsReadOf r bytes

scalars_with : (text : List ℕ) (c : ℕ) → scalars text ≡ true → scalar c ≡ true → scalars (text ++ c ∷ []) ≡ true
scalars_with [] c all is = and_from (scalar c) true is refl
scalars_with (d ∷ text) c all is =
    let parts = and_parts (scalar d) (scalars text) all in
    and_from (scalar d) (scalars (text ++ c ∷ [])) parts.0 (scalars_with text c parts.1 is)

read_one : (r : CharactersRead) (bytes : List ℕ) (b : ℕ) (is : IsReadOf r bytes) (byte : ReadByte) → Goes is.part b byte → StandsFor (read_on r byte) (bytes ++ b ∷ [])
read_one r bytes b is Lost goes = inl refl
read_one r bytes b is (Part left value) goes =
    inr record {
      part = is.part ++ b ∷ [];
      are = is.are;
      bytes_are = ap (λ w. w ++ b ∷ []) is.bytes_are ∙ append_assoc (encodes r.done) is.part (b ∷ []);
      pending = goes;
    }
read_one r bytes b is (Whole c) goes =
    inr record {
      part = [];
      are = scalars_with r.done c is.are goes.0;
      bytes_are = ap (λ w. w ++ b ∷ []) is.bytes_are
          ∙ append_assoc (encodes r.done) is.part (b ∷ [])
          ∙ ap (λ w. encodes r.done ++ w) (sym goes.1 ∙ sym (append-nil (encode c)))
          ∙ sym (encodes-append r.done (c ∷ []))
          ∙ sym (append-nil (encodes (r.done ++ c ∷ [])));
      pending = is_none refl refl;
    }

stands_on : (r : CharactersRead) (bytes : List ℕ) (b : ℕ) → StandsFor r bytes → StandsFor (characters_after r b) (bytes ++ b ∷ [])
unfolding characters_after
stands_on r bytes b (inl lost) = inl (ap (λ t. (cond t r (read_on r (read_byte r.left r.value b))).lost) lost ∙ lost)
stands_on r bytes b (inr is) = at r.lost refl
  where
    at : (t : Bool) → r.lost ≡ t → StandsFor (cond t r (read_on r (read_byte r.left r.value b))) (bytes ++ b ∷ [])
    at true lost = inl lost
    at false kept = read_one r bytes b is (read_byte r.left r.value b) (goes_on r.left r.value b is.part is.pending)

stand_for : (rest bytes : List ℕ) (r : CharactersRead) → StandsFor r bytes → StandsFor (fold characters_after r rest) (bytes ++ rest)
stand_for [] bytes r is = subst (StandsFor r) (sym (append-nil bytes)) is
stand_for (b ∷ rest) bytes r is =
    subst (StandsFor (fold characters_after (characters_after r b) rest)) (append_assoc bytes (b ∷ []) rest)
    (stand_for rest (bytes ++ b ∷ []) (characters_after r b) (stands_on r bytes b is))

-- ---- all bytes

is_text : (r : CharactersRead) (bytes text : List ℕ) → StandsFor r bytes → whole_characters r ≡ Some text → (scalars text ≡ true) × (encodes text ≡ bytes)
is_text r bytes text stands whole = at r.lost (eqb r.left 0) refl refl whole stands
  where
    ends : (left value : ℕ) (p : List ℕ) → left ≡ 0 → Pending left value p → p ≡ []
    ends left value p zero (is_none none empty) = empty
    ends left value p zero (is_one one more) = absurd (omega (arith, zero, one))
    ends left value p zero (is_two two more) = absurd (omega (arith, zero, two))
    ends left value p zero (is_three three more) = absurd (omega (arith, zero, three))

    at : (lost none : Bool) → r.lost ≡ lost → eqb r.left 0 ≡ none → cond lost None (cond none (Some r.done) None) ≡ Some text → StandsFor r bytes
        → (scalars text ≡ true) × (encodes text ≡ bytes)
    at true none lost is whole stands = absurd (none-some text whole)
    at false false lost is whole stands = absurd (none-some text whole)
    at false true lost is whole (inl gone) = absurd (true≢false (sym gone ∙ lost))
    at false true lost is whole (inr read) =
        let same = same_Some r.done text whole in
        let none = ends r.left r.value read.part (eqb-true r.left 0 is) read.pending in (
          ap scalars (sym same) ∙ read.are,
          ap encodes (sym same) ∙ sym (append-nil (encodes r.done)) ∙ ap (λ p. encodes r.done ++ p) (sym none) ∙ sym read.bytes_are,
        )

pub reads_only_text : (bytes text : List ℕ) → characters_of bytes ≡ Some text → (scalars text ≡ true) × (encodes text ≡ bytes)
unfolding characters_of
reads_only_text bytes text is =
    let start : StandsFor none_read [] = inr record { part = []; are = refl; bytes_are = refl; pending = is_none refl refl } in
    is_text (fold characters_after none_read bytes) bytes text (stand_for bytes [] none_read start) is
