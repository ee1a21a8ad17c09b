-- What the first bytes of a header refuse, all of them refuse, unless there were too few.
use Rattle.std.proofs.Common.{◌≡◌, ◌⊎◌, ℕ, zero, suc, ◌+◌, ◌≤◌, ◌<◌, true, List, [], ◌∷◌, ◌++◌, length, Option, Some, None, inl, inr, refl, ap, arith, length-append, le-leb}
use Rattle.std.specs.Prelude.{◌&&◌, ◌==◌, codes, nat_eq, nat_le, nat_lt}
use Rattle.std.specs.Cmp.Lexicographic.{pointwise}
use Rattle.std.specs.List.{starts_with}
use lib.Seq.{take-append-le}
use Rattle.std.proofs.lemmas.Bool.{cases_lt}
use Rattle.std.proofs.lemmas.Bool.Decides.{nat_tests}
use Rattle.cedar_format.specs.Format.{header_refusal, kind_refusal, magic, reads_to, u16_at, u8_at, version_refusal}
use Rattle.cedar_format.specs.Refusal.{InvalidHeader, InvalidMagic, LayoutMismatch, Refusal, Truncated, UnsupportedByteOrder, UnsupportedVersion, first_refusal, unless}

-- a step that says the same of more bytes, unless it lacks some
abbrev Stays : Option Refusal → Option Refusal → Type 0
Stays few all = (few ≡ Some Truncated) ⊎ (all ≡ few)

first_stays : (few all : Option Refusal) (rest more : List (Option Refusal)) → Stays few all → (few ≡ None → Stays (first_refusal rest) (first_refusal more))
    → Stays (first_refusal (few ∷ rest)) (first_refusal (all ∷ more))
first_stays None None rest more same next = next refl
first_stays None (Some s) rest more (inl lacks) next = absurd cc
first_stays None (Some s) rest more (inr same) next = absurd cc
first_stays (Some r) all rest more (inl lacks) next = inl lacks
first_stays (Some r) None rest more (inr same) next = absurd cc
first_stays (Some r) (Some s) rest more (inr same) next = inr same

read_stays : (n : ℕ) (front rest : List ℕ) → Stays (reads_to n front) (reads_to n (front ++ rest))
read_stays n front rest = elim (cases_lt (length front) n) [
  | inl fewer ↦ inl (grind (arith, nat_tests))
  | inr enough ↦
      let longer : n ≤ length (front ++ rest) = omega (arith, length-append front rest) in
      let first : nat_le n (length front) ≡ true = le-leb n (length front) (omega arith) in
      let second : nat_le n (length (front ++ rest)) ≡ true = le-leb n (length (front ++ rest)) longer in
      inr (rw (first, second) refl)
]

has_read : (n : ℕ) (front : List ℕ) → reads_to n front ≡ None → n ≤ length front
has_read n front e = grind (arith, nat_tests)

byte_stays : (i : ℕ) (front rest : List ℕ) → i < length front → u8_at i (front ++ rest) ≡ u8_at i front
byte_stays i [] rest within = absurd (omega (arith, within))
byte_stays zero (x ∷ front) rest within = refl
byte_stays (suc i) (x ∷ front) rest within = byte_stays i front rest (omega (arith, within))

number_stays : (i : ℕ) (front rest : List ℕ) → i + 2 ≤ length front → u16_at i (front ++ rest) ≡ u16_at i front
unfolding u16_at
number_stays i [] rest within = absurd (omega (arith, within))
number_stays zero (x ∷ []) rest within = absurd (omega (arith, within))
number_stays zero (x ∷ y ∷ front) rest within = refl
number_stays (suc i) (x ∷ front) rest within = number_stays i front rest (omega (arith, within))

begins_stays : (start front rest : List ℕ) → length start ≤ length front → starts_with nat_eq (front ++ rest) start ≡ starts_with nat_eq front start
begins_stays start front rest within = ap (pointwise nat_eq start) (take-append-le (length start) front rest within)

-- the tests of a header
abbrev is_magic : List ℕ → Option Refusal
is_magic bytes = unless (starts_with nat_eq bytes magic) InvalidMagic

abbrev is_version : List ℕ → Option Refusal
is_version bytes = unless ((u16_at 8 bytes == 1) && nat_lt (u16_at 10 bytes) 2) (UnsupportedVersion (u16_at 8 bytes) (u16_at 10 bytes))

abbrev is_order : List ℕ → Option Refusal
is_order bytes = unless (u8_at 12 bytes == 1) (UnsupportedByteOrder (u8_at 12 bytes))

abbrev is_kind : ℕ → List ℕ → Option Refusal
is_kind layout bytes = unless (u8_at 13 bytes == layout) (LayoutMismatch layout (u8_at 13 bytes))

abbrev has_flags : List ℕ → Option Refusal
has_flags bytes = unless (nat_lt (u16_at 14 bytes) 2) (InvalidHeader (codes "flags") (u16_at 14 bytes))

module _ (front rest : List ℕ) where
  abbrev all : List ℕ
  all = front ++ rest

  -- a read, then a test of what was read, and what comes behind it
  test_stays : (n : ℕ) (test : List ℕ → Option Refusal) (more : List ℕ → List (Option Refusal)) → (n ≤ length front → test all ≡ test front)
      → Stays (first_refusal (more front)) (first_refusal (more all)) → Stays (first_refusal (reads_to n front ∷ test front ∷ more front)) (first_refusal (reads_to n all ∷ test all ∷ more all))
  test_stays n test more same next =
      first_stays (reads_to n front) (reads_to n all) (test front ∷ more front) (test all ∷ more all) (read_stays n front rest) (λ read.
      first_stays (test front) (test all) (more front) (more all) (inr (same (has_read n front read))) (λ passed. next))

  -- nothing comes behind the last test
  none_stay : Stays (first_refusal []) (first_refusal [])
  none_stay = inr refl

  version_stays : Stays (version_refusal front) (version_refusal all)
  version_stays =
      test_stays 8 is_magic (λ bytes. reads_to 12 bytes ∷ is_version bytes ∷ []) (λ within. ap (λ b. unless b InvalidMagic) (begins_stays magic front rest within))
      (test_stays 12 is_version (λ bytes. []) (λ within.
      let major = number_stays 8 front rest (omega (arith, within)) in
      let minor = number_stays 10 front rest (omega (arith, within)) in
      rw (major, minor) refl)
      none_stay)

  kind_stays : (layout : ℕ) → Stays (kind_refusal layout front) (kind_refusal layout all)
  kind_stays layout =
      test_stays 13 is_order (λ bytes. reads_to 14 bytes ∷ is_kind layout bytes ∷ reads_to 16 bytes ∷ has_flags bytes ∷ []) (λ within.
      let order = byte_stays 12 front rest (omega (arith, within)) in rw order refl)
      (test_stays 14 (is_kind layout) (λ bytes. reads_to 16 bytes ∷ has_flags bytes ∷ []) (λ within.
      let kind = byte_stays 13 front rest (omega (arith, within)) in rw kind refl)
      (test_stays 16 has_flags (λ bytes. []) (λ within.
      let flags = number_stays 14 front rest (omega (arith, within)) in rw flags refl)
      none_stay))

  pub header_stays : (layout : ℕ) → Stays (header_refusal layout front) (header_refusal layout all)
  header_stays layout =
      first_stays (version_refusal front) (version_refusal all) (kind_refusal layout front ∷ reads_to 88 front ∷ []) (kind_refusal layout all ∷ reads_to 88 all ∷ []) version_stays (λ version.
      first_stays (kind_refusal layout front) (kind_refusal layout all) (reads_to 88 front ∷ []) (reads_to 88 all ∷ []) (kind_stays layout) (λ kind.
      first_stays (reads_to 88 front) (reads_to 88 all) [] [] (read_stays 88 front rest) (λ whole. none_stay)))
