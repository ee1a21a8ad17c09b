-- The places of a pattern say of what was read, and of all that goes on from it, whether it fits.
use Rattle.std.proofs.Common.{◌≡◌, ℕ, ◌+◌, ◌*◌, ◌/◌, ◌%◌, Bool, true, false, cond, not, ◌&&◌, ◌||◌}
use Rattle.std.proofs.Common.{eqb, List, [], ◌∷◌, ◌++◌, refl, sym, ◌∙◌, ap, subst, arith}
use Rattle.std.proofs.Common.{append-nil, inl, inr}
use Rattle.std.specs.Prelude.{fold}
use Rattle.std.proofs.lemmas.Bool.{cases_Bool, eqb-true, true≢false}
use Rattle.byte_automata.specs.Patterns.{bit_of, fits, pattern_after, pattern_end, pattern_may}
use Rattle.byte_automata.specs.Patterns.{pattern_start}

-- ---- bits

-- the lowest
abbrev low : ℕ → Bool
low places = eqb (places % 2) 1

low_of : (b : Bool) (rest : ℕ) → low (bit_of b + 2 * rest) ≡ b
low_of true rest = (let odd : (1 + 2 * rest) % 2 ≡ 1 = omega arith in ap (λ n. eqb n 1) odd)
low_of false rest = (let even : (0 + 2 * rest) % 2 ≡ 0 = omega arith in ap (λ n. eqb n 1) even)

bits_above : (b : Bool) (rest : ℕ) → (bit_of b + 2 * rest) / 2 ≡ rest
bits_above true rest = omega arith
bits_above false rest = omega arith

low_bit : (b : Bool) → low (bit_of b) ≡ b
low_bit true = refl
low_bit false = refl

-- ---- tests

and_true : (b : Bool) → (b && true) ≡ b
and_true true = refl
and_true false = refl

and_false : (b : Bool) → (b && false) ≡ false
and_false true = refl
and_false false = refl

or_false : (b : Bool) → (b || false) ≡ b
or_false true = refl
or_false false = refl

or_true : (b : Bool) → (b || true) ≡ true
or_true true = refl
or_true false = refl

and_assoc : (a b c : Bool) → ((a && b) && c) ≡ (a && (b && c))
and_assoc true b c = refl
and_assoc false b c = refl

-- what holds where another test holds adds nothing to it
or_more : (a b : Bool) → (b ≡ true → a ≡ true) → (a || b) ≡ a
or_more true b h = refl
or_more false true h = sym (h refl)
or_more false false h = refl

star_or : (h e f g l m : Bool) → (g ≡ true → f ≡ true) → (h ≡ true → m ≡ true → l ≡ true)
    → (((h || e) && f) || (((h || e) && g) || l)) ≡ ((e && f) || ((h && (m || f)) || l))
star_or true true true g l m a b = refl
star_or true false true g l true a b = refl
star_or true false true g l false a b = refl
star_or true true false true l m a b = absurd (true≢false (sym (a refl)))
star_or true false false true l m a b = absurd (true≢false (sym (a refl)))
star_or true true false false l true a b = b refl refl
star_or true true false false l false a b = refl
star_or true false false false l true a b = b refl refl
star_or true false false false l false a b = refl
star_or false true true g l m a b = refl
star_or false true false true l m a b = absurd (true≢false (sym (a refl)))
star_or false true false false l m a b = refl
star_or false false f g l m a b = refl

-- ---- what fits from some places on

-- whether bytes fit the rest of the pattern from one of these places on
live : List ℕ → ℕ → List ℕ → Bool
live [] places v = low places && fits [] v
live (p ∷ pattern) places v = (low places && fits (p ∷ pattern) v) || live pattern (places / 2) v

-- behind a place of a `*` there is one too
IsClosed : List ℕ → ℕ → Type 0
IsClosed [] places = Unit {0}
IsClosed (p ∷ pattern) places = (eqb p 42 ≡ true → low places ≡ true → low (places / 2) ≡ true) × IsClosed pattern (places / 2)

live_first : (pattern : List ℕ) (places : ℕ) (v : List ℕ) → low places ≡ true → fits pattern v ≡ true → live pattern places v ≡ true
unfolding live
live_first [] places v first fit = (λ i. first i && fit i)
live_first (p ∷ pattern) places v first fit = (λ i. (first i && fit i) || live pattern (places / 2) v)

live_none : (pattern : List ℕ) (v : List ℕ) → live pattern 0 v ≡ false
unfolding live
live_none [] v = refl
live_none (p ∷ pattern) v = live_none pattern v

closed_none : (pattern : List ℕ) → IsClosed pattern 0
unfolding IsClosed
closed_none [] = tt
closed_none (p ∷ pattern) = (λ star has. absurd (true≢false (sym has)), closed_none pattern)

-- what fits behind a `*` fits with it
star_fits : (p : ℕ) (pattern v : List ℕ) → eqb p 42 ≡ true → fits pattern v ≡ true → fits (p ∷ pattern) v ≡ true
unfolding fits
star_fits p pattern [] star fit = (λ i. star i && fit i)
star_fits p pattern (b ∷ v) star fit =
    ap (λ t. cond t (fits pattern (b ∷ v) || fits (p ∷ pattern) v) ((eqb p 63 || eqb p b) && fits pattern v)) star
    ∙ ap (λ t. t || fits (p ∷ pattern) v) fit

-- ---- one byte more

enters_first : (pattern : List ℕ) (places byte : ℕ) → low (pattern_after pattern places true byte) ≡ true
unfolding pattern_after
enters_first [] places byte = refl
enters_first (p ∷ pattern) places byte = at (eqb p 42)
  where
    at : (t : Bool) → low (cond t (bit_of (low places || true) + 2 * pattern_after pattern (places / 2) (low places || true) byte)
        (bit_of true + 2 * pattern_after pattern (places / 2) (low places && (eqb p 63 || eqb p byte)) byte)) ≡ true
    at true = low_of (low places || true) (pattern_after pattern (places / 2) (low places || true) byte) ∙ or_true (low places)
    at false = low_of true (pattern_after pattern (places / 2) (low places && (eqb p 63 || eqb p byte)) byte)

closed_step : (pattern : List ℕ) (places : ℕ) (enters : Bool) (byte : ℕ) → IsClosed pattern (pattern_after pattern places enters byte)
unfolding pattern_after IsClosed
closed_step [] places enters byte = tt
closed_step (p ∷ pattern) places enters byte =
    elim (cases_Bool (eqb p 42)) [
      | inl star ↦
          let stays = low places || enters in
          let rest = pattern_after pattern (places / 2) stays byte in
          subst (λ t. IsClosed (p ∷ pattern) (cond t (bit_of stays + 2 * rest) (bit_of enters + 2 * pattern_after pattern (places / 2) (low places && (eqb p 63 || eqb p byte)) byte))) (sym star)
          (λ _ has. goes_in stays has, subst (IsClosed pattern) (sym (bits_above stays rest)) (closed_step pattern (places / 2) stays byte))
      | inr plain ↦
          let passes = low places && (eqb p 63 || eqb p byte) in
          let rest = pattern_after pattern (places / 2) passes byte in
          subst (λ t. IsClosed (p ∷ pattern) (cond t (bit_of (low places || enters) + 2 * pattern_after pattern (places / 2) (low places || enters) byte) (bit_of enters + 2 * rest))) (sym plain)
          (λ star has. absurd (true≢false (sym star ∙ plain)), subst (IsClosed pattern) (sym (bits_above enters rest)) (closed_step pattern (places / 2) passes byte))
    ]
  where
    goes_in : (stays : Bool) → low (bit_of stays + 2 * pattern_after pattern (places / 2) stays byte) ≡ true → low ((bit_of stays + 2 * pattern_after pattern (places / 2) stays byte) / 2) ≡ true
    goes_in true has = ap low (bits_above true (pattern_after pattern (places / 2) true byte)) ∙ enters_first pattern (places / 2) byte
    goes_in false has = absurd (true≢false (sym has ∙ low_of false (pattern_after pattern (places / 2) false byte)))

live_step : (pattern : List ℕ) (places : ℕ) (enters : Bool) (byte : ℕ) (v : List ℕ) → IsClosed pattern places
    → live pattern (pattern_after pattern places enters byte) v ≡ ((enters && fits pattern v) || live pattern places (byte ∷ v))
unfolding live IsClosed pattern_after fits
live_step [] places enters byte v c =
    ap (λ t. t && fits [] v) (low_bit enters) ∙ sym (ap (λ t. (enters && fits [] v) || t) (and_false (low places)) ∙ or_false (enters && fits [] v))
live_step (p ∷ pattern) places enters byte v c =
    elim (cases_Bool (eqb p 42)) [
      | inl star ↦
          let h = low places in
          let stays = h || enters in
          let rest = pattern_after pattern (places / 2) stays byte in
          let more = live pattern (places / 2) (byte ∷ v) in
          let later = live_step pattern (places / 2) stays byte v c.1 in
          ap (λ t. live (p ∷ pattern) (cond t (bit_of stays + 2 * rest) (bit_of enters + 2 * pattern_after pattern (places / 2) (h && (eqb p 63 || eqb p byte)) byte)) v) star
          ∙ (λ i. (low_of stays rest i && fits (p ∷ pattern) v) || (ap (λ n. live pattern n v) (bits_above stays rest) ∙ later) i)
          ∙ star_or h enters (fits (p ∷ pattern) v) (fits pattern v) more (fits pattern (byte ∷ v)) (star_fits p pattern v star)
          (λ has fit. live_first pattern (places / 2) (byte ∷ v) (c.0 star has) fit)
          ∙ sym (ap (λ t. (enters && fits (p ∷ pattern) v) || ((h && cond t (fits pattern (byte ∷ v) || fits (p ∷ pattern) v) ((eqb p 63 || eqb p byte) && fits pattern v)) || more)) star)
      | inr plain ↦
          let h = low places in
          let takes = eqb p 63 || eqb p byte in
          let rest = pattern_after pattern (places / 2) (h && takes) byte in
          let more = live pattern (places / 2) (byte ∷ v) in
          let later = live_step pattern (places / 2) (h && takes) byte v c.1 in
          ap (λ t. live (p ∷ pattern) (cond t (bit_of (h || enters) + 2 * pattern_after pattern (places / 2) (h || enters) byte) (bit_of enters + 2 * rest)) v) plain
          ∙ (λ i. (low_of enters rest i && fits (p ∷ pattern) v) || (ap (λ n. live pattern n v) (bits_above enters rest) ∙ later) i)
          ∙ ap (λ t. (enters && fits (p ∷ pattern) v) || (t || more)) (and_assoc h takes (fits pattern v))
          ∙ sym (ap (λ t. (enters && fits (p ∷ pattern) v) || ((h && cond t (fits pattern (byte ∷ v) || fits (p ∷ pattern) v) (takes && fits pattern v)) || more)) plain)
    ]

-- ---- before the first byte, and at the end

first_low : (pattern : List ℕ) → low (pattern_start pattern) ≡ true
unfolding pattern_start
first_low [] = refl
first_low (p ∷ pattern) = at (eqb p 42)
  where
    at : (t : Bool) → low (cond t (1 + 2 * pattern_start pattern) 1) ≡ true
    at true = low_of true (pattern_start pattern)
    at false = refl

closed_first : (pattern : List ℕ) → IsClosed pattern (pattern_start pattern)
unfolding IsClosed pattern_start
closed_first [] = tt
closed_first (p ∷ pattern) =
    elim (cases_Bool (eqb p 42)) [
      | inl star ↦
          subst (λ t. IsClosed (p ∷ pattern) (cond t (1 + 2 * pattern_start pattern) 1)) (sym star)
          (λ _ _. ap low (bits_above true (pattern_start pattern)) ∙ first_low pattern, subst (IsClosed pattern) (sym (bits_above true (pattern_start pattern))) (closed_first pattern))
      | inr plain ↦
          subst (λ t. IsClosed (p ∷ pattern) (cond t (1 + 2 * pattern_start pattern) 1)) (sym plain)
          (λ star has. absurd (true≢false (sym star ∙ plain)), closed_none pattern)
    ]

live_start : (pattern v : List ℕ) → live pattern (pattern_start pattern) v ≡ fits pattern v
unfolding live pattern_start
live_start [] v = refl
live_start (p ∷ pattern) v =
    elim (cases_Bool (eqb p 42)) [
      | inl star ↦
          ap (λ t. live (p ∷ pattern) (cond t (1 + 2 * pattern_start pattern) 1) v) star
          ∙ (λ i. (low_of true (pattern_start pattern) i && fits (p ∷ pattern) v) || (ap (λ n. live pattern n v) (bits_above true (pattern_start pattern)) ∙ live_start pattern v) i)
          ∙ or_more (fits (p ∷ pattern) v) (fits pattern v) (star_fits p pattern v star)
      | inr plain ↦
          ap (λ t. live (p ∷ pattern) (cond t (1 + 2 * pattern_start pattern) 1) v) plain
          ∙ ap (λ t. fits (p ∷ pattern) v || t) (live_none pattern v) ∙ or_false (fits (p ∷ pattern) v)
    ]

end_live : (pattern : List ℕ) (places : ℕ) → IsClosed pattern places → pattern_end pattern places ≡ live pattern places []
unfolding live IsClosed pattern_end fits
end_live [] places c = sym (and_true (low places))
end_live (p ∷ pattern) places c =
    end_live pattern (places / 2) c.1
    ∙ sym (before (low places) (eqb p 42) (fits pattern []) (live pattern (places / 2) []) (λ has star fit. live_first pattern (places / 2) [] (c.0 star has) fit))
  where
    before : (h s f l : Bool) → (h ≡ true → s ≡ true → f ≡ true → l ≡ true) → ((h && (s && f)) || l) ≡ l
    before true true true l a = sym (a refl refl refl)
    before true true false l a = refl
    before true false f l a = refl
    before false s f l a = refl

-- ---- some bytes

closed_run : (pattern : List ℕ) (places : ℕ) (read : List ℕ) → IsClosed pattern places → IsClosed pattern (fold (λ places. pattern_after pattern places false) places read)
closed_run pattern places [] c = c
closed_run pattern places (b ∷ read) c = closed_run pattern (pattern_after pattern places false b) read (closed_step pattern places false b)

live_run : (pattern : List ℕ) (places : ℕ) (read v : List ℕ) → IsClosed pattern places → live pattern (fold (λ places. pattern_after pattern places false) places read) v ≡ live pattern places (read ++ v)
live_run pattern places [] v c = refl
live_run pattern places (b ∷ read) v c =
    live_run pattern (pattern_after pattern places false b) read v (closed_step pattern places false b) ∙ live_step pattern places false b (read ++ v) c

-- the places after some bytes say whether they fit
pub pattern_tells : (pattern read : List ℕ) → pattern_end pattern (fold (λ places. pattern_after pattern places false) (pattern_start pattern) read) ≡ fits pattern read
pattern_tells pattern read =
    let c = closed_first pattern in
    end_live pattern (fold (λ places. pattern_after pattern places false) (pattern_start pattern) read) (closed_run pattern (pattern_start pattern) read c)
    ∙ live_run pattern (pattern_start pattern) read [] c ∙ live_start pattern (read ++ []) ∙ ap (fits pattern) (append-nil read)

-- where there are no places, nothing that goes on fits
pub pattern_prunes : (pattern read rest : List ℕ) → pattern_may (fold (λ places. pattern_after pattern places false) (pattern_start pattern) read) ≡ false → fits pattern (read ++ rest) ≡ false
pattern_prunes pattern read rest h =
    let places = fold (λ places. pattern_after pattern places false) (pattern_start pattern) read in
    let none : places ≡ 0 = none_of places h in
    sym (live_start pattern (read ++ rest)) ∙ sym (live_run pattern (pattern_start pattern) read rest (closed_first pattern))
    ∙ ap (λ n. live pattern n rest) none ∙ live_none pattern rest
  where
    none_of : (places : ℕ) → not (eqb places 0) ≡ false → places ≡ 0
    none_of places h = elim (cases_Bool (eqb places 0)) [ inl is ↦ eqb-true places 0 is | inr some ↦ absurd (true≢false (sym (ap not some) ∙ h)) ]
