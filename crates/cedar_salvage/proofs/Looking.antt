-- How many bytes are looked at.
use Rattle.std.specs.Prelude.{get_or}
use Rattle.std.proofs.Common.{◌≡◌, ◌≢◌, ℕ, ◌+◌, ◌<◌, ◌≤◌, List, ◌∷◌, length, drop, sym, ◌∙◌, ap, arith}
use Rattle.std.proofs.lemmas.Bool.{cond-true, cond-false, eq-eqb, ne_eqb, le-leb, lt-leb}
use Rattle.std.proofs.lemmas.List.{drop_more}
use Rattle.cedar_journal.specs.Formats.{four_at}
use Rattle.cedar_salvage.specs.Whole.{look_at, looks}

-- ---- at one position

pub few_look : (bytes : List ℕ) → length bytes < 10 → 0 ≡ look_at bytes
unfolding look_at
few_look bytes few = sym (cond-false _ _ _ (lt-leb 10 (length bytes) few))

module _ (bytes : List ℕ) (long : 10 ≤ length bytes) where
  pub shut_look : get_or bytes 0 0 ≡ 0 → 0 ≡ look_at bytes
  unfolding look_at
  shut_look closed = sym (cond-true _ _ _ (le-leb 10 (length bytes) long) ∙ cond-true _ _ _ (eq-eqb (get_or bytes 0 0) 0 closed))

  pub other_look : get_or bytes 0 0 ≢ 0 → 2 < get_or bytes 9 0 → 0 ≡ look_at bytes
  unfolding look_at
  other_look ajar high =
      sym (cond-true _ _ _ (le-leb 10 (length bytes) long)
      ∙ cond-false _ _ _ (ne_eqb (get_or bytes 0 0) 0 ajar)
      ∙ cond-true _ _ _ (le-leb 3 (get_or bytes 9 0) (omega (arith, high))))

  pub short_look : (n : ℕ) → get_or bytes 0 0 ≢ 0 → get_or bytes 9 0 ≤ 2 → n ≡ four_at bytes 5 → length bytes < 9 + n → 0 ≡ look_at bytes
  unfolding look_at
  short_look n ajar low is short =
      sym (cond-true _ _ _ (le-leb 10 (length bytes) long)
      ∙ cond-false _ _ _ (ne_eqb (get_or bytes 0 0) 0 ajar)
      ∙ cond-false _ _ _ (lt-leb 3 (get_or bytes 9 0) (omega (arith, low)))
      ∙ cond-false _ _ _ (lt-leb (9 + four_at bytes 5) (length bytes) (omega (arith, short, is))))

  pub whole_look : (n : ℕ) → get_or bytes 0 0 ≢ 0 → get_or bytes 9 0 ≤ 2 → n ≡ four_at bytes 5 → 9 + n ≤ length bytes → 9 + n ≡ look_at bytes
  unfolding look_at
  whole_look n ajar low is fits =
      ap (λ k. 9 + k) is
      ∙ sym (cond-true _ _ _ (le-leb 10 (length bytes) long)
      ∙ cond-false _ _ _ (ne_eqb (get_or bytes 0 0) 0 ajar)
      ∙ cond-false _ _ _ (lt-leb 3 (get_or bytes 9 0) (omega (arith, low)))
      ∙ cond-true _ _ _ (le-leb (9 + four_at bytes 5) (length bytes) (omega (arith, fits, is))))

-- ---- one position after another

pub looks_on : (bytes b : List ℕ) (at : ℕ) → b ≡ drop at bytes → at < length bytes → looks (drop at bytes) ≡ look_at b + looks (drop (at + 1) bytes)
unfolding looks
looks_on bytes b at here low =
    let more : drop at bytes ≡ get_or bytes at 0 ∷ drop (at + 1) bytes = drop_more bytes at 0 low in
    ap looks more ∙ ap (λ l. look_at l + looks (drop (at + 1) bytes)) (sym (here ∙ more))
