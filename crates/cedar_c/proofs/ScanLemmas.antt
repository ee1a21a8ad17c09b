-- A buffer that takes what is in a text.
use Rattle.std.proofs.Common.{◌≡◌, ℕ, zero, suc, ◌+◌, ◌-◌, ◌<◌, ◌^◌, ℤ, List, [], ◌∷◌, ◌++◌, length, map, take, drop, set, Option, Some, None, option_map, refl, sym, ap, ◌∙◌, arith}
use Rattle.std.specs.List.{filter_map, cons_option, range_with_len}
use Rattle.std.proofs.lemmas.List.{append_assoc, drop-drop, take_more_set}
use Rattle.cedarwood.specs.Tree.{Tree, number_at}
use Rattle.cedarwood.specs.Queries.{front}
use Rattle.cedar_words.specs.Words.{longest, len_of, found_number}
use Rattle.cedar_c.specs.Matches.{Fit}
use Rattle.cedar_c.specs.Scans.{found_spot, found_spots, found_token, found_tokens}
use Rattle.cedar_c.specs.declared.scans.Found.{Found}
use Rattle.cedar_words.proofs.TokenLemmas.{tokens_step}

-- one more is written
pub told_more : (xs : List Found) (at place : ℕ) (x : ℤ × ℕ) (left later : List (ℤ × ℕ)) → at < length xs → left ≡ x ∷ later
    → take (at + 1) (set xs at (found_spot place x)) ++ map (found_spot place) later ≡ take at xs ++ map (found_spot place) left
told_more xs at place x left later h is =
    ap (λ t. t ++ map (found_spot place) later) (take_more_set xs at (found_spot place x) h)
    ∙ append_assoc (take at xs) (found_spot place x ∷ []) (map (found_spot place) later)
    ∙ ap (λ l. take at xs ++ map (found_spot place) l) (sym is)

-- what there is from a position on is what is at it, and then what there is from the next position on
pub spots_step : (t : Tree) (place : ℕ) (rest : List ℕ) → 0 < length rest
    → found_spots t place rest ≡ map (found_spot place) (front t rest) ++ found_spots t (place + 1) (drop 1 rest)
spots_step t place [] h = absurd (omega (arith, h))
spots_step t place (b ∷ rest) h = refl

-- a position is written
pub place_told : (t : Tree) (text : List ℕ) (all : List Found) (before now : List Found) (next : ℕ)
    → all ≡ before ++ found_spots t next (drop next text) → 0 < length (drop next text) → now ≡ before ++ map (found_spot next) (front t (drop next text))
    → all ≡ now ++ found_spots t (next + 1) (drop (next + 1) text)
place_told t text all before now next was some is =
    was ∙ ap (λ s. before ++ s) (spots_step t next (drop next text) some)
    ∙ ap (λ r. before ++ (map (found_spot next) (front t (drop next text)) ++ found_spots t (next + 1) r)) (drop-drop 1 next text)
    ∙ sym (append_assoc before (map (found_spot next) (front t (drop next text))) (found_spots t (next + 1) (drop (next + 1) text)))
    ∙ ap (λ n. n ++ found_spots t (next + 1) (drop (next + 1) text)) (sym is)

-- the token at a position comes first
pub token_first : (t : Tree) (place : ℕ) (text : List ℕ) (found : Option (ℤ × ℕ)) → 0 < length text → longest t text ≡ found
    → found_tokens t place text ≡ found_token (place, len_of found, found_number found) ∷ found_tokens t (place + len_of found) (drop (len_of found) text)
token_first t place text found h is =
    ap (map found_token) (tokens_step t place text (len_of found) (found_number found) h (ap len_of (sym is)) (ap found_number (sym is)))

-- the fronts of a text have no more bytes than it
fit_range : (t : Tree) (q : List ℕ) (n a : ℕ) → a + n < 2 ^ 64
    → Fit 1 (filter_map (λ k. option_map (λ (v : ℤ). (v, k)) (number_at t (take (k + 1) q))) (range_with_len a n))
fit_range t q zero a h = tt
fit_range t q (suc n) a h =
    let later = fit_range t q n (a + 1) (omega (arith, h)) in
    (elim (number_at t (take (a + 1) q)) as (λ o. Fit 1 (cons_option (option_map (λ (v : ℤ). (v, a)) o) (filter_map (λ k. option_map (λ (v : ℤ). (v, k)) (number_at t (take (k + 1) q))) (range_with_len (a + 1) n)))) [
      | None ↦ later
      | Some v ↦ (omega (arith, h), later)
    ])

pub fronts_are_short : (t : Tree) (q : List ℕ) → length q < 2 ^ 64 → Fit 1 (front t q)
fronts_are_short t q h = fit_range t q (length q) 0 (omega (arith, h))
