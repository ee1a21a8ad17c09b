-- What the last member of a prefix walk says of the text.
use Rattle.std.proofs.Common.{◌≡◌, ℕ, zero, suc, ◌+◌, ◌-◌, ◌<◌, ◌≤◌, ℤ, List, length, take, drop, Option, Some, None, option_map, MatchOption, IfSome, refl, sym, ap, ◌∙◌, arith, inl, inr, ◌⊎◌}
use Rattle.std.specs.List.{filter_map, cons_option, range_with_len, last_or}
use Rattle.std.proofs.lemmas.Bool.Decides.{eqb_tells}
use Rattle.cedarwood.specs.Tree.{Tree, number_at}
use Rattle.cedarwood.specs.Queries.{found_at}
use Rattle.cedar_words.specs.Words.{IsLongest, len_of, longest, found_number}

-- no longer front than this is held, up to an end
abbrev NoneFrom : Tree → List ℕ → ℕ → ℕ → Type 0
NoneFrom t q low end = (k : ℕ) → low ≤ k → k < end → number_at t (take (k + 1) q) ≡ None

-- this one is held, and no longer one
abbrev pub IsLast : Tree → List ℕ → ℕ → ℤ × ℕ → Type 0
IsLast t q end found = (found.1 < end) × (number_at t (take (found.1 + 1) q) ≡ Some found.0) × NoneFrom t q (found.1 + 1) end

-- the last one found among the fronts from a position on, where `before` was found already
abbrev Found : Tree → List ℕ → ℕ → ℕ → Option (ℤ × ℕ) → Option (ℤ × ℕ) → Type 0
Found t q low end before last = (NoneFrom t q low end × (last ≡ before)) ⊎ ((found : ℤ × ℕ) × (last ≡ Some found) × IsLast t q end found)

none_from : (t : Tree) (q : List ℕ) (a end : ℕ) → number_at t (take (a + 1) q) ≡ None → NoneFrom t q (a + 1) end → NoneFrom t q a end
none_from t q a end here later k low high = elim (eqb_tells a k) [
  | inl same ↦ ap (λ m. number_at t (take (m + 1) q)) (sym same.1) ∙ here
  | inr other ↦ let differ = other.1 in later k (omega (arith, low, differ)) high
]

last_found : (t : Tree) (q : List ℕ) (n a end : ℕ) (before : Option (ℤ × ℕ)) → a + n ≡ end → Found t q a end before (last_or before (filter_map (found_at t q) (range_with_len a n)))
last_found t q zero a end before e = inl (λ k low high. absurd (omega (arith, e, low, high)), refl)
last_found t q (suc n) a end before e =
    (elim (number_at t (take (a + 1) q)) as (λ o. number_at t (take (a + 1) q) ≡ o → Found t q a end before (last_or before (cons_option (option_map (λ (v : ℤ). (v, a)) o) (filter_map (found_at t q) (range_with_len (a + 1) n))))) [
      | None ↦ λ here. elim (last_found t q n (a + 1) end before (omega (arith, e))) [
        | inl later ↦ inl (none_from t q a end here later.0, later.1)
        | inr later ↦ inr later
      ]
      | Some v ↦ λ here. elim (last_found t q n (a + 1) end (Some (v, a)) (omega (arith, e))) [
        | inl later ↦ inr ((v, a), later.1, (omega (arith, e), here, later.0))
        | inr later ↦ inr later
      ]
    ]) refl

-- the longest front that is held, or that none is
pub longest_is : (t : Tree) (q : List ℕ) → MatchOption (longest t q) (NoneFrom t q 0 (length q)) (IsLast t q (length q))
longest_is t q = elim (last_found t q (length q) 0 (length q) None (omega arith)) [
  | inl missing ↦ rw missing.1 missing.0
  | inr held ↦ rw held.1 held.2
]

-- it is within the text
pub longest_within : (t : Tree) (q : List ℕ) → IfSome (longest t q) (λ found. found.1 < length q)
longest_within t q = (elim (longest t q) as (λ o. MatchOption o (NoneFrom t q 0 (length q)) (IsLast t q (length q)) → IfSome o (λ found. found.1 < length q)) [
  | None ↦ λ _. tt
  | Some found ↦ λ is. is.0
]) (longest_is t q)

-- so a token has no more bytes than are left
pub len_within : (t : Tree) (q : List ℕ) → 0 < length q → len_of (longest t q) ≤ length q
len_within t q h = (elim (longest t q) as (λ o. IfSome o (λ found. found.1 < length q) → len_of o ≤ length q) [
  | None ↦ λ _. omega (arith, h)
  | Some found ↦ λ within. omega (arith, within)
]) (longest_within t q)

-- the token at a position of a text is the longest there
pub token_longest : (t : Tree) (text : List ℕ) (place : ℕ) → 0 < length (drop place text) → IsLongest t text (place, len_of (longest t (drop place text)), found_number (longest t (drop place text)))
token_longest t text place h =
    let q : List ℕ = drop place text in
    (elim (longest t q) as (λ o. MatchOption o (NoneFrom t q 0 (length q)) (IsLast t q (length q)) → IsLongest t text (place, len_of o, found_number o)) [
      | None ↦ λ missing. (missing 0 (omega arith) h, λ n low high. at_length t q n (omega (arith, low)) (missing (n - 1) (omega arith) (omega (arith, low, high))), λ _. refl)
      | Some found ↦ λ is. (is.1, λ n low high. at_length t q n (omega (arith, low)) (is.2 (n - 1) (omega (arith, low)) (omega (arith, low, high))), λ gone. absurd (some_number found.0 gone))
    ]) (longest_is t q)
  where
    at_length : (t : Tree) (q : List ℕ) (n : ℕ) → 0 < n → number_at t (take (n - 1 + 1) q) ≡ None → number_at t (take n q) ≡ None
    at_length t q n some e = let same : n - 1 + 1 ≡ n = omega (arith, some) in ap (λ m. number_at t (take m q)) (sym same) ∙ e

    some_number : (v : ℤ) → Some v ≡ None → ⊥
    some_number v e = absurd (cc)
