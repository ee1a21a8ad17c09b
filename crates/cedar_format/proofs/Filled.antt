-- Lists that are filled up to a length.
use Rattle.std.proofs.Common.{◌≡◌, ℕ, suc, ◌-◌, ◌+◌, ◌≤◌, get_or, List, [], ◌∷◌, ◌++◌, length, take, drop, replicate, arith, refl, sym, ap, ◌∙◌, append-nil, take_all, get_or-drop, take-append-drop, length-append, length-take-le, length-drop}
use Rattle.std.proofs.lemmas.List.{length-replicate, take_at}
use Rattle.cedar_format.specs.Format.{filled_list}
use Rattle.cedar_format.proofs.Apart.{cons_same}

module _ {X : Type 0} (blank : X) where
  -- a list that is blank throughout
  all_blank : (xs : List X) → ((i : ℕ) → get_or xs i blank ≡ blank) → xs ≡ replicate (length xs) blank
  all_blank [] is = refl
  all_blank (x ∷ xs) is = cons_same x blank xs (replicate (length xs) blank) (is 0) (all_blank xs (λ i. is (suc i)))

  -- nothing is missing
  pub filled_all : (n : ℕ) (xs : List X) → length xs ≤ n → xs ≡ filled_list blank (length xs) (take n xs)
  filled_all n xs within =
      let none : length xs - length (take n xs) ≡ 0 = omega (arith, ap length (take_all n xs within)) in
      sym (ap (λ k. take n xs ++ replicate k blank) none ∙ append-nil (take n xs) ∙ take_all n xs within)

  -- what is behind the first n is blank
  pub filled_blank : (n : ℕ) (xs : List X) → n ≤ length xs → ((i : ℕ) → n ≤ i → get_or xs i blank ≡ blank) → xs ≡ filled_list blank (length xs) (take n xs)
  filled_blank n xs within is =
      let rest = all_blank (drop n xs) (λ i. get_or-drop n xs i blank ∙ is (n + i) (omega arith)) in
      let len : length (drop n xs) ≡ length xs - length (take n xs) = omega (arith, length-drop n xs, length-take-le n xs within) in
      sym (take-append-drop n xs) ∙ ap (λ l. take n xs ++ l) (rest ∙ ap (λ k. replicate k blank) len)

  -- what was filled is still there
  pub filled_front : (len n : ℕ) (xs ys : List X) → length xs ≡ n → ys ≡ filled_list blank len xs → take n ys ≡ xs
  filled_front len n xs ys is e = ap (take n) e ∙ take_at xs (replicate (len - length xs) blank) n is

  pub filled_again : (len n : ℕ) (xs ys : List X) → length xs ≡ n → ys ≡ filled_list blank len xs → ys ≡ filled_list blank len (take n ys)
  filled_again len n xs ys is e = e ∙ ap (filled_list blank len) (sym (filled_front len n xs ys is e))

  pub length-filled : (len n : ℕ) (xs ys : List X) → length xs ≡ n → n ≤ len → ys ≡ filled_list blank len xs → length ys ≡ len
  length-filled len n xs ys is within e =
      let whole : length ys ≡ length xs + length (replicate (len - length xs) blank) = ap length e ∙ length-append xs (replicate (len - length xs) blank) in
      omega (arith, whole, length-replicate (len - length xs) blank)
