-- Entries collected one after another, so many at most.
use Rattle.std.proofs.Common.{◌≡◌, ◌<◌, ◌+◌, ◌∙◌, ℕ, zero, suc, ℤ, List, [], ◌∷◌, ◌++◌, take, map, refl, sym, ap, subst, arith, append-nil}
use Rattle.std.proofs.lemmas.List.{append_assoc, map-append}
use Rattle.cedarwood.specs.Queries.{Entry}

suc_is : (m n : ℕ) → m + 1 ≡ n → suc m ≡ n
suc_is m n h = omega (arith, h)

-- one more is collected, and one fewer is to come
pub one_more : {X : Type 0} (f : X → Entry) (found : List X) (x : X) (n m : ℕ) (rest later wanted : List Entry) → map f found ++ take n rest ≡ wanted → rest ≡ f x ∷ later → m + 1 ≡ n
    → map f (found ++ x ∷ []) ++ take m later ≡ wanted
one_more f found x n m rest later wanted so_far first fewer =
    let count : m + 1 ≡ n = fewer in
    ap (λ (ys : List Entry). ys ++ take m later) (map-append f found (x ∷ []))
    ∙ append_assoc (map f found) (f x ∷ []) (take m later)
    ∙ subst (λ (k : ℕ). map f found ++ f x ∷ take m later ≡ map f found ++ take k (f x ∷ later)) (suc_is m n count) refl
    ∙ ap (λ (r : List Entry). map f found ++ take n r) (sym first)
    ∙ so_far

-- none is to come
pub all_found : {X : Type 0} (f : X → Entry) (found : List X) (n : ℕ) (rest wanted : List Entry) → map f found ++ take n rest ≡ wanted → (0 < n → rest ≡ []) → map f found ≡ wanted
all_found f found zero rest wanted so_far none = sym (append-nil (map f found)) ∙ so_far
all_found f found (suc n) rest wanted so_far none =
    sym (append-nil (map f found)) ∙ ap (λ (r : List Entry). map f found ++ take (suc n) r) (sym (none (omega arith))) ∙ so_far
