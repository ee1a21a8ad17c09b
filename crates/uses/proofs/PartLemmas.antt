-- Parts of a text collected one after another, for what was found in it.
use Rattle.std.proofs.Common.{◌≡◌, ◌∙◌, ℕ, ◌+◌, ◌-◌, List, [], ◌∷◌, ◌++◌, take, drop, map, sym, ap, arith, append-nil}
use Rattle.std.proofs.lemmas.List.{append_assoc, map-append}

-- one more is collected, and one fewer is to come
pub part_more : {X Y Z : Type 0} (f : X → Y) (g : Z → Y) (found more : List X) (x : X) (z : Z) (left later : List Z) (wanted : List Y)
    → map f found ++ map g left ≡ wanted → left ≡ z ∷ later → more ≡ found ++ x ∷ [] → f x ≡ g z → map f more ++ map g later ≡ wanted
part_more {X} {Y} {Z} f g found more x z left later wanted so_far first pushed is =
    ap (λ (xs : List X). map f xs ++ map g later) pushed
    ∙ ap (λ (ys : List Y). ys ++ map g later) (map-append f found (x ∷ []))
    ∙ append_assoc (map f found) (f x ∷ []) (map g later)
    ∙ ap (λ (y : Y). map f found ++ y ∷ map g later) is
    ∙ ap (λ (zs : List Z). map f found ++ map g zs) (sym first)
    ∙ so_far

-- none is to come
pub all_parts : {X Y Z : Type 0} (f : X → Y) (g : Z → Y) (found : List X) (left : List Z) (wanted : List Y) → map f found ++ map g left ≡ wanted → left ≡ [] → map f found ≡ wanted
all_parts {X} {Y} {Z} f g found left wanted so_far none =
    sym (append-nil (map f found)) ∙ ap (λ (zs : List Z). map f found ++ map g zs) (sym none) ∙ so_far

-- so many bytes from a position on, as a slice of a text
pub part_is : (text : List ℕ) (start len : ℕ) → take (start + len - start) (drop start text) ≡ take len (drop start text)
part_is text start len = let bytes : start + len - start ≡ len = omega arith in ap (λ n. take n (drop start text)) bytes
