-- Lists of records of one length, one after another.
use Rattle.std.proofs.Common.{◌≡◌, ℕ, ◌+◌, ◌*◌, List, [], ◌∷◌, length, arith, length-append}
use Rattle.std.proofs.Math.Nat.{add-mul}
use Rattle.std.specs.List.{flat_map}

pub length-flat_map_same : {X : Type 0} (f : X → List ℕ) (n : ℕ) → ((x : X) → length (f x) ≡ n) → (xs : List X) → length (flat_map f xs) ≡ length xs * n
length-flat_map_same f n same [] = omega arith
length-flat_map_same f n same (x ∷ xs) =
    let rest = length-flat_map_same f n same xs in
    let first = same x in
    let whole = length-append (f x) (flat_map f xs) in
    let more : (length xs + 1) * n ≡ length xs * n + 1 * n = add-mul (length xs) 1 n in
    omega (arith, rest, first, whole, more)
