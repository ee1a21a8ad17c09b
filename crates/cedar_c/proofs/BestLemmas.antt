-- Entries whose keys are written one after another.
use Rattle.std.proofs.Common.{◌≡◌, ℕ, zero, suc, ◌+◌, ◌<◌, ◌≤◌, ℤ, List, [], ◌∷◌, ◌++◌, length, map, take, drop, set, get_or, append_assoc, refl, sym, ap, ◌∙◌, arith}
use Rattle.std.specs.declared.vec.Vec.{Vec}
use Rattle.std.proofs.lemmas.List.{append-nil, length-append}
use Rattle.best_few.specs.Orders.{found_entry}
use Rattle.cedar_tree.specs.Queries.{Entry}
use Rattle.cedar_c.specs.Entries.{spots_of}
use Rattle.cedar_c.specs.Pairs.{keys_in}
use Rattle.cedar_c.specs.declared.scans.Found.{Found}

-- the bytes of one key more
pub key_more : (es : List Entry) (at : ℕ) (d : Entry) → at < length es → keys_in (take at es) ++ (get_or es at d).0 ≡ keys_in (take (suc at) es)
key_more [] at d low = absurd (omega (arith, low))
key_more (e ∷ es) zero d low = sym (append-nil e.0)
key_more (e ∷ es) (suc at) d low = append_assoc e.0 (keys_in (take at es)) (get_or es at d).0 ∙ ap (λ x. e.0 ++ x) (key_more es at d (omega (arith, low)))

-- where a key begins, how many bytes it has, and its value
abbrev pub spot_at : ℕ → Entry → Found
spot_at place e = record { place = place; length = length e.0; value = e.1 }

-- one more is written
pub spot_written : (es : List Entry) (xs : List Found) (start at place : ℕ) (d : Entry) → at < length es → length es ≤ length xs → place ≡ start + length (keys_in (take at es))
    → set (spots_of start (take at es) ++ drop at xs) at (spot_at place (get_or es at d)) ≡ spots_of start (take (suc at) es) ++ drop (suc at) xs
spot_written [] xs start at place d low room is = absurd (omega (arith, low))
spot_written (e ∷ es) [] start at place d low room is = absurd (omega (arith, room))
spot_written (e ∷ es) (x ∷ xs) start zero place d low room is = let here : place ≡ start = omega (arith, is) in ap (λ p. spot_at p e ∷ xs) here
spot_written (e ∷ es) (x ∷ xs) start (suc at) place d low room is =
    let long = length-append e.0 (keys_in (take at es)) in
    ap (λ l. spot_at start e ∷ l) (spot_written es xs (start + length e.0) at place d (omega (arith, low)) (omega (arith, room)) (omega (arith, is, long)))

-- a part of the keys has no more bytes than all
pub part_short : (es : List Entry) (at : ℕ) → length (keys_in (take at es)) ≤ length (keys_in es)
part_short [] zero = omega arith
part_short [] (suc at) = omega arith
part_short (e ∷ es) zero = omega arith
part_short (e ∷ es) (suc at) =
    let less = part_short es at in
    let one = length-append e.0 (keys_in (take at es)) in
    let all = length-append e.0 (keys_in es) in
    omega (arith, less, one, all)

pub read_entry : {A : Type 0} (xs : List (ℤ × Vec ℕ A)) (at : ℕ) (d : ℤ × Vec ℕ A) → get_or (map found_entry xs) at (found_entry d) ≡ found_entry (get_or xs at d)
read_entry [] at d = refl
read_entry (x ∷ xs) zero d = refl
read_entry (x ∷ xs) (suc at) d = read_entry xs at d
