-- Byte strings that begin with the same bytes, and what comes behind them.
use Rattle.std.proofs.Common.{◌≡◌, ℕ, zero, suc, ◌+◌, ◌<◌, ◌≤◌, true, false, List, [], ◌∷◌, ◌++◌, length, take, drop, get_or, refl, sym, ap, ◌∙◌, arith}
use Rattle.std.specs.Cmp.Lexicographic.{slice_cmp}
use Rattle.std.specs.Ordering.{is_ge, is_gt, is_lt, nat_cmp, ordering_reverse, ordering_then}
use Rattle.std.specs.declared.cmp.Ordering.{Ordering}
use Rattle.std.specs.declared.cmp.Ordering.TheVariants.{Equal, Greater, Less}
use Rattle.std.proofs.lemmas.Bool.{true≢false}
use Rattle.std.proofs.lemmas.Cmp.{by_ranked, nat_cmp_total, nat_list_cmp_total, ranked, tied_itself}
use Rattle.cedar_tree.specs.Tree.{IsPath}
use Rattle.last_entries.specs.Nearness.{GoesOnFrom}

-- ---- orderings

pub less_is : (o : Ordering) → is_lt o ≡ true → o ≡ Less
less_is Less h = refl
less_is Equal h = absurd (true≢false (sym h))
less_is Greater h = absurd (true≢false (sym h))

pub greater_is : (o : Ordering) → is_gt o ≡ true → o ≡ Greater
greater_is Less h = absurd (true≢false (sym h))
greater_is Equal h = absurd (true≢false (sym h))
greater_is Greater h = refl

-- what isn't at a byte string or after it comes before it
pub not_from : (o : Ordering) → is_ge o ≡ false → o ≡ Less
not_from Less h = refl
not_from Equal h = absurd (true≢false h)
not_from Greater h = absurd (true≢false h)

pub gt_from_less : (v w : List ℕ) → slice_cmp nat_cmp v w ≡ Less → is_gt (slice_cmp nat_cmp w v) ≡ true
gt_from_less v w h = ap is_gt (nat_list_cmp_total.antisymm w v ∙ ap ordering_reverse h)

pub less_from_gt : (v w : List ℕ) → is_gt (slice_cmp nat_cmp w v) ≡ true → slice_cmp nat_cmp v w ≡ Less
less_from_gt v w h = nat_list_cmp_total.antisymm v w ∙ ap ordering_reverse (greater_is (slice_cmp nat_cmp w v) h)

-- behind what is behind
pub behind_both : (v w z : List ℕ) → slice_cmp nat_cmp v w ≡ Less → is_gt (slice_cmp nat_cmp z w) ≡ true → is_gt (slice_cmp nat_cmp z v) ≡ true
behind_both v w z low h = gt_from_less v z (nat_list_cmp_total.trans v w z low (less_from_gt w z h))

-- at one that is behind another one, or after it
pub from_behind_one : (v w z : List ℕ) → slice_cmp nat_cmp v w ≡ Less → is_ge (slice_cmp nat_cmp z w) ≡ true → is_gt (slice_cmp nat_cmp z v) ≡ true
from_behind_one v w z low h =
    (elim (slice_cmp nat_cmp z w) as (λ o. slice_cmp nat_cmp z w ≡ o → is_ge o ≡ true → is_gt (slice_cmp nat_cmp z v) ≡ true) [
      | Less ↦ λ _ e. absurd (true≢false (sym e))
      | Equal ↦ λ is _. ap is_gt (nat_list_cmp_total.congr z w v is ∙ nat_list_cmp_total.antisymm w v ∙ ap ordering_reverse low)
      | Greater ↦ λ is _. behind_both v w z low (ap is_gt is)
    ]) refl h

-- ---- fronts

pub same_front : (front v w : List ℕ) → slice_cmp nat_cmp (front ++ v) (front ++ w) ≡ slice_cmp nat_cmp v w
same_front [] v w = refl
same_front (x ∷ xs) v w = ap (λ o. ordering_then o (slice_cmp nat_cmp (xs ++ v) (xs ++ w))) (tied_itself nat_cmp_total x) ∙ same_front xs v w

pub path_behind : (front v : List ℕ) → IsPath (front ++ v) → IsPath v
path_behind [] v path = path
path_behind (x ∷ xs) v path = path_behind xs v path.2

below : (x y : ℕ) → x < y → nat_cmp x y ≡ Less
below x y h = by_ranked (x < y) (x ≡ y) (y < x) (nat_cmp x y) (ranked x y (nat_cmp x y) refl) (λ e _. e) (λ _ same. absurd (omega (arith, h, same))) (λ _ high. absurd (omega (arith, h, high)))

-- no byte of a path is above 255
pub below_all : (v : List ℕ) → IsPath v → slice_cmp nat_cmp v (256 ∷ []) ≡ Less
below_all [] path = refl
below_all (x ∷ xs) path = ap (λ o. ordering_then o (slice_cmp nat_cmp xs [])) (below x 256 path.1)

-- what is behind a byte string, and not above its first byte, has that byte
pub has_byte : (c : ℕ) (rest v : List ℕ) → is_gt (slice_cmp nat_cmp v (c ∷ rest)) ≡ true → slice_cmp nat_cmp v ((c + 1) ∷ []) ≡ Less → GoesOnFrom (c ∷ []) v
has_byte c rest [] behind low = absurd (true≢false (sym behind))
has_byte c rest (x ∷ xs) behind low =
    by_ranked (x < c) (x ≡ c) (c < x) (nat_cmp x c) (ranked x c (nat_cmp x c) refl)
    (λ e _. absurd (true≢false (sym (sym (ap (λ o. is_gt (ordering_then o (slice_cmp nat_cmp xs rest))) e) ∙ behind))))
    (λ _ same. (xs, ap (λ b. b ∷ xs) same))
    (λ _ high.
    by_ranked (x < c + 1) (x ≡ c + 1) (c + 1 < x) (nat_cmp x (c + 1)) (ranked x (c + 1) (nat_cmp x (c + 1)) refl)
    (λ _ less. absurd (omega (arith, high, less)))
    (λ e _. absurd (true≢false (ap is_lt (sym low ∙ ap (λ o. ordering_then o (slice_cmp nat_cmp xs [])) e) ∙ not_below xs)))
    (λ e _. absurd (true≢false (ap is_lt (sym low ∙ ap (λ o. ordering_then o (slice_cmp nat_cmp xs [])) e)))))
  where
    not_below : (w : List ℕ) → is_lt (slice_cmp nat_cmp w []) ≡ false
    not_below [] = refl
    not_below (y ∷ ys) = refl

-- a byte string that isn't before a byte, nor above another one, has a byte, and no higher one
pub has_some_byte : (b highest : ℕ) (v : List ℕ) → is_ge (slice_cmp nat_cmp v (b ∷ [])) ≡ true → slice_cmp nat_cmp v ((highest + 1) ∷ []) ≡ Less → (0 < length v) × (get_or v 0 0 ≤ highest)
has_some_byte b highest [] from low = absurd (true≢false (sym from))
has_some_byte b highest (x ∷ xs) from low =
    by_ranked (x < highest + 1) (x ≡ highest + 1) (highest + 1 < x) (nat_cmp x (highest + 1)) (ranked x (highest + 1) (nat_cmp x (highest + 1)) refl)
    (λ _ less. (omega arith, omega (arith, less)))
    (λ e _. absurd (true≢false (ap is_lt (sym low ∙ ap (λ o. ordering_then o (slice_cmp nat_cmp xs [])) e) ∙ not_below xs)))
    (λ e _. absurd (true≢false (ap is_lt (sym low ∙ ap (λ o. ordering_then o (slice_cmp nat_cmp xs [])) e))))
  where
    not_below : (w : List ℕ) → is_lt (slice_cmp nat_cmp w []) ≡ false
    not_below [] = refl
    not_below (y ∷ ys) = refl

-- a byte that is raised leads behind all with the byte itself
pub raised_behind : (c b : ℕ) (rest : List ℕ) → c < b → slice_cmp nat_cmp (c ∷ rest) (b ∷ []) ≡ Less
raised_behind c b rest h = ap (λ o. ordering_then o (slice_cmp nat_cmp rest [])) (below c b h)

-- ---- a byte string apart

pub apart : (d : ℕ) (w : List ℕ) → w ≡ take d w ++ drop d w
apart zero w = refl
apart (suc d) [] = refl
apart (suc d) (x ∷ xs) = ap (λ zs. x ∷ zs) (apart d xs)

pub byte_apart : (d : ℕ) (w : List ℕ) → d < length w → drop d w ≡ get_or w d 0 ∷ drop (d + 1) w
byte_apart zero [] h = absurd (omega (arith, h))
byte_apart zero (x ∷ xs) h = refl
byte_apart (suc d) [] h = absurd (omega (arith, h))
byte_apart (suc d) (x ∷ xs) h =
    let next : suc d + 1 ≡ suc (d + 1) = omega arith in
    byte_apart d xs (omega (arith, h)) ∙ ap (λ n. get_or xs d 0 ∷ drop n (x ∷ xs)) (sym next)

pub take_of_front : (front rest : List ℕ) (d : ℕ) → length front ≡ d → take d (front ++ rest) ≡ front
take_of_front [] rest zero h = refl
take_of_front [] rest (suc d) h = absurd (omega (arith, h))
take_of_front (x ∷ xs) rest zero h = absurd (omega (arith, h))
take_of_front (x ∷ xs) rest (suc d) h = ap (λ zs. x ∷ zs) (take_of_front xs rest d (omega (arith, h)))

pub byte_of_front : (front rest : List ℕ) (d : ℕ) → length front ≡ d → get_or (front ++ rest) d 0 ≡ get_or rest 0 0
byte_of_front [] rest zero h = refl
byte_of_front [] rest (suc d) h = absurd (omega (arith, h))
byte_of_front (x ∷ xs) rest zero h = absurd (omega (arith, h))
byte_of_front (x ∷ xs) rest (suc d) h = byte_of_front xs rest d (omega (arith, h))

pub length_of_front : (front rest : List ℕ) → length (front ++ rest) ≡ length front + length rest
length_of_front [] rest = omega arith
length_of_front (x ∷ xs) rest = let more = length_of_front xs rest in omega (arith, more)

pub joined_again : (front : List ℕ) (c : ℕ) (rest : List ℕ) → front ++ c ∷ rest ≡ (front ++ c ∷ []) ++ rest
joined_again [] c rest = refl
joined_again (x ∷ xs) c rest = ap (λ zs. x ∷ zs) (joined_again xs c rest)
