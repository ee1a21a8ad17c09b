-- What comes behind a byte string, and behind all that begin with one.
use Rattle.std.proofs.Common.{◌≡◌, ℕ, ◌+◌, ◌-◌, ◌<◌, ◌≤◌, inl, inr, Bool, true, false, not, ◌&&◌, List, [], ◌∷◌, ◌++◌, length, take, get_or, Option, Some, None, refl, sym, ap, ◌∙◌, arith}
use Rattle.std.specs.Prelude.{◌==◌, if◌then◌else◌, nat_eq}
use Rattle.std.specs.Cmp.Lexicographic.{slice_cmp}
use Rattle.std.specs.List.{starts_with}
use Rattle.std.specs.Ordering.{is_ge, is_gt, is_le, is_lt, nat_cmp, ordering_reverse, ordering_then}
use Rattle.std.specs.declared.cmp.Ordering.{Ordering}
use Rattle.std.specs.declared.cmp.Ordering.TheVariants.{Equal, Greater, Less}
use Rattle.std.proofs.lemmas.Bool.{true≢false}
use Rattle.std.proofs.lemmas.Bool.Decides.{eqb_tells}
use Rattle.std.proofs.lemmas.Cmp.{alike_right, by_ranked, nat_cmp_total, nat_list_cmp_total, ranked, tied_itself}
use Rattle.std.proofs.lemmas.List.{take_more}
use Rattle.cedar_tree.specs.Tree.{IsPath}
use Rattle.key_ranges.specs.Spans.{ends_before, follows_prefix, raise_last, successor}

-- ---- two bytes

below : (x y : ℕ) → x < y → nat_cmp x y ≡ Less
below x y h = by_ranked (x < y) (x ≡ y) (y < x) (nat_cmp x y) (ranked x y (nat_cmp x y) refl) (λ e _. e) (λ _ same. absurd (omega (arith, h, same))) (λ _ high. absurd (omega (arith, h, high)))

differ : (x y : ℕ) → (x ≡ y → ⊥) → nat_eq x y ≡ false
differ x y h = elim (eqb_tells x y) [
  | inl same ↦ absurd (h same.1)
  | inr other ↦ other.0
]

alike : (x y : ℕ) → x ≡ y → nat_eq x y ≡ true
alike x y h = elim (eqb_tells x y) [
  | inl same ↦ same.0
  | inr other ↦ absurd (other.1 h)
]

greater : (o : Ordering) → is_gt o ≡ true → o ≡ Greater
greater Less h = absurd (true≢false (sym h))
greater Equal h = absurd (true≢false (sym h))
greater Greater h = refl

less : (o : Ordering) → is_lt o ≡ true → o ≡ Less
less Less h = refl
less Equal h = absurd (true≢false (sym h))
less Greater h = absurd (true≢false (sym h))

-- ---- behind one

pub all_follow : (w : List ℕ) → is_ge (slice_cmp nat_cmp w []) ≡ true
all_follow [] = refl
all_follow (x ∷ xs) = refl

through : (o r s : Ordering) → is_ge r ≡ is_gt s → is_ge (ordering_then o r) ≡ is_gt (ordering_then o s)
through Less r s h = refl
through Equal r s h = h
through Greater r s h = refl

-- what isn't before the first one behind a byte string is behind that
pub from_behind : (w key : List ℕ) → is_ge (slice_cmp nat_cmp w (key ++ 0 ∷ [])) ≡ is_gt (slice_cmp nat_cmp w key)
from_behind [] [] = refl
from_behind (x ∷ xs) [] =
    by_ranked (x < 0) (x ≡ 0) (0 < x) (nat_cmp x 0) (ranked x 0 (nat_cmp x 0) refl)
    (λ _ low. absurd (omega (arith, low)))
    (λ e _. ap (λ o. is_ge (ordering_then o (slice_cmp nat_cmp xs []))) e ∙ all_follow xs)
    (λ e _. ap (λ o. is_ge (ordering_then o (slice_cmp nat_cmp xs []))) e)
from_behind [] (k ∷ ks) = refl
from_behind (x ∷ xs) (k ∷ ks) = through (nat_cmp x k) (slice_cmp nat_cmp xs (ks ++ 0 ∷ [])) (slice_cmp nat_cmp xs ks) (from_behind xs ks)

lt_is : (o : Ordering) → is_lt o ≡ not (is_ge o)
lt_is Less = refl
lt_is Equal = refl
lt_is Greater = refl

le_is : (o : Ordering) → is_le o ≡ not (is_gt o)
le_is Less = refl
le_is Equal = refl
le_is Greater = refl

-- and what is before it isn't
pub before_behind : (w key : List ℕ) → is_lt (slice_cmp nat_cmp w (key ++ 0 ∷ [])) ≡ is_le (slice_cmp nat_cmp w key)
before_behind w key = lt_is (slice_cmp nat_cmp w (key ++ 0 ∷ [])) ∙ ap not (from_behind w key) ∙ sym (le_is (slice_cmp nat_cmp w key))

-- ---- behind a prefix

pub without_highest : (prefix : List ℕ) → successor (prefix ++ 255 ∷ []) ≡ successor prefix
without_highest [] = refl
without_highest (x ∷ xs) = ap (raise_last x) (without_highest xs)

raised_alone : (y : ℕ) → y < 255 → raise_last y None ≡ Some ((y + 1) ∷ [])
raised_alone y low = ap (λ b. if b then None else Some ((y + 1) ∷ [])) (differ y 255 (λ same. omega (arith, low, same)))

pub raised_last : (prefix : List ℕ) (y : ℕ) → y < 255 → successor (prefix ++ y ∷ []) ≡ Some (prefix ++ (y + 1) ∷ [])
raised_last [] y low = raised_alone y low
raised_last (x ∷ xs) y low = ap (raise_last x) (raised_last xs y low)

end_same : (y : ℕ) (end : Option (List ℕ)) (w : List ℕ) → ends_before (raise_last y end) (y ∷ w) ≡ ends_before end w
end_same y None w =
    elim (y == 255) as (λ b. ends_before (if b then None else Some ((y + 1) ∷ [])) (y ∷ w) ≡ true) [
      | true ↦ refl
      | false ↦ ap (λ o. is_lt (ordering_then o (slice_cmp nat_cmp w []))) (below y (y + 1) (omega arith))
    ]
end_same y (Some to) w = ap (λ o. is_lt (ordering_then o (slice_cmp nat_cmp w to))) (tied_itself nat_cmp_total y)

not_below_none : (w : List ℕ) → is_lt (slice_cmp nat_cmp w []) ≡ false
not_below_none [] = refl
not_below_none (x ∷ xs) = refl

end_above : (x y : ℕ) (end : Option (List ℕ)) (w : List ℕ) → y < x → x < 256 → nat_cmp x y ≡ Greater → ends_before (raise_last y end) (x ∷ w) ≡ false
end_above x y None w high low e =
    ap (λ (to : Option (List ℕ)). ends_before to (x ∷ w)) (raised_alone y (omega (arith, high, low)))
    ∙ by_ranked (x < y + 1) (x ≡ y + 1) (y + 1 < x) (nat_cmp x (y + 1)) (ranked x (y + 1) (nat_cmp x (y + 1)) refl)
    (λ _ less. absurd (omega (arith, high, less)))
    (λ same _. ap (λ o. is_lt (ordering_then o (slice_cmp nat_cmp w []))) same ∙ not_below_none w)
    (λ more _. ap (λ o. is_lt (ordering_then o (slice_cmp nat_cmp w []))) more)
end_above x y (Some to) w high low e = ap (λ o. is_lt (ordering_then o (slice_cmp nat_cmp w to))) e

-- what isn't before a prefix, and before what is behind all that begin with it, begins with it
pub prefixed : (w prefix : List ℕ) → IsPath w → (is_ge (slice_cmp nat_cmp w prefix) && ends_before (successor prefix) w) ≡ starts_with nat_eq w prefix
prefixed w [] path = ap (λ b. b && true) (all_follow w)
prefixed [] (y ∷ ys) path = refl
prefixed (x ∷ xs) (y ∷ ys) path =
    by_ranked (x < y) (x ≡ y) (y < x) (nat_cmp x y) (ranked x y (nat_cmp x y) refl)
    (λ e low.
    ap (λ o. is_ge (ordering_then o (slice_cmp nat_cmp xs ys)) && ends_before (raise_last y (successor ys)) (x ∷ xs)) e
    ∙ sym (ap (λ b. b && starts_with nat_eq xs ys) (differ y x (λ same. omega (arith, low, same)))))
    (λ e same.
    ap (λ o. is_ge (ordering_then o (slice_cmp nat_cmp xs ys)) && ends_before (raise_last y (successor ys)) (x ∷ xs)) e
    ∙ ap (λ z. is_ge (slice_cmp nat_cmp xs ys) && ends_before (raise_last y (successor ys)) (z ∷ xs)) same
    ∙ ap (λ b. is_ge (slice_cmp nat_cmp xs ys) && b) (end_same y (successor ys) xs)
    ∙ prefixed xs ys path.2
    ∙ sym (ap (λ b. b && starts_with nat_eq xs ys) (alike y x (sym same))))
    (λ e high.
    ap (λ o. is_ge (ordering_then o (slice_cmp nat_cmp xs ys)) && ends_before (raise_last y (successor ys)) (x ∷ xs)) e
    ∙ end_above x y (successor ys) xs high path.1 e
    ∙ sym (ap (λ b. b && starts_with nat_eq xs ys) (differ y x (λ same. omega (arith, high, same)))))

-- ---- further on

behind_start : (w key from : List ℕ) → slice_cmp nat_cmp key from ≡ Less → is_ge (slice_cmp nat_cmp w from) ≡ true → is_gt (slice_cmp nat_cmp w key) ≡ true
behind_start w key from low at =
    let o = nat_list_cmp_total in
    let high : slice_cmp nat_cmp from key ≡ Greater = o.antisymm from key ∙ ap ordering_reverse low in
    (elim (slice_cmp nat_cmp w from) as (λ r. slice_cmp nat_cmp w from ≡ r → is_ge r ≡ true → is_gt (slice_cmp nat_cmp w key) ≡ true) [
      | Less ↦ λ _ h. absurd (true≢false (sym h))
      | Equal ↦ λ e _. ap is_gt (o.congr w from key e ∙ high)
      | Greater ↦ λ e _.
          let below_w : slice_cmp nat_cmp from w ≡ Less = o.antisymm from w ∙ ap ordering_reverse e in
          ap is_gt (o.antisymm w key ∙ ap ordering_reverse (o.trans key from w low below_w))
    ]) refl at

above_start : (w key from : List ℕ) → is_lt (slice_cmp nat_cmp key from) ≡ false → is_gt (slice_cmp nat_cmp w key) ≡ true → is_ge (slice_cmp nat_cmp w from) ≡ true
above_start w key from not_low behind =
    let o = nat_list_cmp_total in
    let up : slice_cmp nat_cmp w key ≡ Greater = greater (slice_cmp nat_cmp w key) behind in
    let down : slice_cmp nat_cmp key w ≡ Less = o.antisymm key w ∙ ap ordering_reverse up in
    (elim (slice_cmp nat_cmp key from) as (λ r. slice_cmp nat_cmp key from ≡ r → is_lt r ≡ false → is_ge (slice_cmp nat_cmp w from) ≡ true) [
      | Less ↦ λ _ h. absurd (true≢false h)
      | Equal ↦ λ e _. ap is_ge (sym (alike_right o key from w e) ∙ up)
      | Greater ↦ λ e _.
          let low : slice_cmp nat_cmp from key ≡ Less = o.antisymm from key ∙ ap ordering_reverse e in
          ap is_ge (o.antisymm w from ∙ ap ordering_reverse (o.trans from key w low down))
    ]) refl not_low

and_false : (b : Bool) → (b && false) ≡ false
and_false true = refl
and_false false = refl

pub and_true : (b : Bool) → (b && true) ≡ b
and_true true = refl
and_true false = refl

-- a start that isn't before a byte string already leaves out what isn't behind that
pub starts_behind : (w key from : List ℕ) (end : Bool) → is_lt (slice_cmp nat_cmp key from) ≡ true → (is_ge (slice_cmp nat_cmp w from) && end) ≡ ((is_ge (slice_cmp nat_cmp w from) && end) && is_gt (slice_cmp nat_cmp w key))
starts_behind w key from end low =
    (elim (is_ge (slice_cmp nat_cmp w from)) as (λ b. is_ge (slice_cmp nat_cmp w from) ≡ b → (b && end) ≡ ((b && end) && is_gt (slice_cmp nat_cmp w key))) [
      | true ↦ λ at. sym (ap (λ b. end && b) (behind_start w key from (less (slice_cmp nat_cmp key from) low) at) ∙ and_true end)
      | false ↦ λ _. refl
    ]) refl

-- and one that was before it gives way
pub starts_after : (w key from next : List ℕ) (end : Bool) → is_lt (slice_cmp nat_cmp key from) ≡ false → next ≡ key ++ 0 ∷ []
    → (is_ge (slice_cmp nat_cmp w next) && end) ≡ ((is_ge (slice_cmp nat_cmp w from) && end) && is_gt (slice_cmp nat_cmp w key))
starts_after w key from next end not_low is =
    ap (λ n. is_ge (slice_cmp nat_cmp w n) && end) is
    ∙ ap (λ b. b && end) (from_behind w key)
    ∙ (elim (is_gt (slice_cmp nat_cmp w key)) as (λ b. is_gt (slice_cmp nat_cmp w key) ≡ b → (b && end) ≡ ((is_ge (slice_cmp nat_cmp w from) && end) && b)) [
      | true ↦ λ behind. sym (and_true (is_ge (slice_cmp nat_cmp w from) && end) ∙ ap (λ b. b && end) (above_start w key from not_low behind))
      | false ↦ λ _. sym (and_false (is_ge (slice_cmp nat_cmp w from) && end))
    ]) refl

-- ---- how what is behind a prefix is found

last_apart : (len : ℕ) (prefix : List ℕ) → 0 < len → len ≤ length prefix → take len prefix ≡ take (len - 1) prefix ++ get_or prefix (len - 1) 0 ∷ []
last_apart len prefix some within =
    let next : len ≡ len - 1 + 1 = omega (arith, some) in
    ap (λ n. take n prefix) next ∙ take_more prefix (len - 1) 0 (omega (arith, some, within))

-- the highest byte at its end makes no difference
pub one_less : (len : ℕ) (prefix : List ℕ) → 0 < len → len ≤ length prefix → get_or prefix (len - 1) 0 ≡ 255 → successor (take (len - 1) prefix) ≡ successor (take len prefix)
one_less len prefix some within highest =
    sym (ap successor (last_apart len prefix some within ∙ ap (λ b. take (len - 1) prefix ++ b ∷ []) highest) ∙ without_highest (take (len - 1) prefix))

-- and another one is raised
pub one_raised : (len : ℕ) (prefix : List ℕ) → 0 < len → len ≤ length prefix → get_or prefix (len - 1) 0 < 255 → successor (take len prefix) ≡ Some (take (len - 1) prefix ++ (get_or prefix (len - 1) 0 + 1) ∷ [])
one_raised len prefix some within low = ap successor (last_apart len prefix some within) ∙ raised_last (take (len - 1) prefix) (get_or prefix (len - 1) 0) low

-- ---- further back

pub before_both : (w key : List ℕ) (to : Option (List ℕ)) → ends_before to key ≡ true → is_lt (slice_cmp nat_cmp w key) ≡ true → ends_before to w ≡ true
before_both w key None low at = refl
before_both w key (Some to) low at = ap is_lt (nat_list_cmp_total.trans w key to (less (slice_cmp nat_cmp w key) at) (less (slice_cmp nat_cmp key to) low))

-- an end that comes behind a byte string gives way
pub ends_further : (w key : List ℕ) (to : Option (List ℕ)) (from : Bool) → ends_before to key ≡ true → (from && is_lt (slice_cmp nat_cmp w key)) ≡ ((from && ends_before to w) && is_lt (slice_cmp nat_cmp w key))
ends_further w key to from low =
    (elim (is_lt (slice_cmp nat_cmp w key)) as (λ b. is_lt (slice_cmp nat_cmp w key) ≡ b → (from && b) ≡ ((from && ends_before to w) && b)) [
      | true ↦ λ at. sym (and_true (from && ends_before to w) ∙ ap (λ b. from && b) (before_both w key to low at))
      | false ↦ λ _. and_false from ∙ sym (and_false (from && ends_before to w))
    ]) refl

not_before : (w key to : List ℕ) → is_lt (slice_cmp nat_cmp key to) ≡ false → is_lt (slice_cmp nat_cmp w to) ≡ true → is_lt (slice_cmp nat_cmp w key) ≡ true
not_before w key to high at =
    let o = nat_list_cmp_total in
    let low : slice_cmp nat_cmp w to ≡ Less = less (slice_cmp nat_cmp w to) at in
    (elim (slice_cmp nat_cmp key to) as (λ r. slice_cmp nat_cmp key to ≡ r → is_lt r ≡ false → is_lt (slice_cmp nat_cmp w key) ≡ true) [
      | Less ↦ λ _ h. absurd (true≢false h)
      | Equal ↦ λ e _. ap is_lt (alike_right o key to w e ∙ low)
      | Greater ↦ λ e _.
          let up : slice_cmp nat_cmp to key ≡ Less = o.antisymm to key ∙ ap ordering_reverse e in
          ap is_lt (o.trans w to key low up)
    ]) refl high

-- and one that doesn't leaves out already what isn't before that
pub ends_already : (w key : List ℕ) (to : Option (List ℕ)) (from : Bool) → ends_before to key ≡ false → (from && ends_before to w) ≡ ((from && ends_before to w) && is_lt (slice_cmp nat_cmp w key))
ends_already w key None from high = absurd (true≢false high)
ends_already w key (Some to) from high =
    (elim (is_lt (slice_cmp nat_cmp w to)) as (λ b. is_lt (slice_cmp nat_cmp w to) ≡ b → (from && b) ≡ ((from && b) && is_lt (slice_cmp nat_cmp w key))) [
      | true ↦ λ at. sym (ap (λ b. (from && true) && b) (not_before w key to high at) ∙ and_true (from && true))
      | false ↦ λ _. and_false from ∙ sym (ap (λ b. b && is_lt (slice_cmp nat_cmp w key)) (and_false from))
    ]) refl

-- ---- past a prefix

ge_from_gt : (o : Ordering) → is_gt o ≡ true → is_ge o ≡ true
ge_from_gt Less h = absurd (true≢false (sym h))
ge_from_gt Equal h = refl
ge_from_gt Greater h = refl

less_from_ge : (o : Ordering) → is_ge o ≡ false → o ≡ Less
less_from_ge Less h = refl
less_from_ge Equal h = absurd (true≢false h)
less_from_ge Greater h = absurd (true≢false h)

pub ge_is : (o : Ordering) → not (is_lt o) ≡ is_ge o
ge_is Less = refl
ge_is Equal = refl
ge_is Greater = refl

-- at what isn't before a byte string, or after it, nothing comes before that
pub never_before : (w from next : List ℕ) → is_ge (slice_cmp nat_cmp from next) ≡ true → is_ge (slice_cmp nat_cmp w from) ≡ true → is_lt (slice_cmp nat_cmp w next) ≡ false
never_before w from next high at =
    (elim (is_lt (slice_cmp nat_cmp w next)) as (λ b. is_lt (slice_cmp nat_cmp w next) ≡ b → b ≡ false) [
      | true ↦ λ low.
          let less_from : is_lt (slice_cmp nat_cmp from next) ≡ false = lt_is (slice_cmp nat_cmp from next) ∙ ap not high in
          absurd (true≢false (sym (not_before w from next less_from low) ∙ lt_is (slice_cmp nat_cmp w from) ∙ ap not at))
      | false ↦ λ _. refl
    ]) refl

pub follows_is : (w prefix next : List ℕ) → successor prefix ≡ Some next → follows_prefix prefix w ≡ is_ge (slice_cmp nat_cmp w next)
follows_is w prefix next is = ap (λ (to : Option (List ℕ)). not (ends_before to w)) is ∙ ge_is (slice_cmp nat_cmp w next)

-- where nothing comes behind all that begin with a prefix, nothing is left
pub past_all : (w prefix end : List ℕ) (from old : Bool) → successor prefix ≡ None → end ≡ [] → (from && is_lt (slice_cmp nat_cmp w end)) ≡ (old && follows_prefix prefix w)
past_all w prefix end from old none is =
    ap (λ e. from && is_lt (slice_cmp nat_cmp w e)) is
    ∙ ap (λ b. from && b) (not_below_none w)
    ∙ and_false from
    ∙ sym (ap (λ (to : Option (List ℕ)). old && not (ends_before to w)) none ∙ and_false old)

-- a start that already comes behind all of them stays
pub past_already : (w prefix next from : List ℕ) (end : Bool) → successor prefix ≡ Some next → is_ge (slice_cmp nat_cmp from next) ≡ true
    → (is_ge (slice_cmp nat_cmp w from) && end) ≡ ((is_ge (slice_cmp nat_cmp w from) && end) && follows_prefix prefix w)
past_already w prefix next from end is high =
    (elim (is_ge (slice_cmp nat_cmp w from)) as (λ b. is_ge (slice_cmp nat_cmp w from) ≡ b → (b && end) ≡ ((b && end) && follows_prefix prefix w)) [
      | true ↦ λ at.
          let passing : follows_prefix prefix w ≡ true = ap (λ (to : Option (List ℕ)). not (ends_before to w)) is ∙ ap not (never_before w from next high at) in
          sym (ap (λ b. end && b) passing ∙ and_true end)
      | false ↦ λ _. refl
    ]) refl

-- and one that doesn't gives way
pub past_further : (w prefix next from : List ℕ) (end : Bool) → successor prefix ≡ Some next → is_ge (slice_cmp nat_cmp from next) ≡ false
    → (is_ge (slice_cmp nat_cmp w next) && end) ≡ ((is_ge (slice_cmp nat_cmp w from) && end) && follows_prefix prefix w)
past_further w prefix next from end is low =
    (elim (is_ge (slice_cmp nat_cmp w next)) as (λ b. is_ge (slice_cmp nat_cmp w next) ≡ b → (b && end) ≡ ((is_ge (slice_cmp nat_cmp w from) && end) && b)) [
      | true ↦ λ at.
          let behind = ge_from_gt (slice_cmp nat_cmp w from) (behind_start w from next (less_from_ge (slice_cmp nat_cmp from next) low) at) in
          sym (and_true (is_ge (slice_cmp nat_cmp w from) && end) ∙ ap (λ b. b && end) behind)
      | false ↦ λ _. sym (and_false (is_ge (slice_cmp nat_cmp w from) && end))
    ]) refl
    ∙ sym (ap (λ b. (is_ge (slice_cmp nat_cmp w from) && end) && b) (follows_is w prefix next is))
