-- How a search comes nearer to the last of some entries.
use Rattle.std.proofs.Common.{◌≡◌, ℕ, zero, suc, ◌+◌, ◌-◌, ◌<◌, ◌≤◌, inl, inr, Bool, true, false, cond, ℤ, List, [], ◌∷◌, ◌++◌, length, take, drop, get_or, None, Option, Some, refl, sym, ap, ◌∙◌, subst, arith}
use Rattle.std.specs.Prelude.{filter}
use Rattle.std.specs.Cmp.Lexicographic.{slice_cmp}
use Rattle.std.specs.List.{AllByRecursion, sum_by}
use Rattle.std.specs.Ordering.{is_ge, is_gt, is_lt, nat_cmp, ordering_then}
use Rattle.std.specs.declared.cmp.Ordering.TheVariants.{Less}
use Rattle.std.proofs.lemmas.Bool.{true≢false}
use Rattle.std.proofs.lemmas.Cmp.{nat_cmp_total, nat_list_cmp_total, tied_itself}
use Rattle.std.proofs.lemmas.List.{length-take-le, take_all, take_more}
use Rattle.std.proofs.lemmas.List.Sums.{sum_by-cons}
use Rattle.cedar_tree.specs.Laws.{ArePathsKeys}
use Rattle.cedar_tree.specs.Queries.{Entry}
use Rattle.cedar_tree.specs.Tree.{IsKey, IsPath}
use Rattle.key_ranges.specs.Spans.{ends_before}
use Rattle.cedar_tree.proofs.TreeLemmas.{key_is_path}
use Rattle.key_ranges.proofs.EntryRangeLemmas.{Rises, rises, same_tests, some_rise}
use Rattle.key_ranges.proofs.SpanLemmas.{all_follow, from_behind}
use Rattle.last_entries.specs.Nearness.{before_end, GoesOnFrom, behind_key, far, from_on, AscendByKeys, IsNearBy, IsOneOf}
use Rattle.last_entries.proofs.PathLemmas.{apart, behind_both, below_all, byte_apart, byte_of_front, from_behind_one, gt_from_less, has_byte, has_some_byte, joined_again, length_of_front, less_from_gt, less_is, not_from, path_behind, raised_behind, same_front, take_of_front}

-- ---- lists of which something holds

pub all_of_some : (P Q : Entry → Type 0) (es : List Entry) → ((e : Entry) → P e → Q e) → AllByRecursion P es → AllByRecursion Q es
all_of_some P Q [] f all = tt
all_of_some P Q (e ∷ es) f all = (f e all.0, all_of_some P Q es f all.1)

-- a test that is stricter leaves some of those
fewer : (P : Entry → Type 0) (p q : List ℕ → Bool) (es : List Entry) → ((w : List ℕ) → p w ≡ true → q w ≡ true) → AllByRecursion P (filter (λ e. q e.0) es) → AllByRecursion P (filter (λ e. p e.0) es)
fewer P p q [] sub all = tt
fewer P p q (e ∷ es) sub all =
    (elim (p e.0) as (λ b. p e.0 ≡ b → AllByRecursion P (cond b (e ∷ filter (λ x. p x.0) es) (filter (λ x. p x.0) es))) [
      | true ↦ λ is. let held = subst (λ b. AllByRecursion P (cond b (e ∷ filter (λ x. q x.0) es) (filter (λ x. q x.0) es))) (sub e.0 is) all in (held.0, fewer P p q es sub held.1)
      | false ↦ λ _. fewer P p q es sub (later P q e es all)
    ]) refl
  where
    later : (P : Entry → Type 0) (q : List ℕ → Bool) (e : Entry) (es : List Entry) → AllByRecursion P (filter (λ x. q x.0) (e ∷ es)) → AllByRecursion P (filter (λ x. q x.0) es)
    later P q e es = elim (q e.0) as (λ b. AllByRecursion P (cond b (e ∷ filter (λ x. q x.0) es) (filter (λ x. q x.0) es)) → AllByRecursion P (filter (λ x. q x.0) es)) [
      | true ↦ λ all. all.1
      | false ↦ λ all. all
    ]

-- nothing passes a test exactly where it fails at each
none_pass : (test : List ℕ → Bool) (es : List Entry) → filter (λ e. test e.0) es ≡ [] → AllByRecursion (λ e. test e.0 ≡ false) es
none_pass test [] is = tt
none_pass test (e ∷ es) is =
    (elim (test e.0) as (λ b. test e.0 ≡ b → cond b (e ∷ filter (λ x. test x.0) es) (filter (λ x. test x.0) es) ≡ [] → AllByRecursion (λ x. test x.0 ≡ false) (e ∷ es)) [
      | true ↦ λ _ none. absurd (let long = ap length none in omega (arith, long))
      | false ↦ λ fails none. (fails, none_pass test es none)
    ]) refl is

some_of : (P : Entry → Type 0) (test : List ℕ → Bool) (es : List Entry) → AllByRecursion P es → AllByRecursion P (filter (λ e. test e.0) es)
some_of P test [] all = tt
some_of P test (e ∷ es) all = elim (test e.0) as (λ b. AllByRecursion P (cond b (e ∷ filter (λ x. test x.0) es) (filter (λ x. test x.0) es))) [
  | true ↦ (all.0, some_of P test es all.1)
  | false ↦ some_of P test es all.1
]

-- what is first of what passes is one of all, and passes
pub first_passes : (test : List ℕ → Bool) (es : List Entry) (g : Entry) (rest : List Entry) → filter (λ e. test e.0) es ≡ g ∷ rest → IsOneOf g es × (test g.0 ≡ true)
first_passes test [] g rest is = absurd (let long = ap length is in omega (arith, long))
first_passes test (e ∷ es) g rest is =
    (elim (test e.0) as (λ b. test e.0 ≡ b → cond b (e ∷ filter (λ x. test x.0) es) (filter (λ x. test x.0) es) ≡ g ∷ rest → IsOneOf g (e ∷ es) × (test g.0 ≡ true)) [
      | true ↦ λ holds same.
          let heads : e ≡ g = ap (λ zs. get_or zs 0 e) same in
          (inl heads, ap (λ x. test x.0) (sym heads) ∙ holds)
      | false ↦ λ _ same. let more = first_passes test es g rest same in (inr more.0, more.1)
    ]) refl is

one_of_all : (P : Entry → Type 0) (es : List Entry) (g : Entry) → IsOneOf g es → AllByRecursion P es → P g
one_of_all P [] g one all = absurd one
one_of_all P (e ∷ es) g (inl same) all = subst P same all.0
one_of_all P (e ∷ es) g (inr more) all = one_of_all P es g more all.1

-- one of all that passes is one of what passes
passes_one : (test : List ℕ → Bool) (es : List Entry) (g : Entry) → IsOneOf g es → test g.0 ≡ true → IsOneOf g (filter (λ e. test e.0) es)
passes_one test [] g one is = absurd one
passes_one test (e ∷ es) g (inl same) is =
    subst (λ b. IsOneOf g (cond b (e ∷ filter (λ x. test x.0) es) (filter (λ x. test x.0) es))) (sym (ap (λ x. test x.0) same ∙ is)) (inl same)
passes_one test (e ∷ es) g (inr more) is =
    elim (test e.0) as (λ b. IsOneOf g (cond b (e ∷ filter (λ x. test x.0) es) (filter (λ x. test x.0) es))) [
      | true ↦ inr (passes_one test es g more is)
      | false ↦ passes_one test es g more is
    ]

-- ---- how much is left

sum_fewer : (p q : List ℕ → Bool) (es : List Entry) → ((w : List ℕ) → p w ≡ true → q w ≡ true) → sum_by (λ e. length e.0 + 1) (filter (λ e. p e.0) es) ≤ sum_by (λ e. length e.0 + 1) (filter (λ e. q e.0) es)
sum_fewer p q [] sub = omega arith
sum_fewer p q (e ∷ es) sub =
    let more = sum_fewer p q es sub in
    let one = sum_by-cons (λ (x : Entry). length x.0 + 1) e (filter (λ x. p x.0) es) in
    let two = sum_by-cons (λ (x : Entry). length x.0 + 1) e (filter (λ x. q x.0) es) in
    (elim (p e.0) as (λ b. p e.0 ≡ b → sum_by (λ x. length x.0 + 1) (cond b (e ∷ filter (λ x. p x.0) es) (filter (λ x. p x.0) es)) ≤ sum_by (λ x. length x.0 + 1) (cond (q e.0) (e ∷ filter (λ x. q x.0) es) (filter (λ x. q x.0) es))) [
      | true ↦ λ is.
          subst (λ b. sum_by (λ x. length x.0 + 1) (e ∷ filter (λ x. p x.0) es) ≤ sum_by (λ x. length x.0 + 1) (cond b (e ∷ filter (λ x. q x.0) es) (filter (λ x. q x.0) es))) (sym (sub e.0 is)) (omega (arith, more, one, two))
      | false ↦ λ _.
          elim (q e.0) as (λ b. sum_by (λ x. length x.0 + 1) (filter (λ x. p x.0) es) ≤ sum_by (λ x. length x.0 + 1) (cond b (e ∷ filter (λ x. q x.0) es) (filter (λ x. q x.0) es))) [
            | true ↦ omega (arith, more, two)
            | false ↦ more
          ]
    ]) refl

-- where one entry passes the one test alone, the others weigh that much less
sum_less : (p q : List ℕ → Bool) (es : List Entry) (g : Entry) → ((w : List ℕ) → p w ≡ true → q w ≡ true) → IsOneOf g es → p g.0 ≡ false → q g.0 ≡ true
    → sum_by (λ e. length e.0 + 1) (filter (λ e. p e.0) es) + (length g.0 + 1) ≤ sum_by (λ e. length e.0 + 1) (filter (λ e. q e.0) es)
sum_less p q [] g sub one fails passing = absurd one
sum_less p q (e ∷ es) g sub (inl same) fails passing =
    let more = sum_fewer p q es sub in
    let two = sum_by-cons (λ (x : Entry). length x.0 + 1) e (filter (λ x. q x.0) es) in
    let long = ap (λ (x : Entry). length x.0) same in
    let p_no : p e.0 ≡ false = ap (λ (x : Entry). p x.0) same ∙ fails in
    let q_yes : q e.0 ≡ true = ap (λ (x : Entry). q x.0) same ∙ passing in
    subst (λ b. sum_by (λ x. length x.0 + 1) (cond b (e ∷ filter (λ x. p x.0) es) (filter (λ x. p x.0) es)) + (length g.0 + 1) ≤ sum_by (λ x. length x.0 + 1) (cond (q e.0) (e ∷ filter (λ x. q x.0) es) (filter (λ x. q x.0) es))) (sym p_no)
    (subst (λ b. sum_by (λ x. length x.0 + 1) (filter (λ x. p x.0) es) + (length g.0 + 1) ≤ sum_by (λ x. length x.0 + 1) (cond b (e ∷ filter (λ x. q x.0) es) (filter (λ x. q x.0) es))) (sym q_yes)
    (omega (arith, more, two, long)))
sum_less p q (e ∷ es) g sub (inr later) fails passing =
    let more = sum_less p q es g sub later fails passing in
    let one = sum_by-cons (λ (x : Entry). length x.0 + 1) e (filter (λ x. p x.0) es) in
    let two = sum_by-cons (λ (x : Entry). length x.0 + 1) e (filter (λ x. q x.0) es) in
    (elim (p e.0) as (λ b. p e.0 ≡ b → sum_by (λ x. length x.0 + 1) (cond b (e ∷ filter (λ x. p x.0) es) (filter (λ x. p x.0) es)) + (length g.0 + 1) ≤ sum_by (λ x. length x.0 + 1) (cond (q e.0) (e ∷ filter (λ x. q x.0) es) (filter (λ x. q x.0) es))) [
      | true ↦ λ is.
          subst (λ b. sum_by (λ x. length x.0 + 1) (e ∷ filter (λ x. p x.0) es) + (length g.0 + 1) ≤ sum_by (λ x. length x.0 + 1) (cond b (e ∷ filter (λ x. q x.0) es) (filter (λ x. q x.0) es))) (sym (sub e.0 is)) (omega (arith, more, one, two))
      | false ↦ λ _.
          elim (q e.0) as (λ b. sum_by (λ x. length x.0 + 1) (filter (λ x. p x.0) es) + (length g.0 + 1) ≤ sum_by (λ x. length x.0 + 1) (cond b (e ∷ filter (λ x. q x.0) es) (filter (λ x. q x.0) es))) [
            | true ↦ omega (arith, more, two)
            | false ↦ more
          ]
    ]) refl

-- ---- paths

pub all_hold : (P : Entry → Type 0) (es : List Entry) → ((e : Entry) → P e) → AllByRecursion P es
all_hold P [] f = tt
all_hold P (e ∷ es) f = (f e, all_hold P es f)

pub all_paths : (es : List Entry) → ArePathsKeys es → AllByRecursion (λ e. IsPath e.0) es
all_paths es keys = all_of_some (λ e. IsKey e.0) (λ e. IsPath e.0) es (λ e key. key_is_path e.0 key) keys

byte_of_path : (w : List ℕ) (d : ℕ) → IsPath w → get_or w d 0 < 256
byte_of_path [] d path = omega arith
byte_of_path (x ∷ xs) zero path = path.1
byte_of_path (x ∷ xs) (suc d) path = byte_of_path xs d path.2

no_higher : (front : List ℕ) (es : List Entry) → AllByRecursion (λ e. IsPath e.0) es → AllByRecursion (λ e. GoesOnFrom front e.0) es → AllByRecursion (λ e. slice_cmp nat_cmp e.0 (front ++ 256 ∷ []) ≡ Less) es
no_higher front [] paths all = tt
no_higher front (e ∷ es) paths all =
    let rest = all.0.0 in
    let is = all.0.1 in (
      ap (λ w. slice_cmp nat_cmp w (front ++ 256 ∷ [])) is ∙ same_front front rest (256 ∷ []) ∙ below_all rest (path_behind front rest (subst IsPath is paths.0)),
      no_higher front es paths.1 all.1,
    )

-- ---- the steps of a search

pub begins : (es : List Entry) (key : List ℕ) (value : ℤ) (rest : List Entry) → ArePathsKeys es → es ≡ (key, value) ∷ rest → IsNearBy es key value 0 255
begins es key value rest keys is =
    let paths = all_paths es keys in
    let some = some_of (λ e. IsPath e.0) (λ w. is_gt (slice_cmp nat_cmp w key)) es paths in
    let all = all_hold (λ e. GoesOnFrom [] e.0) (behind_key key es) (λ e. (e.0, refl)) in
    let one : IsOneOf (key, value) es = subst (IsOneOf (key, value)) (sym is) (inl refl) in
    let path : IsPath key = one_of_all (λ e. IsPath e.0) es (key, value) one paths in
    let low = byte_of_path key 0 path in
    record {
      held = one;
      within = omega arith;
      same = all;
      before = no_higher [] (behind_key key es) some all;
      low = λ _. omega (arith, low);
      small = omega arith;
    }

one_deeper : (w key : List ℕ) (d highest : ℕ) → d < length key → get_or key d 0 ≡ highest → GoesOnFrom (take d key) w → slice_cmp nat_cmp w (take d key ++ (highest + 1) ∷ []) ≡ Less
    → is_gt (slice_cmp nat_cmp w key) ≡ true → GoesOnFrom (take (d + 1) key) w
one_deeper w key d highest within is front before behind =
    let c = get_or key d 0 in
    let rest = front.0 in
    let parted : key ≡ take d key ++ c ∷ drop (d + 1) key = apart d key ∙ ap (λ zs. take d key ++ zs) (byte_apart d key within) in
    let low : slice_cmp nat_cmp rest ((c + 1) ∷ []) ≡ Less =
    ap (λ n. slice_cmp nat_cmp rest ((n + 1) ∷ [])) is
    ∙ sym (same_front (take d key) rest ((highest + 1) ∷ []))
    ∙ sym (ap (λ z. slice_cmp nat_cmp z (take d key ++ (highest + 1) ∷ [])) front.1)
    ∙ before in
    let high : is_gt (slice_cmp nat_cmp rest (c ∷ drop (d + 1) key)) ≡ true =
    ap is_gt (sym (same_front (take d key) rest (c ∷ drop (d + 1) key)))
    ∙ sym (ap (λ z. is_gt (slice_cmp nat_cmp z (take d key ++ c ∷ drop (d + 1) key))) front.1)
    ∙ sym (ap (λ z. is_gt (slice_cmp nat_cmp w z)) parted)
    ∙ behind in
    let byte = has_byte c (drop (d + 1) key) rest high low in (
      byte.0,
      front.1
          ∙ ap (λ zs. take d key ++ zs) byte.1
          ∙ joined_again (take d key) c byte.0
          ∙ ap (λ zs. zs ++ byte.0) (sym (take_more key d 0 within)),
    )

all_deeper : (es : List Entry) (key : List ℕ) (d highest : ℕ) → d < length key → get_or key d 0 ≡ highest → AllByRecursion (λ e. GoesOnFrom (take d key) e.0) es
    → AllByRecursion (λ e. slice_cmp nat_cmp e.0 (take d key ++ (highest + 1) ∷ []) ≡ Less) es → AllByRecursion (λ e. is_gt (slice_cmp nat_cmp e.0 key) ≡ true) es → AllByRecursion (λ e. GoesOnFrom (take (d + 1) key) e.0) es
all_deeper [] key d highest within is same before behind = tt
all_deeper (e ∷ es) key d highest within is same before behind =
    (one_deeper e.0 key d highest within is same.0 before.0 behind.0, all_deeper es key d highest within is same.1 before.1 behind.1)

all_pass_test : (test : List ℕ → Bool) (es : List Entry) → AllByRecursion (λ e. test e.0 ≡ true) (filter (λ e. test e.0) es)
all_pass_test test [] = tt
all_pass_test test (e ∷ es) =
    (elim (test e.0) as (λ b. test e.0 ≡ b → AllByRecursion (λ x. test x.0 ≡ true) (cond b (e ∷ filter (λ x. test x.0) es) (filter (λ x. test x.0) es))) [
      | true ↦ λ is. (is, all_pass_test test es)
      | false ↦ λ _. all_pass_test test es
    ]) refl

pub deeper : (es : List Entry) (key : List ℕ) (value : ℤ) (d highest : ℕ) → ArePathsKeys es → IsNearBy es key value d highest → d < length key → get_or key d 0 ≡ highest → IsNearBy es key value (d + 1) 255
deeper es key value d highest keys near within is =
    let paths = all_paths es keys in
    let some = some_of (λ e. IsPath e.0) (λ w. is_gt (slice_cmp nat_cmp w key)) es paths in
    let behind = all_pass_test (λ w. is_gt (slice_cmp nat_cmp w key)) es in
    let all = all_deeper (behind_key key es) key d highest within is near.same near.before behind in
    let path : IsPath key = one_of_all (λ e. IsPath e.0) es (key, value) near.held paths in
    let low = byte_of_path key (d + 1) path in
    record {
      held = near.held;
      within = omega (arith, within);
      same = all;
      before = no_higher (take (d + 1) key) (behind_key key es) some all;
      low = λ _. omega (arith, low);
      small = omega arith;
    }

pub deeper_less : (es : List Entry) (key : List ℕ) (d highest : ℕ) → d < length key → far es key (d + 1) 255 < far es key d highest
deeper_less es key d highest within = omega (arith, within)

-- a look-up behind the entry finds one that is nearer
pub further : (es : List Entry) (key : List ℕ) (value : ℤ) (d highest b : ℕ) (g : List ℕ) (v : ℤ) (rest : List Entry) → IsNearBy es key value d highest → slice_cmp nat_cmp key (take d key ++ b ∷ []) ≡ Less
    → from_on (take d key ++ b ∷ []) es ≡ (g, v) ∷ rest → IsNearBy es g v d highest × (far es g d highest < far es key d highest)
further es key value d highest b g v rest near before is =
    let x = take d key ++ b ∷ [] in
    let first = first_passes (λ w. is_ge (slice_cmp nat_cmp w x)) es (g, v) rest is in
    let behind : is_gt (slice_cmp nat_cmp g key) ≡ true = from_behind_one key x g before first.1 in
    let up : slice_cmp nat_cmp key g ≡ Less = less_from_gt key g behind in
    let one = passes_one (λ w. is_gt (slice_cmp nat_cmp w key)) es (g, v) first.0 behind in
    let front = one_of_all (λ e. GoesOnFrom (take d key) e.0) (behind_key key es) (g, v) one near.same in
    let under = one_of_all (λ e. slice_cmp nat_cmp e.0 (take d key ++ (highest + 1) ∷ []) ≡ Less) (behind_key key es) (g, v) one near.before in
    let long : length (take d key) ≡ d = length-take-le d key near.within in
    let same_take : take d g ≡ take d key = ap (take d) front.1 ∙ take_of_front (take d key) front.0 d long in
    let from : is_ge (slice_cmp nat_cmp front.0 (b ∷ [])) ≡ true =
    ap is_ge (sym (same_front (take d key) front.0 (b ∷ []))) ∙ sym (ap (λ z. is_ge (slice_cmp nat_cmp z x)) front.1) ∙ first.1 in
    let low : slice_cmp nat_cmp front.0 ((highest + 1) ∷ []) ≡ Less =
    sym (same_front (take d key) front.0 ((highest + 1) ∷ [])) ∙ sym (ap (λ z. slice_cmp nat_cmp z (take d key ++ (highest + 1) ∷ [])) front.1) ∙ under in
    let byte = has_some_byte b highest front.0 from low in
    let here : get_or g d 0 ≡ get_or front.0 0 0 = ap (λ z. get_or z d 0) front.1 ∙ byte_of_front (take d key) front.0 d long in
    let all_long : length g ≡ length (take d key) + length front.0 = ap length front.1 ∙ length_of_front (take d key) front.0 in
    let at_most = byte.1 in
    let sub : (w : List ℕ) → is_gt (slice_cmp nat_cmp w g) ≡ true → is_gt (slice_cmp nat_cmp w key) ≡ true = (λ w h. behind_both key g w up h) in
    let itself : is_gt (slice_cmp nat_cmp g g) ≡ false = ap is_gt (tied_itself nat_list_cmp_total g) in
    let less = sum_less (λ w. is_gt (slice_cmp nat_cmp w g)) (λ w. is_gt (slice_cmp nat_cmp w key)) es (g, v) sub first.0 itself behind in
    let inside = near.within in
    let small = near.small in (
      record {
        held = first.0;
        within = omega (arith, all_long, long);
        same = subst (λ p. AllByRecursion (λ e. GoesOnFrom p e.0) (behind_key g es)) (sym same_take) (fewer (λ e. GoesOnFrom (take d key) e.0) (λ w. is_gt (slice_cmp nat_cmp w g)) (λ w. is_gt (slice_cmp nat_cmp w key)) es sub near.same);
        before = subst (λ p. AllByRecursion (λ e. slice_cmp nat_cmp e.0 (p ++ (highest + 1) ∷ []) ≡ Less) (behind_key g es)) (sym same_take) (fewer (λ e. slice_cmp nat_cmp e.0 (take d key ++ (highest + 1) ∷ []) ≡ Less) (λ w. is_gt (slice_cmp nat_cmp w g)) (λ w. is_gt (slice_cmp nat_cmp w key)) es sub near.before);
        low = λ _. omega (arith, here, at_most);
        small = near.small;
      },
      omega (arith, less, small, inside, all_long, long),
    )

-- and one that finds nothing leaves fewer bytes
pub narrower : (es : List Entry) (key : List ℕ) (value : ℤ) (d highest b : ℕ) → IsNearBy es key value d highest → d < length key → get_or key d 0 < b → b ≤ highest → from_on (take d key ++ b ∷ []) es ≡ []
    → IsNearBy es key value d (b - 1) × (far es key d (b - 1) < far es key d highest)
narrower es key value d highest b near within up most is =
    let x = take d key ++ b ∷ [] in
    let none = none_pass (λ w. is_ge (slice_cmp nat_cmp w x)) es is in
    let all = all_of_some (λ e. is_ge (slice_cmp nat_cmp e.0 x) ≡ false) (λ e. slice_cmp nat_cmp e.0 x ≡ Less) es (λ e h. not_from (slice_cmp nat_cmp e.0 x) h) none in
    let again : b - 1 + 1 ≡ b = omega (arith, up) in
    let small = near.small in (
      record {
        held = near.held;
        within = near.within;
        same = near.same;
        before = subst (λ n. AllByRecursion (λ e. slice_cmp nat_cmp e.0 (take d key ++ n ∷ []) ≡ Less) (behind_key key es)) (sym again) (some_of (λ e. slice_cmp nat_cmp e.0 x ≡ Less) (λ w. is_gt (slice_cmp nat_cmp w key)) es all);
        low = λ _. omega (arith, up);
        small = omega (arith, small, most);
      },
      omega (arith, up, most),
    )

-- ---- the end

pub is_alone : (es : List Entry) (key : List ℕ) → from_on (key ++ 0 ∷ []) es ≡ [] → behind_key key es ≡ []
is_alone es key is = sym (same_tests (λ w. is_ge (slice_cmp nat_cmp w (key ++ 0 ∷ []))) (λ w. is_gt (slice_cmp nat_cmp w key)) es (λ w. from_behind w key)) ∙ is

last_one : (es : List Entry) (key : List ℕ) (value : ℤ) → Rises es → IsOneOf (key, value) es → AllByRecursion (λ e. is_gt (slice_cmp nat_cmp e.0 key) ≡ false) es → (front : List Entry) × (es ≡ front ++ (key, value) ∷ [])
last_one [] key value up one none = absurd one
last_one (e ∷ []) key value up (inl same) none = ([], ap (λ x. x ∷ []) same)
last_one (e ∷ []) key value up (inr more) none = absurd more
last_one (e ∷ y ∷ ys) key value up (inl same) none =
    let key_is : e.0 ≡ key = ap (λ (x : Entry). x.0) same in
    let next : slice_cmp nat_cmp key y.0 ≡ Less = subst (λ k. slice_cmp nat_cmp k y.0 ≡ Less) key_is up.0.0 in
    absurd (true≢false (sym (gt_from_less key y.0 next) ∙ none.1.0))
last_one (e ∷ y ∷ ys) key value up (inr more) none =
    let later = last_one (y ∷ ys) key value up.1 more none.1 in
    (e ∷ later.0, ap (λ zs. e ∷ zs) later.1)

pub is_last : (es : List Entry) (key : List ℕ) (value : ℤ) (d highest : ℕ) → Rises es → IsNearBy es key value d highest → behind_key key es ≡ [] → (front : List Entry) × (es ≡ front ++ (key, value) ∷ [])
is_last es key value d highest up near is = last_one es key value up near.held (none_pass (λ w. is_gt (slice_cmp nat_cmp w key)) es is)

-- ---- what is before an end

pub listed_before : (to : Option (List ℕ)) (es : List Entry) → AscendByKeys es → Rises (before_end to es) × ArePathsKeys (before_end to es)
listed_before to es listed = (some_rise (ends_before to) es (rises es listed.0), some_of (λ e. IsKey e.0) (ends_before to) es listed.1)

swap_step : (p q : List ℕ → Bool) (e : Entry) (es : List Entry) (b c : Bool) → p e.0 ≡ b → q e.0 ≡ c
    → filter (λ x. p x.0) (filter (λ x. q x.0) es) ≡ filter (λ x. q x.0) (filter (λ x. p x.0) es)
    → filter (λ x. p x.0) (cond c (e ∷ filter (λ x. q x.0) es) (filter (λ x. q x.0) es)) ≡ filter (λ x. q x.0) (cond b (e ∷ filter (λ x. p x.0) es) (filter (λ x. p x.0) es))
swap_step p q e es true true p_is q_is more =
    let one = ap (λ b. cond b (e ∷ filter (λ x. p x.0) (filter (λ x. q x.0) es)) (filter (λ x. p x.0) (filter (λ x. q x.0) es))) p_is in
    let two = ap (λ b. cond b (e ∷ filter (λ x. q x.0) (filter (λ x. p x.0) es)) (filter (λ x. q x.0) (filter (λ x. p x.0) es))) q_is in
    one ∙ ap (λ zs. e ∷ zs) more ∙ sym two
swap_step p q e es false true p_is q_is more =
    ap (λ b. cond b (e ∷ filter (λ x. p x.0) (filter (λ x. q x.0) es)) (filter (λ x. p x.0) (filter (λ x. q x.0) es))) p_is ∙ more
swap_step p q e es true false p_is q_is more =
    more ∙ sym (ap (λ b. cond b (e ∷ filter (λ x. q x.0) (filter (λ x. p x.0) es)) (filter (λ x. q x.0) (filter (λ x. p x.0) es))) q_is)
swap_step p q e es false false p_is q_is more = more

pub either_first : (p q : List ℕ → Bool) (es : List Entry) → filter (λ e. p e.0) (filter (λ e. q e.0) es) ≡ filter (λ e. q e.0) (filter (λ e. p e.0) es)
either_first p q [] = refl
either_first p q (e ∷ es) = swap_step p q e es (p e.0) (q e.0) refl refl (either_first p q es)

pub none_left : (test : List ℕ → Bool) (es : List Entry) → AllByRecursion (λ e. test e.0 ≡ false) es → filter (λ e. test e.0) es ≡ []
none_left test [] all = refl
none_left test (e ∷ es) all = ap (λ b. cond b (e ∷ filter (λ x. test x.0) es) (filter (λ x. test x.0) es)) all.0 ∙ none_left test es all.1

-- behind what doesn't come before an end nothing does
ended : (to : Option (List ℕ)) (g w : List ℕ) → ends_before to g ≡ false → slice_cmp nat_cmp g w ≡ Less → ends_before to w ≡ false
ended None g w fails up = absurd (true≢false fails)
ended (Some to) g w fails up =
    (elim (is_lt (slice_cmp nat_cmp w to)) as (λ b. is_lt (slice_cmp nat_cmp w to) ≡ b → b ≡ false) [
      | true ↦ λ low. absurd (true≢false (sym (ap is_lt (nat_list_cmp_total.trans g w to up (less_is (slice_cmp nat_cmp w to) low))) ∙ fails))
      | false ↦ λ _. refl
    ]) refl

all_ended : (to : Option (List ℕ)) (g : List ℕ) (es : List Entry) → ends_before to g ≡ false → AllByRecursion (λ e. slice_cmp nat_cmp g e.0 ≡ Less) es → AllByRecursion (λ e. ends_before to e.0 ≡ false) es
all_ended to g es fails up = all_of_some (λ e. slice_cmp nat_cmp g e.0 ≡ Less) (λ e. ends_before to e.0 ≡ false) es (λ e h. ended to g e.0 fails h) up

pub none_between : (to : Option (List ℕ)) (from : List ℕ) (es : List Entry) → from_on from es ≡ [] → from_on from (before_end to es) ≡ []
none_between to from es is = either_first (λ w. is_ge (slice_cmp nat_cmp w from)) (ends_before to) es ∙ ap (before_end to) is

pub first_is_between : (to : Option (List ℕ)) (from : List ℕ) (es : List Entry) (g : List ℕ) (v : ℤ) (rest : List Entry) → from_on from es ≡ (g, v) ∷ rest → ends_before to g ≡ true
    → from_on from (before_end to es) ≡ (g, v) ∷ before_end to rest
first_is_between to from es g v rest is passing =
    either_first (λ w. is_ge (slice_cmp nat_cmp w from)) (ends_before to) es
    ∙ ap (before_end to) is
    ∙ ap (λ b. cond b ((g, v) ∷ before_end to rest) (before_end to rest)) passing

pub first_is_behind : (to : Option (List ℕ)) (from : List ℕ) (es : List Entry) (g : List ℕ) (v : ℤ) (rest : List Entry) → AscendByKeys es → from_on from es ≡ (g, v) ∷ rest → ends_before to g ≡ false
    → from_on from (before_end to es) ≡ []
first_is_behind to from es g v rest listed is fails =
    let up : Rises ((g, v) ∷ rest) = subst Rises is (some_rise (λ w. is_ge (slice_cmp nat_cmp w from)) es (rises es listed.0)) in
    either_first (λ w. is_ge (slice_cmp nat_cmp w from)) (ends_before to) es
    ∙ ap (before_end to) is
    ∙ ap (λ b. cond b ((g, v) ∷ before_end to rest) (before_end to rest)) fails
    ∙ none_left (ends_before to) rest (all_ended to g rest fails up.0)

-- ---- the look-ups that are made

front_before : (key : List ℕ) (b : ℕ) → slice_cmp nat_cmp key (key ++ b ∷ []) ≡ Less
front_before [] b = refl
front_before (x ∷ xs) b = ap (λ o. ordering_then o (slice_cmp nat_cmp xs (xs ++ b ∷ []))) (tied_itself nat_cmp_total x) ∙ front_before xs b

pub longer_finds : (es : List Entry) (key from : List ℕ) (value : ℤ) (d highest : ℕ) (g : List ℕ) (v : ℤ) (rest : List Entry) → IsNearBy es key value d highest → d ≡ length key → from ≡ key ++ 0 ∷ []
    → from_on from es ≡ (g, v) ∷ rest → IsNearBy es g v d highest × (far es g d highest < far es key d highest)
longer_finds es key from value d highest g v rest near all is found =
    let whole : take d key ≡ key = take_all d key (omega (arith, all)) in
    let at : from ≡ take d key ++ 0 ∷ [] = is ∙ ap (λ w. w ++ 0 ∷ []) (sym whole) in
    further es key value d highest 0 g v rest near
    (ap (λ w. slice_cmp nat_cmp key (w ++ 0 ∷ [])) whole ∙ front_before key 0)
    (ap (λ w. from_on w es) (sym at) ∙ found)

pub longer_ends : (es : List Entry) (key from : List ℕ) → from ≡ key ++ 0 ∷ [] → from_on from es ≡ [] → behind_key key es ≡ []
longer_ends es key from is none = is_alone es key (ap (λ w. from_on w es) (sym is) ∙ none)

pub wider_finds : (es : List Entry) (key from : List ℕ) (value : ℤ) (d highest b : ℕ) (g : List ℕ) (v : ℤ) (rest : List Entry) → IsNearBy es key value d highest → d < length key → get_or key d 0 < b
    → from ≡ take d key ++ b ∷ [] → from_on from es ≡ (g, v) ∷ rest → IsNearBy es g v d highest × (far es g d highest < far es key d highest)
wider_finds es key from value d highest b g v rest near within up is found =
    let parted : key ≡ take d key ++ get_or key d 0 ∷ drop (d + 1) key = apart d key ∙ ap (λ zs. take d key ++ zs) (byte_apart d key within) in
    further es key value d highest b g v rest near
    (ap (λ w. slice_cmp nat_cmp w (take d key ++ b ∷ [])) parted
    ∙ same_front (take d key) (get_or key d 0 ∷ drop (d + 1) key) (b ∷ [])
    ∙ raised_behind (get_or key d 0) b (drop (d + 1) key) up)
    (ap (λ w. from_on w es) (sym is) ∙ found)

pub wider_misses : (es : List Entry) (key from : List ℕ) (value : ℤ) (d highest b : ℕ) → IsNearBy es key value d highest → d < length key → get_or key d 0 < b → b ≤ highest → from ≡ take d key ++ b ∷ [] → from_on from es ≡ []
    → IsNearBy es key value d (b - 1) × (far es key d (b - 1) < far es key d highest)
wider_misses es key from value d highest b near within up most is none = narrower es key value d highest b near within up most (ap (λ w. from_on w es) (sym is) ∙ none)

all_from_nothing : (es : List Entry) → from_on [] es ≡ es
all_from_nothing [] = refl
all_from_nothing (e ∷ es) = ap (λ b. cond b (e ∷ from_on [] es) (from_on [] es)) (all_follow e.0) ∙ ap (λ zs. e ∷ zs) (all_from_nothing es)

-- the first of all entries
pub begins_with : (es : List Entry) (key : List ℕ) (value : ℤ) (rest : List Entry) → ArePathsKeys es → from_on [] es ≡ (key, value) ∷ rest → IsNearBy es key value 0 255
begins_with es key value rest keys is = begins es key value rest keys (sym (all_from_nothing es) ∙ is)

pub none_at_all : (es : List Entry) → from_on [] es ≡ [] → es ≡ []
none_at_all es is = sym (all_from_nothing es) ∙ is
