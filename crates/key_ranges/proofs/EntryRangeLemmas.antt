-- The entries of a tree that are in a range.
use Rattle.std.proofs.Common.{◌≡◌, ℕ, Bool, true, false, cond, ◌&&◌, List, [], ◌∷◌, ◌++◌, map, refl, sym, ap, ◌∙◌, subst}
use Rattle.std.specs.Prelude.{filter, nat_eq}
use Rattle.std.specs.Cmp.Lexicographic.{slice_cmp}
use Rattle.std.specs.List.{AllByRecursion, starts_with}
use Rattle.std.specs.List.Sorted.{IsStrictlySortedBy}
use Rattle.std.specs.Ordering.{is_ge, is_gt, is_lt, nat_cmp, ordering_reverse}
use Rattle.std.specs.declared.cmp.Ordering.TheVariants.{Less}
use Rattle.std.proofs.lemmas.Cmp.{nat_list_cmp_total, tied_itself}
use Rattle.cedar_tree.specs.Queries.{Entry, walk}
use Rattle.cedar_tree.specs.Laws.{ArePathsAscending}
use Rattle.cedar_tree.specs.Tree.{IsAscending, IsKey, IsPath, IsSound, Tree}
use Rattle.cedar_tree.proofs.EntryLemmas.Keys.{walk_keys}
use Rattle.cedar_tree.proofs.TreeLemmas.{key_is_path}
use Rattle.cedar_tree.proofs.WalkLemmas.{walk_ascends}
use Rattle.key_ranges.specs.Spans.{entries_within, holds, HoldsBefore, HoldsBehind, HoldsPrefixed, KeySpan}

-- ---- tests that say the same

pub same_tests : (p q : List ℕ → Bool) (es : List Entry) → ((w : List ℕ) → p w ≡ q w) → filter (λ e. p e.0) es ≡ filter (λ e. q e.0) es
same_tests p q [] is = refl
same_tests p q (e ∷ es) is =
    ap (λ b. cond b (e ∷ filter (λ x. p x.0) es) (filter (λ x. p x.0) es)) (is e.0)
    ∙ ap (λ zs. cond (q e.0) (e ∷ zs) zs) (same_tests p q es is)

same_on_keys : (p q : List ℕ → Bool) (es : List Entry) → AllByRecursion (λ e. IsKey e.0) es → ((w : List ℕ) → IsPath w → p w ≡ q w) → filter (λ e. p e.0) es ≡ filter (λ e. q e.0) es
same_on_keys p q [] keys is = refl
same_on_keys p q (e ∷ es) keys is =
    ap (λ b. cond b (e ∷ filter (λ x. p x.0) es) (filter (λ x. p x.0) es)) (is e.0 (key_is_path e.0 keys.0))
    ∙ ap (λ zs. cond (q e.0) (e ∷ zs) zs) (same_on_keys p q es keys.1 is)

pub prefix_entries : (t : Tree) (span : KeySpan) (prefix : List ℕ) → IsSound t → HoldsPrefixed span prefix → entries_within t span ≡ filter (λ e. starts_with nat_eq e.0 prefix) (walk t)
prefix_entries t span prefix sound is = same_on_keys (holds span) (λ w. starts_with nat_eq w prefix) (walk t) (walk_keys t sound) is

-- ---- two tests, one after the other

filter_step : (p q : List ℕ → Bool) (e : Entry) (es rest : List Entry) (b c : Bool) → rest ≡ filter (λ x. q x.0) (filter (λ x. p x.0) es)
    → c ≡ q e.0 → cond (b && c) (e ∷ rest) rest ≡ filter (λ x. q x.0) (cond b (e ∷ filter (λ x. p x.0) es) (filter (λ x. p x.0) es))
filter_step p q e es rest true c is at = ap (λ z. cond z (e ∷ rest) rest) at ∙ ap (λ zs. cond (q e.0) (e ∷ zs) zs) is
filter_step p q e es rest false c is at = is

pub filter_twice : (p q : List ℕ → Bool) (es : List Entry) → filter (λ e. p e.0 && q e.0) es ≡ filter (λ e. q e.0) (filter (λ e. p e.0) es)
filter_twice p q [] = refl
filter_twice p q (e ∷ es) = filter_step p q e es (filter (λ x. p x.0 && q x.0) es) (p e.0) (q e.0) (filter_twice p q es) refl

-- ---- pages

-- each key is before those after it
abbrev pub Rises : List Entry → Type 0
Rises [] = Unit {0}
Rises (e ∷ es) = AllByRecursion (λ x. slice_cmp nat_cmp e.0 x.0 ≡ Less) es × Rises es

behind_all : (w : List ℕ) (es : List Entry) → AllByRecursion (λ v. slice_cmp nat_cmp w v ≡ Less) (map (λ e. e.0) es) → AllByRecursion (λ e. slice_cmp nat_cmp w e.0 ≡ Less) es
behind_all w [] all = tt
behind_all w (e ∷ es) all = (all.0, behind_all w es all.1)

pub rises : (es : List Entry) → ArePathsAscending es → Rises es
unfolding IsStrictlySortedBy
rises [] up = tt
rises (e ∷ es) up = (behind_all e.0 es up.0, rises es up.1)

some_behind : (w : List ℕ) (p : List ℕ → Bool) (es : List Entry) → AllByRecursion (λ e. slice_cmp nat_cmp w e.0 ≡ Less) es → AllByRecursion (λ e. slice_cmp nat_cmp w e.0 ≡ Less) (filter (λ e. p e.0) es)
some_behind w p [] all = tt
some_behind w p (e ∷ es) all =
    elim (p e.0) as (λ b. AllByRecursion (λ x. slice_cmp nat_cmp w x.0 ≡ Less) (cond b (e ∷ filter (λ x. p x.0) es) (filter (λ x. p x.0) es))) [
      | true ↦ (all.0, some_behind w p es all.1)
      | false ↦ some_behind w p es all.1
    ]

pub some_rise : (p : List ℕ → Bool) (es : List Entry) → Rises es → Rises (filter (λ e. p e.0) es)
some_rise p [] up = tt
some_rise p (e ∷ es) up =
    elim (p e.0) as (λ b. Rises (cond b (e ∷ filter (λ x. p x.0) es) (filter (λ x. p x.0) es))) [
      | true ↦ (some_behind e.0 p es up.0, some_rise p es up.1)
      | false ↦ some_rise p es up.1
    ]

-- those behind a key all pass
all_pass : (w : List ℕ) (es : List Entry) → AllByRecursion (λ e. slice_cmp nat_cmp w e.0 ≡ Less) es → filter (λ e. is_gt (slice_cmp nat_cmp e.0 w)) es ≡ es
all_pass w [] all = refl
all_pass w (e ∷ es) all =
    let behind = ap is_gt (nat_list_cmp_total.antisymm e.0 w ∙ ap ordering_reverse all.0) in
    ap (λ b. cond b (e ∷ filter (λ x. is_gt (slice_cmp nat_cmp x.0 w)) es) (filter (λ x. is_gt (slice_cmp nat_cmp x.0 w)) es)) behind
    ∙ ap (λ zs. e ∷ zs) (all_pass w es all.1)

last_of_all : (w : List ℕ) (page : List Entry) (last : Entry) (rest : List Entry) → AllByRecursion (λ e. slice_cmp nat_cmp w e.0 ≡ Less) (page ++ last ∷ rest) → slice_cmp nat_cmp w last.0 ≡ Less
last_of_all w [] last rest all = all.0
last_of_all w (e ∷ page) last rest all = last_of_all w page last rest all.1

behind_last : (page : List Entry) (last : Entry) (rest : List Entry) → Rises (page ++ last ∷ rest) → filter (λ e. is_gt (slice_cmp nat_cmp e.0 last.0)) (page ++ last ∷ rest) ≡ rest
behind_last [] last rest up =
    let itself = ap is_gt (tied_itself nat_list_cmp_total last.0) in
    ap (λ b. cond b (last ∷ filter (λ x. is_gt (slice_cmp nat_cmp x.0 last.0)) rest) (filter (λ x. is_gt (slice_cmp nat_cmp x.0 last.0)) rest)) itself
    ∙ all_pass last.0 rest up.0
behind_last (e ∷ page) last rest up =
    let before = ap is_gt (last_of_all e.0 page last rest up.0) in
    ap (λ b. cond b (e ∷ filter (λ x. is_gt (slice_cmp nat_cmp x.0 last.0)) (page ++ last ∷ rest)) (filter (λ x. is_gt (slice_cmp nat_cmp x.0 last.0)) (page ++ last ∷ rest))) before
    ∙ behind_last page last rest up.1

-- of entries whose keys ascend, those behind one are left
pub held_behind : (es : List Entry) (old new : KeySpan) (page : List Entry) (last : Entry) (rest : List Entry) → Rises es → HoldsBehind old new last.0
    → filter (λ e. holds old e.0) es ≡ page ++ last ∷ rest → filter (λ e. holds new e.0) es ≡ rest
held_behind es old new page last rest up on is =
    same_tests (holds new) (λ w. holds old w && is_gt (slice_cmp nat_cmp w last.0)) es on
    ∙ filter_twice (holds old) (λ w. is_gt (slice_cmp nat_cmp w last.0)) es
    ∙ ap (filter (λ e. is_gt (slice_cmp nat_cmp e.0 last.0))) is
    ∙ behind_last page last rest (subst Rises is (some_rise (holds old) es up))

pub pages_fit : (t : Tree) (old new : KeySpan) (page : List Entry) (last : Entry) (rest : List Entry) → IsAscending t.children → HoldsBehind old new last.0 → entries_within t old ≡ page ++ last ∷ rest → entries_within t new ≡ rest
pages_fit t old new page last rest ascends on is = held_behind (walk t) old new page last rest (rises (walk t) (walk_ascends t ascends)) on is

-- ---- pages backwards

none_before : (w : List ℕ) (es : List Entry) → AllByRecursion (λ e. slice_cmp nat_cmp w e.0 ≡ Less) es → filter (λ e. is_lt (slice_cmp nat_cmp e.0 w)) es ≡ []
none_before w [] all = refl
none_before w (e ∷ es) all =
    let behind = ap is_lt (nat_list_cmp_total.antisymm e.0 w ∙ ap ordering_reverse all.0) in
    ap (λ b. cond b (e ∷ filter (λ x. is_lt (slice_cmp nat_cmp x.0 w)) es) (filter (λ x. is_lt (slice_cmp nat_cmp x.0 w)) es)) behind
    ∙ none_before w es all.1

before_first : (rest : List Entry) (first : Entry) (page : List Entry) → Rises (rest ++ first ∷ page) → filter (λ e. is_lt (slice_cmp nat_cmp e.0 first.0)) (rest ++ first ∷ page) ≡ rest
before_first [] first page up =
    let itself = ap is_lt (tied_itself nat_list_cmp_total first.0) in
    ap (λ b. cond b (first ∷ filter (λ x. is_lt (slice_cmp nat_cmp x.0 first.0)) page) (filter (λ x. is_lt (slice_cmp nat_cmp x.0 first.0)) page)) itself
    ∙ none_before first.0 page up.0
before_first (e ∷ rest) first page up =
    let before = ap is_lt (last_of_all e.0 rest first page up.0) in
    ap (λ b. cond b (e ∷ filter (λ x. is_lt (slice_cmp nat_cmp x.0 first.0)) (rest ++ first ∷ page)) (filter (λ x. is_lt (slice_cmp nat_cmp x.0 first.0)) (rest ++ first ∷ page))) before
    ∙ ap (λ zs. e ∷ zs) (before_first rest first page up.1)

pub pages_fit_backwards : (t : Tree) (old new : KeySpan) (rest : List Entry) (first : Entry) (page : List Entry) → IsAscending t.children → HoldsBefore old new first.0 → entries_within t old ≡ rest ++ first ∷ page
    → entries_within t new ≡ rest
pages_fit_backwards t old new rest first page ascends on is =
    let up : Rises (entries_within t old) = some_rise (holds old) (walk t) (rises (walk t) (walk_ascends t ascends)) in
    same_tests (holds new) (λ w. holds old w && is_lt (slice_cmp nat_cmp w first.0)) (walk t) on
    ∙ filter_twice (holds old) (λ w. is_lt (slice_cmp nat_cmp w first.0)) (walk t)
    ∙ ap (filter (λ e. is_lt (slice_cmp nat_cmp e.0 first.0))) is
    ∙ before_first rest first page (subst Rises is up)
