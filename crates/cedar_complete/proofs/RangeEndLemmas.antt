-- The last entry in a range: the last one before its end, unless that comes before the range begins.
use Rattle.std.proofs.Common.{◌≡◌, ℕ, true, false, cond, not, List, [], ◌∷◌, ◌++◌, Option, Some, None, refl, sym, ap, ◌∙◌, subst}
use Rattle.std.specs.Prelude.{if◌then◌else◌}
use Rattle.std.specs.Cmp.Lexicographic.{slice_cmp}
use Rattle.std.specs.List.{AllByRecursion}
use Rattle.std.specs.Ordering.{is_ge, is_lt, nat_cmp}
use Rattle.std.specs.declared.cmp.Ordering.TheVariants.{Less}
use Rattle.std.proofs.lemmas.Cmp.{nat_list_cmp_total}
use Rattle.cedar_tree.specs.Queries.{Entry, walk}
use Rattle.cedar_tree.specs.Tree.{IsAscending, Tree}
use Rattle.cedar_tree.proofs.WalkLemmas.{walk_ascends}
use Rattle.key_ranges.specs.Spans.{ends_before, entries_within, KeySpan}
use Rattle.key_ranges.proofs.EntryRangeLemmas.{Rises, rises, some_rise}
use Rattle.key_ranges.proofs.SpanLemmas.{ge_is}
use Rattle.last_entries.specs.Nearness.{before_end, from_on, IsLastOf}
use Rattle.last_entries.proofs.EndLemmas.{within_is}
use Rattle.last_entries.proofs.NearLemmas.{none_left}
use Rattle.last_entries.proofs.PathLemmas.{not_from}
use Rattle.cedar_complete.specs.Ends.{unless_before}

from_and_one : (from : List ℕ) (front : List Entry) (last : Entry) → is_ge (slice_cmp nat_cmp last.0 from) ≡ true → from_on from (front ++ last ∷ []) ≡ from_on from front ++ last ∷ []
from_and_one from [] last at = ap (λ b. cond b (last ∷ []) []) at
from_and_one from (e ∷ es) last at =
    let more = from_and_one from es last at in
    elim (is_ge (slice_cmp nat_cmp e.0 from)) as (λ b. cond b (e ∷ from_on from (es ++ last ∷ [])) (from_on from (es ++ last ∷ [])) ≡ cond b (e ∷ from_on from es) (from_on from es) ++ last ∷ []) [
      | true ↦ ap (λ zs. e ∷ zs) more
      | false ↦ more
    ]

before_the_last : (w : List ℕ) (front : List Entry) (last : Entry) → AllByRecursion (λ e. slice_cmp nat_cmp w e.0 ≡ Less) (front ++ last ∷ []) → slice_cmp nat_cmp w last.0 ≡ Less
before_the_last w [] last all = all.0
before_the_last w (e ∷ es) last all = before_the_last w es last all.1

none_from : (from : List ℕ) (front : List Entry) (last : Entry) → Rises (front ++ last ∷ []) → slice_cmp nat_cmp last.0 from ≡ Less → AllByRecursion (λ e. is_ge (slice_cmp nat_cmp e.0 from) ≡ false) (front ++ last ∷ [])
none_from from [] last up low = (ap is_ge low, tt)
none_from from (e ∷ es) last up low =
    (ap is_ge (nat_list_cmp_total.trans e.0 last.0 from (before_the_last e.0 es last up.0) low), none_from from es last up.1 low)

last_told : (t : Tree) (span : KeySpan) (front : List Entry) (last : Entry) → before_end span.to (walk t) ≡ front ++ last ∷ [] → is_ge (slice_cmp nat_cmp last.0 span.from) ≡ true
    → (some : List Entry) × (entries_within t span ≡ some ++ last ∷ [])
last_told t span front last is at = (from_on span.from front, within_is span (walk t) ∙ ap (from_on span.from) is ∙ from_and_one span.from front last at)

last_too_low : (t : Tree) (span : KeySpan) (front : List Entry) (last : Entry) → IsAscending t.children → before_end span.to (walk t) ≡ front ++ last ∷ [] → is_ge (slice_cmp nat_cmp last.0 span.from) ≡ false
    → entries_within t span ≡ []
last_too_low t span front last ascends is low =
    let up : Rises (front ++ last ∷ []) = subst Rises is (some_rise (ends_before span.to) (walk t) (rises (walk t) (walk_ascends t ascends))) in
    within_is span (walk t)
    ∙ ap (from_on span.from) is
    ∙ none_left (λ w. is_ge (slice_cmp nat_cmp w span.from)) (front ++ last ∷ []) (none_from span.from front last up (not_from (slice_cmp nat_cmp last.0 span.from) low))

none_within : (t : Tree) (span : KeySpan) → before_end span.to (walk t) ≡ [] → entries_within t span ≡ []
none_within t span is = within_is span (walk t) ∙ ap (from_on span.from) is

last_kept : (t : Tree) (span : KeySpan) (found : Option Entry) → IsAscending t.children → IsLastOf (before_end span.to (walk t)) found → IsLastOf (entries_within t span) (unless_before span.from found)
last_kept t span None ascends is = none_within t span is
last_kept t span (Some last) ascends is =
    let o = slice_cmp nat_cmp last.0 span.from in
    (elim (is_lt o) as (λ b. is_lt o ≡ b → IsLastOf (entries_within t span) (if b then None else Some last)) [
      | true ↦ λ low. last_too_low t span is.0 last ascends is.1 (sym (ge_is o) ∙ ap not low)
      | false ↦ λ high. last_told t span is.0 last is.1 (sym (ge_is o) ∙ ap not high)
    ]) refl

pub last_within : (t : Tree) (span : KeySpan) (from : List ℕ) (to : Option (List ℕ)) (found told : Option Entry) → IsAscending t.children → from ≡ span.from → to ≡ span.to
    → IsLastOf (before_end to (walk t)) found → told ≡ unless_before from found → IsLastOf (entries_within t span) told
last_within t span from to found told ascends begin end last is =
    let here = last_kept t span found ascends (subst (λ e. IsLastOf (before_end e (walk t)) found) end last) in
    subst (IsLastOf (entries_within t span)) (sym is) (subst (λ f. IsLastOf (entries_within t span) (unless_before f found)) (sym begin) here)

-- what is told of an entry that comes before, and of one that doesn't
pub told_before : (from : List ℕ) (e : Entry) → is_lt (slice_cmp nat_cmp e.0 from) ≡ true → None ≡ unless_before from (Some e)
told_before from e low = sym (ap (λ b. if b then None else Some e) low)

pub told_from : (from : List ℕ) (e : Entry) → is_lt (slice_cmp nat_cmp e.0 from) ≡ false → Some e ≡ unless_before from (Some e)
told_from from e high = sym (ap (λ b. if b then None else Some e) high)
