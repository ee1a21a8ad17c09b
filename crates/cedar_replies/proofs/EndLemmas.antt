-- The entries of a range, the first of them and the last one.
use Rattle.std.proofs.Common.{◌≡◌, ◌∙◌, ◌++◌, ℕ, Bool, true, false, List, [], ◌∷◌, Option, Some, None, Ok, Err, IfOk, IfErr, refl, sym, ap}
use Rattle.std.specs.Prelude.{Result}
use Rattle.std.proofs.lemmas.Bool.{true≢false}
use Rattle.cedarwood.specs.Queries.{Entry, walk}
use Rattle.cedarwood.specs.Tree.{Tree}
use Rattle.cedar_complete.specs.Ends.{IsHeadOf}
use Rattle.cedar_complete.specs.declared.error.RangeError.{RangeError}
use Rattle.cedar_complete.specs.declared.error.RangeError.TheVariants as range_error
use Rattle.key_ranges.specs.Spans.{entries_within, holds, KeySpan}
use Rattle.key_ranges.proofs.EntryRangeLemmas.{same_tests}
use Rattle.last_entries.specs.Nearness.{IsLastOf}
use Rattle.cedar_replies.specs.Completions.{entries_between_ends, first_of_list, is_between_ends, last_of_list, last_or_given, where_ascending}
use Rattle.cedar_replies.specs.Replies.{CollectsAscending}
use Rattle.cedar_replies.specs.declared.ends.KeyEnds.{KeyEnds}

-- the entries of a range between two ends are those of the walk between these
pub same_range : (t : Tree) (ends : KeyEnds) (span : KeySpan) → ((w : List ℕ) → holds span w ≡ is_between_ends ends w) → entries_within t span ≡ entries_between_ends t ends
same_range t ends span is = same_tests (holds span) (is_between_ends ends) (walk t) is

-- the first and the last of some entries
head_is : (es : List Entry) (found : Option Entry) → IsHeadOf es found → found ≡ first_of_list es
head_is es None h = sym (ap first_of_list h)
head_is es (Some e) h = sym (ap first_of_list h.1)

last_pushed : (given : Option Entry) (front : List Entry) (e : Entry) → last_or_given given (front ++ e ∷ []) ≡ Some e
last_pushed given [] e = refl
last_pushed given (x ∷ front) e = last_pushed (Some x) front e

last_is : (es : List Entry) (found : Option Entry) → IsLastOf es found → found ≡ last_of_list es
last_is es None h = sym (ap last_of_list h)
last_is es (Some e) h = sym (ap last_of_list h.1 ∙ last_pushed None h.0 e)

-- whether something was found, and whether it is the order that is lacking
is_found : {X : Type 0} → Result X RangeError → Bool
is_found (Ok x) = true
is_found (Err e) = false

lacks_order : RangeError → Bool
lacks_order range_error.NotAscending = true
lacks_order range_error.Memory = false

-- what was found in a range where labels ascend, and what is told if they don't
ends_told : {X : Type 0} (tell : X → Option Entry) (wanted : Option Entry) (ordered : Bool) (r : Result X RangeError) → IfOk r (λ x. tell x ≡ wanted)
    → (ordered ≡ false → r ≡ Err range_error.NotAscending) → (ordered ≡ true → IfErr r (λ e. e ≡ range_error.Memory)) → CollectsAscending (where_ascending r) tell ordered wanted
unfolding is_found lacks_order
ends_told tell wanted true (Ok x) is order memory = ap Some is
ends_told tell wanted false (Ok x) is order memory = absurd (true≢false (ap is_found (order refl)))
ends_told tell wanted true (Err range_error.NotAscending) is order memory = absurd (true≢false (ap lacks_order (memory refl)))
ends_told tell wanted true (Err range_error.Memory) is order memory = refl
ends_told tell wanted false (Err range_error.NotAscending) is order memory = refl
ends_told tell wanted false (Err range_error.Memory) is order memory = refl

if_told : {X : Type 0} (r : Result X RangeError) (P Q : X → Type 0) → ((x : X) → P x → Q x) → IfOk r P → IfOk r Q
if_told (Ok x) P Q more h = more x h
if_told (Err e) P Q more h = tt

pub first_told : {X : Type 0} (tell : X → Option Entry) (es : List Entry) (ordered : Bool) (r : Result X RangeError) → IfOk r (λ x. IsHeadOf es (tell x))
    → (ordered ≡ false → r ≡ Err range_error.NotAscending) → (ordered ≡ true → IfErr r (λ e. e ≡ range_error.Memory)) → CollectsAscending (where_ascending r) tell ordered (first_of_list es)
first_told tell es ordered r is = ends_told tell (first_of_list es) ordered r (if_told r (λ x. IsHeadOf es (tell x)) (λ x. tell x ≡ first_of_list es) (λ x. head_is es (tell x)) is)

pub last_told : {X : Type 0} (tell : X → Option Entry) (es : List Entry) (ordered : Bool) (r : Result X RangeError) → IfOk r (λ x. IsLastOf es (tell x))
    → (ordered ≡ false → r ≡ Err range_error.NotAscending) → (ordered ≡ true → IfErr r (λ e. e ≡ range_error.Memory)) → CollectsAscending (where_ascending r) tell ordered (last_of_list es)
last_told tell es ordered r is = ends_told tell (last_of_list es) ordered r (if_told r (λ x. IsLastOf es (tell x)) (λ x. tell x ≡ last_of_list es) (λ x. last_is es (tell x)) is)
