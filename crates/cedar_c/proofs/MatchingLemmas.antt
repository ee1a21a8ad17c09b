-- The first wanted entry in a range.
use Rattle.std.proofs.Common.{◌≡◌, ◌∙◌, ◌&&◌, ℕ, Bool, List, Option, Some, None, true, IfOk, IfSome, sym, ap, subst}
use Rattle.std.specs.Prelude.{Err, filter, Ok, Result}
use Rattle.std.specs.Option.{is_some}
use Rattle.std.specs.Result.{result_ok}
use Rattle.std.specs.declared.ops.Bound.{Bound}
use Rattle.std.proofs.lemmas.Bool.{true≢false}
use Rattle.cedarwood.specs.Queries.{Entry, walk}
use Rattle.cedarwood.specs.Tree.{Tree}
use Rattle.cedar_complete.specs.Ends.{IsHeadOf}
use Rattle.cedar_complete.specs.Words.{accepted_in, GivesFirst}
use Rattle.key_ranges.specs.Spans.{follows_start, holds, KeySpan}
use Rattle.key_ranges.proofs.EntryRangeLemmas.{same_tests}
use Rattle.key_ranges.proofs.SpanLemmas.{and_true}
use Rattle.cedar_c.specs.Best.{entries_onwards}

abbrev held_or : {T : Type 0} → T → Option T → T
held_or x None = x
held_or x (Some y) = y

-- what a result holds, its value does
pub ok_is : {T E : Type 0} (r : Result T E) (x : T) (P : T → Type 0) → Some x ≡ result_ok r → IfOk r P → P x
ok_is (Ok y) x P is has = subst P (sym (ap (held_or x) is)) has
ok_is (Err e) x P is has = absurd (true≢false (ap is_some is))

pub ok_has : {T E : Type 0} (r : Result T E) (o : Option T) (P Q : T → Type 0) → o ≡ result_ok r → IfOk r P → ((x : T) → P x → Q x) → IfSome o Q
ok_has (Ok x) o P Q is has more = subst (λ found. IfSome found Q) (sym is) (more x has)
ok_has (Err e) o P Q is has more = subst (λ found. IfSome found Q) (sym is) tt

module _ (wanted : List ℕ → Bool) (t : Tree) (span : KeySpan) (start : Bound (List ℕ)) (is : (w : List ℕ) → holds span w ≡ (follows_start start w && true)) where
  -- the wanted entries in a range that only its start bounds
  same_wanted : accepted_in wanted span (walk t) ≡ filter (λ e. wanted e.0) (entries_onwards t start)
  same_wanted = ap (filter (λ (e : Entry). wanted e.0)) (same_tests (holds span) (follows_start start) (walk t) (λ w. is w ∙ and_true (follows_start start w)))

  -- the first of those in the range is the first one from the start on
  pub first_wanted : (found : Option Entry) (later : List Entry) → GivesFirst (accepted_in wanted span (walk t)) found later → IsHeadOf (filter (λ e. wanted e.0) (entries_onwards t start)) found
  first_wanted None later gives = sym same_wanted ∙ gives.0
  first_wanted (Some e) later gives = (later, sym same_wanted ∙ gives)
