-- What a plan makes of a file that represents a dictionary.
use Rattle.std.specs.Prelude.{ℤ, IfSome, is_some, OnOk, option_and_then, option_map, Option, Some, Result, Ok, Err}
use Rattle.std.proofs.Common.{◌≡◌, ℕ, ◌+◌, ◌<◌, List, [], ◌∷◌, length, refl, sym, ◌∙◌, ap, subst, true, arith}
use Rattle.std.proofs.lemmas.List.{length-map, length-take}
use Rattle.cedar_journal.specs.declared.format.Format.{Format}
use Rattle.cedar_journal.specs.declared.records.Extent.{Extent}
use Rattle.cedar_journal.specs.declared.records.Extent.TheVariants.{New, Until}
use Rattle.cedar_journal.specs.Files.{ends_closed, file_payloads, format_of, HasExtent, is_at_rest}
use Rattle.cedar_journal.specs.Formats.{overhead}
use Rattle.cedar_journal.specs.Journal.{IsBeforeOrAfter}
use Rattle.cedar_journal.proofs.Moments as moments
use Rattle.cedar_plan.specs.Calls.{LeftSince, open_call, seen_after}
use Rattle.cedar_plan.specs.Plans.{PlansAppend, steps_of, work_of, works_of}
use Rattle.cedar_plan.specs.Works.{Work, append_works, end_of, format_in, opening_works}
use Rattle.cedar_plan.specs.declared.plan.Plan.{Plan}
use Rattle.cedar_plan.proofs.Appending.{append_is_safe}
use Rattle.cedar_plan.proofs.Opening.{opening_is_safe}
use Rattle.cedar_store.specs.Changes.{Change, after, all_changed, change_of, after_change, put_at, after_payloads}
use Rattle.cedar_store.specs.Files.{IsEither, state_of}
use Rattle.cedar_store.proofs.Counted.{counted_more}
use Rattle.cedar_store.proofs.Payloads.{one_change}
use Rattle.cedar_store.proofs.States.{either, state_added}
use Rattle.cedarwood.specs.State.{State, new_state, after_put}
use Rattle.cedar_c.specs.Changes.{IsRecord}
use Rattle.cedar_c.specs.Layouts.{inner_dictionary}
use Rattle.cedar_c.specs.Plans.{AppendsChange, IsChangePlan, IsOpening}
use Rattle.either_layout.specs.declared.any.AnyCedar.{AnyCedar}

-- what a payload's one change makes of a state
pub makes : (payload : List ℕ) (change : Change) (s : State) → change_of payload ≡ Some change → after s payload ≡ Some (after_change s change)
makes payload change s has = ap (option_map (all_changed s)) (one_change payload change has)

module _ (f : Format) (end : ℕ) (payload : List ℕ) (s t : State) (short : length payload < 4294967296) (room : end < 1152921504606846976) (told : after s payload ≡ Some t) where
  pub is_change : (to : ℕ) (works : List Work) → works ≡ append_works f end payload → end + overhead f + length payload ≡ to → IsChangePlan works f end to s t
  is_change to works is far =
      subst (λ (l : List Work). IsChangePlan l f end to s t) (sym is)
      (subst (λ n. IsChangePlan (append_works f end payload) f end n s t) far
      (record {
        kept = λ calls kept.
            let safe = append_is_safe calls f end payload kept.rest short room in
            record { rest = safe.rest; same = state_added (seen_after calls) _ payload s t kept.same told safe.more };
        counted = λ calls n kept counted.
            counted_more (seen_after calls) _ payload n (n + 1) counted (append_is_safe calls f end payload kept.rest short room).more refl;
        any_moment = λ calls later kept out.
            let safe = append_is_safe calls f end payload kept.rest short room in
            moments.weakens length LeftSince calls later (IsBeforeOrAfter (file_payloads (seen_after calls)) payload) (IsEither s t)
            (λ c outcome. either (seen_after calls) c payload s t kept.same told outcome) (safe.any_moment later out);
      }))

pub is_opening : (bytes : List ℕ) (extent : Extent) (works : List Work) (s : State) → HasExtent bytes extent → works ≡ opening_works bytes extent → state_of bytes ≡ Some s
    → IsOpening bytes works (format_in extent) (end_of extent) s
is_opening bytes extent works s has is stands =
    let safe = opening_is_safe bytes extent has in
    let same : (c : List ℕ) → file_payloads c ≡ file_payloads bytes → state_of c ≡ Some s = λ c is. ap (option_and_then (after_payloads new_state)) is ∙ stands in
    subst (λ (l : List Work). IsOpening bytes l (format_in extent) (end_of extent) s) (sym is)
    (record {
      kept = record { rest = safe.rest; same = same _ safe.same };
      counted = ap (option_map length) safe.same;
      any_moment = λ later out.
          moments.weakens length LeftSince (open_call bytes ∷ []) later (λ c. file_payloads c ≡ file_payloads bytes) (λ c. state_of c ≡ Some s) same (safe.any_moment later out);
    })

-- a file that ends with the closed gate right behind its records is at rest
pub rests_there : (bytes : List ℕ) (extent : Extent) → HasExtent bytes extent → is_some (format_of bytes) ≡ true → ends_closed bytes (end_of extent) ≡ true
    → is_at_rest bytes extent ≡ true
rests_there bytes New new named closed = sym (ap is_some new.unnamed) ∙ named
rests_there bytes (Until f end) records named closed = closed

-- a plan that does two works has two steps
pub two_steps : (buffer : List ℕ) (plan : Plan) (works : List Work) → works_of buffer plan ≡ works → length works ≡ 2 → plan.count ≡ 2
two_steps buffer plan works is two =
    omega (arith, length-map (steps_of plan) (work_of buffer), length-take plan.count (plan.first ∷ plan.second ∷ plan.third ∷ plan.fourth ∷ []), ap length is, two)

-- what the plan of a record in a buffer does
record_works : (change : Change) (f : Format) (end n size : ℕ) (buffer : List ℕ) (plan : Plan) → (r : IsRecord change f end n size buffer)
    → PlansAppend plan size end → works_of buffer plan ≡ append_works f end r.payload
record_works change f end n size buffer plan r works =
    ap (λ (b : List ℕ). works_of b plan) r.written ∙ works f r.payload r.rest (omega (arith, r.size_is, r.long))

-- and nothing else
pub appends_just : (change : Change) (f : Format) (end n size to : ℕ) (buffer : List ℕ) (plan : Plan) → IsRecord change f end n size buffer
    → PlansAppend plan size end → to + 1 ≡ end + size → AppendsChange (works_of buffer plan) change f end to n
appends_just change f end n size to buffer plan r works far =
    record {
      payload = r.payload;
      has = r.has;
      long = r.long;
      just = record_works change f end n size buffer plan r works;
      far = omega (arith, far, r.size_is);
    }

-- how many steps such a plan has
pub append_steps : (change : Change) (f : Format) (end n size : ℕ) (buffer : List ℕ) (plan : Plan) → IsRecord change f end n size buffer
    → PlansAppend plan size end → plan.count ≡ 2
append_steps change f end n size buffer plan r works =
    two_steps buffer plan (append_works f end r.payload) (record_works change f end n size buffer plan r works) refl

-- the plan of a record in a buffer
pub planned_by : (change : Change) (f : Format) (end n size to : ℕ) (buffer : List ℕ) (plan : Plan) (s : State) → IsRecord change f end n size buffer
    → PlansAppend plan size end → to + 1 ≡ end + size → IsChangePlan (works_of buffer plan) f end to s (after_change s change)
planned_by change f end n size to buffer plan s r works far =
    is_change f end r.payload s (after_change s change) (omega (arith, r.short, r.long)) r.room (makes r.payload change s r.has) to (works_of buffer plan)
    (record_works change f end n size buffer plan r works) (omega (arith, far, r.size_is, r.long))

-- what a handle has that was opened just now
pub opened_has : (P : State → Type 0) (o : Option AnyCedar) (a : AnyCedar) → o ≡ Some a → P (inner_dictionary a).state → IfSome (option_map (λ b. (inner_dictionary b).state) o) P
opened_has P o a is has = subst (λ (x : Option AnyCedar). IfSome (option_map (λ b. (inner_dictionary b).state) x) P) (sym is) has

-- the plan of a put, whose value a word of the machine held meanwhile
pub put_planned : (key : List ℕ) (w v : ℤ) (f : Format) (end n size to : ℕ) (buffer : List ℕ) (plan : Plan) (s : State)
    → IsRecord (put_at key w) f end n size buffer → w ≡ v → PlansAppend plan size end → to + 1 ≡ end + size
    → IsChangePlan (works_of buffer plan) f end to s (after_put s key v)
put_planned key w v f end n size to buffer plan s r same works far =
    subst (λ x. IsChangePlan (works_of buffer plan) f end to s (after_put s key x)) same (planned_by (put_at key w) f end n size to buffer plan s r works far)

-- what the plan of a put does, in the same way
pub put_appends : (key : List ℕ) (w v : ℤ) (f : Format) (end n size to : ℕ) (buffer : List ℕ) (plan : Plan)
    → IsRecord (put_at key w) f end n size buffer → w ≡ v → PlansAppend plan size end → to + 1 ≡ end + size
    → AppendsChange (works_of buffer plan) (put_at key v) f end to n
put_appends key w v f end n size to buffer plan r same works far =
    subst (λ x. AppendsChange (works_of buffer plan) (put_at key x) f end to n) same (appends_just (put_at key w) f end n size to buffer plan r works far)

-- what a call says of `Ok` that isn't refused
pub not_refused : {E : Type 0} (r : Result (Unit {0}) E) (P : Type 0) → OnOk r P → ((e : E) → r ≡ Err e → ⊥) → P
not_refused (Ok x) P ok not = ok
not_refused (Err e) P ok not = absurd (not e refl)
