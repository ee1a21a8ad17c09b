use Rattle.std.proofs.Common.{◌≡◌, ◌∙◌, ℕ, List, ap, subst, sym, true}
use Rattle.cedar_plan.specs.Plans.{works_of}
use Rattle.cedar_plan.specs.Works.{end_of, opening_works}
use Rattle.cedar_c.specs.Content.{content}
use Rattle.cedar_c.specs.Layouts.{inner_dictionary}
use Rattle.cedar_journal.specs.Files.{ends_closed}
use Rattle.cedar_c.specs.Plans.{IsOpening, format_if}
use Rattle.cedar_c.proofs.PlanLemmas.{is_opening, not_refused, opened_has, rests_there}
use Rattle.cedar_c.proofs.planned.cedar_plan_open.Goals as goal

pub returns-in-Ok-clause-ready : goal.returns-in-Ok-clause-ready
returns-in-Ok-clause-ready c = λ ok.
    let buffer = c.place.new.buffer in
    let plan = c.plan_opening.result in
    let bytes = c.args.bytes.now in
    let s = (inner_dictionary c.in-Ok.cedar.value).state in
    let placed = not_refused _ _ c.place.ensures.written c.in_default.not-Err in
    let works : works_of buffer plan ≡ opening_works bytes c.in-Ok.extent = ap (λ (b : List ℕ). works_of b plan) placed.1 ∙ c.plan_opening.ensures.works placed.0 in
    let extent = c.in-Ok.extent in
    opened_has (IsOpening bytes (works_of buffer plan) (format_if c.has_sums.result) c.end_of.result) (content c.of.result) c.in-Ok.cedar.value c.of.ensures
    (subst (λ n. IsOpening bytes (works_of buffer plan) (format_if c.has_sums.result) n s) (sym c.end_of.ensures)
    (subst (λ f. IsOpening bytes (works_of buffer plan) f (end_of extent) s) (sym c.has_sums.ensures)
    (is_opening bytes extent (works_of buffer plan) s c.in-Ok.ensures.extent works c.in-Ok.ensures.stands)))

pub returns-in-Ok-clause-works : goal.returns-in-Ok-clause-works
returns-in-Ok-clause-works c = λ ok.
    let plan = c.plan_opening.result in
    let placed = not_refused _ _ c.place.ensures.written c.in_default.not-Err in
    record {
      extent = c.in-Ok.extent;
      has = c.in-Ok.ensures.extent;
      just = ap (λ (b : List ℕ). works_of b plan) placed.1 ∙ c.plan_opening.ensures.works placed.0;
      named = c.has_sums.ensures;
      there = c.end_of.ensures;
    }

pub returns-in-Ok-clause-at_rest : goal.returns-in-Ok-clause-at_rest
returns-in-Ok-clause-at_rest c = λ ok named closed.
    c.plan_opening.ensures.at_rest (rests_there c.args.bytes.now c.in-Ok.extent c.in-Ok.ensures.extent named
    (subst (λ n. ends_closed c.args.bytes.now n ≡ true) c.end_of.ensures closed))
