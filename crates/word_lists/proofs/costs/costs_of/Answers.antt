use Rattle.std.proofs.Common.{◌≡◌, ◌∙◌, ◌++◌, [], Bor, List, ℕ, Some, ap, append-nil, arith, length, map, rules, sym}
use Rattle.std.proofs.lemmas.List.{drop_all}
use Rattle.word_lists.specs.Costs.{costs_of_lines}
use Rattle.word_lists.proofs.CostLemmas.{costs_more, first_without}
use Rattle.word_lists.proofs.costs.costs_of.Goals as goal

-- what stands behind the lines
abbrev blank : Bor (List ℕ)
blank = record { ref_ptr = (0, 0); now = [] }

pub loop-index-preserved : goal.loop-index-preserved
loop-index-preserved g c =
    costs_more c.args.lines.now c.loop-index.index blank c.loop-index.costs.items c.push_cost.new.costs.items (omega arith) c.in_ok-push_cost.ensures.ok c.loop-index.invariant

pub returns-clause-costs : goal.returns-clause-costs
returns-clause-costs g c =
    let costs = map Some c.loop-index.costs.items in
    sym (append-nil costs) ∙ ap (λ (l : List (Bor (List ℕ))). costs ++ costs_of_lines l) (sym (drop_all c.loop-index.index c.args.lines.now (omega arith))) ∙ c.loop-index.invariant

pub returns-in_err-push_cost-clause-lacking : goal.returns-in_err-push_cost-clause-lacking
returns-in_err-push_cost-clause-lacking g c = λ index is.
    let told = c.push_cost.ensures.lacking index (search (rules, is)) in
    first_without c.args.lines.now c.loop-index.index blank c.loop-index.costs.items index (omega arith) told.0 told.1 c.loop-index.invariant
