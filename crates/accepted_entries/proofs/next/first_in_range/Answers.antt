use Rattle.std.proofs.Common.{ℕ, List, Option, option_map, subst, Bor, IfOk}
use Rattle.cedar_tree.specs.Queries.{Entry}
use Rattle.last_entries.specs.Nearness.{IsFirstOf}
use Rattle.accepted_entries.proofs.AcceptLemmas.{first_held}
use Rattle.accepted_entries.proofs.next.first_in_range.Goals as goal

pub returns-clause-found : goal.returns-clause-found
returns-clause-found g c =
    let es = g.S.Ascending.entries c.args.source.now in
    let to : Option (List ℕ) = option_map {T = Bor (List ℕ)} {U = List ℕ} (λ z. z.now) c.to.result in
    let key = c.first_between.new.key.items in
    subst (λ (es : List Entry). IfOk c.first_between.result (IsFirstOf es key)) (first_held c.args.range.now es c.from.result.now to c.from.ensures c.to.ensures) c.first_between.ensures
