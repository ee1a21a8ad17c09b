use Rattle.std.proofs.Common.{rules, refl, IfOk}
use Rattle.cedarwood.specs.Loading.{LoadAnswers}
use Rattle.cedarwood.specs.OnTable.{IsOnTable}
use Rattle.cedar_calls.proofs.make.load.Goals as goal
use Rattle.cedar_calls.proofs.make.load.Goals.{in-Ok, in_default}

pub returns-clause-step : goal.returns-clause-step
returns-clause-step g c =
    let l = c.load_from_reader_with_limit-loaded in
    let told : LoadAnswers (λ d. d.table) g.L.Layout.kind g.row.SLOTS c.args.limit c.args.bytes.now l.result = l.ensures.loads.answer refl in
    let stands : IfOk l.result (IsOnTable g.row.SLOTS) = elim c.match-loaded.branch [ in-Ok w ↦ rw w.in-Ok.is w.stands_on_its_table.ensures | in_default w ↦ search rules ] in (l.result, (told, stands), c.join.ensures.joins)
