use Rattle.std.proofs.Common.{sym, ◌∙◌}
use Rattle.cedar_journal.proofs.Headers.{foreign_reads, is_new}
use Rattle.cedar_journal.proofs.Nexts.{damaged_lost, foreign_lost, lost_refused, stands_unrefused}
use Rattle.cedar_journal.proofs.records.extent_of.Goals as goal

pub returns-then-is_begun-clause-extent : goal.returns-then-is_begun-clause-extent
returns-then-is_begun-clause-extent c = is_new c.args.bytes.now (sym c.format_of.ensures ∙ c.in-None.is) (sym c.if-is_begun.ensures)

pub returns-then-is_begun-clause-refused : goal.returns-then-is_begun-clause-refused
returns-then-is_begun-clause-refused c =
    let new = is_new c.args.bytes.now (sym c.format_of.ensures ∙ c.in-None.is) (sym c.if-is_begun.ensures) in
    stands_unrefused c.args.bytes.now _ new.stands

pub returns-in-Err-clause-refused : goal.returns-in-Err-clause-refused
returns-in-Err-clause-refused c = lost_refused c.args.bytes.now (damaged_lost c.args.bytes.now _ c.in-Err.ensures.err)

pub returns-else-is_begun-clause-refused : goal.returns-else-is_begun-clause-refused
returns-else-is_begun-clause-refused c =
    lost_refused c.args.bytes.now (foreign_lost c.args.bytes.now (foreign_reads c.args.bytes.now (sym c.format_of.ensures ∙ c.in-None.is) (sym c.if-is_begun.ensures)))

pub returns-else-is_begun-clause-cause : goal.returns-else-is_begun-clause-cause
returns-else-is_begun-clause-cause c = foreign_reads c.args.bytes.now (sym c.format_of.ensures ∙ c.in-None.is) (sym c.if-is_begun.ensures)
