use Rattle.std.proofs.Common.{sym, ◌∙◌}
use Rattle.cedar_journal.proofs.Headers.{first_named, none_named, second_named}
use Rattle.cedar_salvage.proofs.record.format_of.Goals as goal

pub returns-then-starts_with : goal.returns-then-starts_with
returns-then-starts_with c = second_named c.args.bytes.now (sym c.starts_with.ensures.value ∙ c.if-starts_with.true)

pub returns-then-starts_with-2 : goal.returns-then-starts_with-2
returns-then-starts_with-2 c =
    first_named c.args.bytes.now (sym c.starts_with.ensures.value ∙ c.if-starts_with.false) (sym c.starts_with-2.ensures.value ∙ c.if-starts_with-2.true)

pub returns : goal.returns
returns c = none_named c.args.bytes.now (sym c.starts_with.ensures.value ∙ c.if-starts_with.false) (sym c.starts_with-2.ensures.value ∙ c.if-starts_with-2.false)
