use Rattle.std.specs.Prelude.{is_some}
use Rattle.std.proofs.Common.{length, ap, sym}
use Rattle.std.proofs.lemmas.Bool.{eqb-true}
use Rattle.cedar_store.proofs.Payloads.{of_nothing}
use Rattle.cedar_salvage.proofs.change.is_single.Goals as goal

pub returns-then-is_empty : goal.returns-then-is_empty
returns-then-is_empty c = sym (ap is_some (of_nothing c.args.payload.now (eqb-true (length c.args.payload.now) 0 (sym c.if-is_empty.ensures))))
