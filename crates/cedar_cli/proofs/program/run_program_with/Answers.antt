use Rattle.std.proofs.Common.{Option, subst}
use Rattle.std.specs.Prelude.{IfSome}
use Rattle.cedar_cli.specs.Options.{Request, request_in}
use Rattle.cedar_cli.specs.Statuses.{AsksForFile}
use Rattle.cedarwood.specs.WatchedDevice.{has_failed}
use Rattle.cedar_cli.proofs.Reports.{asks_for_file, tells_cause}
use Rattle.cedar_cli.proofs.program.run_program_with.Goals as goal

pub returns-in-Err-clause-fault : goal.returns-in-Err-clause-fault
returns-in-Err-clause-fault g c =
    tells_cause c.args.name.now g.E.Write.contents c.args.errors.now c.tell.new.errors (request_in c.in-Some.options) (has_failed c.args.reader.now) (has_failed c.run_layout.new.reader)
    (has_failed c.run_layout.new.writer) c.in-Err.fault c.tell.result c.in-Err.ensures.ends c.tell.ensures.told

pub returns-in-Err-clause-refused : goal.returns-in-Err-clause-refused
returns-in-Err-clause-refused g c = λ is.
    subst (λ (r : Option Request). IfSome r AsksForFile) c.in-Some.ensures
    (asks_for_file c.args.name.now g.E.Write.contents c.args.errors.now c.tell.new.errors (request_in c.in-Some.options) (has_failed c.args.reader.now)
    (has_failed c.run_layout.new.reader) (has_failed c.run_layout.new.writer) c.in-Err.fault c.tell.result c.in-Err.ensures.ends c.tell.ensures.told is)
