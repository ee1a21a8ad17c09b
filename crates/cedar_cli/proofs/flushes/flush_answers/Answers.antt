use Rattle.std.proofs.Common.{◌∙◌}
use Rattle.std.proofs.KnownBytes.{Keeps-refl}
use Rattle.cedarwood.specs.WatchedDevice.{device_of, has_failed}
use Rattle.cedar_cli.proofs.Bytes.{failed_call, unfailed_call}
use Rattle.cedar_cli.proofs.flushes.flush_answers.Goals as goal

pub returns-then-not-flushes-clause-bytes : goal.returns-then-not-flushes-clause-bytes
returns-then-not-flushes-clause-bytes g c = Keeps-refl (g.W.Write.contents (device_of c.args.writer.now))

pub returns-in-Ok-clause-told : goal.returns-in-Ok-clause-told
returns-in-Ok-clause-told g c = λ first told. unfailed_call (has_failed c.args.writer.now) (has_failed c.flush.new.self) c.in-Ok.ensures.failed ∙ told

pub returns-in-Err-clause-told : goal.returns-in-Err-clause-told
returns-in-Err-clause-told g c = λ first told. failed_call (has_failed c.args.writer.now) (has_failed c.flush.new.self) c.in-Err.ensures.failed
