use Rattle.std.proofs.Common.{length}
use Rattle.cedar_disk.specs.Accounts.{calls_of}
use Rattle.cedar_disk.proofs.Steps.{refused_write}
use Rattle.cedar_disk.proofs.file.FileDeviceDevice.write_over.Goals as goal

pub returns-then-not-is_usable-clause-crash : goal.returns-then-not-is_usable-clause-crash
returns-then-not-is_usable-clause-crash g c = refused_write (calls_of c.args.self.now.account) (calls_of c.refuse.new.self) c.args.at (length c.args.bytes.now) c.refuse.ensures.calls
