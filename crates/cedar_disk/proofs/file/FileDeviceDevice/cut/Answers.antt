use Rattle.cedar_disk.specs.Accounts.{calls_of}
use Rattle.cedar_disk.proofs.Steps.{refused_cut}
use Rattle.cedar_disk.proofs.file.FileDeviceDevice.cut.Goals as goal

pub returns-then-not-is_usable-clause-crash : goal.returns-then-not-is_usable-clause-crash
returns-then-not-is_usable-clause-crash g c = refused_cut (calls_of c.args.self.now.account) (calls_of c.refuse.new.self) c.args.len c.refuse.ensures.calls
