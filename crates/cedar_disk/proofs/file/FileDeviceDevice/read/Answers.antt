use Rattle.cedar_disk.specs.Accounts.{calls_of}
use Rattle.cedar_disk.proofs.Steps.{refused_keeps}
use Rattle.cedar_disk.proofs.file.FileDeviceDevice.read.Goals as goal

pub returns-in-None-clause-crash : goal.returns-in-None-clause-crash
returns-in-None-clause-crash g c = refused_keeps (calls_of c.args.self.now.account) (calls_of c.refuse.new.self) c.refuse.ensures.calls
