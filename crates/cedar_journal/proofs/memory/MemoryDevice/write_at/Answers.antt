use Rattle.std.proofs.Common.{◌≡◌, ◌∙◌, length, refl, rules}
use Rattle.cedar_journal.specs.Device.{Holds}
use Rattle.cedar_journal.proofs.Kept.{elapses_to}
use Rattle.cedar_journal.proofs.Tears.{torn_held, torn_same}
use Rattle.cedar_journal.proofs.memory.MemoryDevice.write_at.Goals as goal

pub returns-in-Err-clause-crash : goal.returns-in-Err-clause-crash
returns-in-Err-clause-crash g c d left =
    let same : c.write.new.file.items ≡ c.args.self.now.bytes.items = search rules in
    (d, left ∙ same, torn_same c.args.at (length c.args.bytes.now) d)

pub returns-in-Ok-clause-crash : goal.returns-in-Ok-clause-crash
returns-in-Ok-clause-crash g c d left =
    let old = c.args.self.now.bytes.items in
    let holds : Holds old c.args.at c.args.bytes.now c.write.new.file.items = search rules in
    (old, refl, torn_held c.args.at c.args.bytes.now old d c.requires (left ∙ holds))

pub returns-in-Ok-clause-time : goal.returns-in-Ok-clause-time
returns-in-Ok-clause-time g c =
    let past = c.in-Ok.ensures.past in
    elapses_to c.args.self.now.past.items c.write.new.past.items past.0 c.args.self.now.bytes.items c.write.new.file.items past.1 past.2
