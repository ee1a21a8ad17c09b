use Rattle.std.proofs.Common.{◌≡◌, ◌∙◌, List, ℕ, refl, rules, subst, sym, take}
use Rattle.cedar_journal.specs.Device.{Cut}
use Rattle.cedar_journal.proofs.Kept.{elapses_to}
use Rattle.cedar_journal.proofs.Tears.{cut_same, cut_taken}
use Rattle.cedar_journal.proofs.memory.MemoryDevice.cut.Goals as goal

pub returns-in-Err-clause-crash : goal.returns-in-Err-clause-crash
returns-in-Err-clause-crash g c d left =
    let same : c.cut.new.file.items ≡ c.args.self.now.bytes.items = search rules in
    (d, left ∙ same, cut_same c.args.len d)

pub returns-in-Ok-clause-crash : goal.returns-in-Ok-clause-crash
returns-in-Ok-clause-crash g c d left =
    let old = c.args.self.now.bytes.items in
    let is : c.cut.new.file.items ≡ take c.args.len old = search rules in
    (old, refl, subst (λ (l : List ℕ). Cut c.args.len old l) (sym (left ∙ is)) (cut_taken c.args.len old c.requires))

pub returns-in-Ok-clause-time : goal.returns-in-Ok-clause-time
returns-in-Ok-clause-time g c =
    let past = c.in-Ok.ensures.past in
    elapses_to c.args.self.now.past.items c.cut.new.past.items past.0 c.args.self.now.bytes.items c.cut.new.file.items past.1 past.2
