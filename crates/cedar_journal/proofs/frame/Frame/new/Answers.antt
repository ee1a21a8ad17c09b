use Rattle.std.proofs.Common.{◌≡◌, rules, arith}
use Rattle.cedar_journal.specs.declared.format.Format.TheVariants.{Summed}
use Rattle.cedar_journal.specs.Formats.{frame_of}
use Rattle.cedar_journal.proofs.Framed.{its_frame, its_payload, its_size}
use Rattle.cedar_journal.proofs.frame.Frame.new.Goals as goal

pub invariant_of-result : goal.invariant_of-result
invariant_of-result g c =
    let bytes = c.push_frame.new.bytes.items in
    let is : bytes ≡ frame_of Summed c.args.payload.now = search rules in
    let size = its_size bytes c.args.payload.now is in
    record { framed = its_frame bytes c.args.payload.now is; short = omega (arith, size); some = omega (arith, size) }

pub returns-clause-payload : goal.returns-clause-payload
returns-clause-payload g c =
    let bytes = c.push_frame.new.bytes.items in
    let is : bytes ≡ frame_of Summed c.args.payload.now = search rules in
    its_payload bytes c.args.payload.now is
