use Rattle.std.proofs.Common.{◌≡◌, ◌-◌, ◌++◌, length, rules}
use Rattle.std.specs.Prelude.{slice_set}
use Rattle.cedar_journal.specs.Frames.{payload_of}
use Rattle.cedar_journal.proofs.Images.{next_payloads, next_shape, next_whole}
use Rattle.cedar_journal.proofs.image.Image.push.Goals as goal

pub invariant_of-self-2 : goal.invariant_of-self-2
invariant_of-self-2 g c =
    let image = c.args.self.now in
    let old = image.bytes.items in
    let frame = c.bytes.result.now in
    let joined : c.extend_from_slice.new.self.items ≡ old ++ frame = search rules in
    let size : c.len-gate.result ≡ length old = search rules in
    let new = slice_set c.extend_from_slice.new.self.items (c.len-gate.result - 1) c.open_gate.result in
    let is : new ≡ slice_set (old ++ frame) (length old - 1) 255 = λ i. slice_set (joined i) (size i - 1) (c.open_gate.ensures i) in
    record {
      shape = next_shape old frame new (payload_of c.args.frame.now) image.shape image.whole c.bytes.ensures.short c.bytes.ensures.bytes is;
      whole = next_whole old frame new (payload_of c.args.frame.now) image.shape image.whole c.bytes.ensures.short c.bytes.ensures.bytes is;
    }

pub returns-clause-pushed : goal.returns-clause-pushed
returns-clause-pushed g c =
    let image = c.args.self.now in
    let old = image.bytes.items in
    let frame = c.bytes.result.now in
    let joined : c.extend_from_slice.new.self.items ≡ old ++ frame = search rules in
    let size : c.len-gate.result ≡ length old = search rules in
    let new = slice_set c.extend_from_slice.new.self.items (c.len-gate.result - 1) c.open_gate.result in
    let is : new ≡ slice_set (old ++ frame) (length old - 1) 255 = λ i. slice_set (joined i) (size i - 1) (c.open_gate.ensures i) in
    next_payloads old frame new (payload_of c.args.frame.now) image.shape image.whole c.bytes.ensures.short c.bytes.ensures.bytes is
