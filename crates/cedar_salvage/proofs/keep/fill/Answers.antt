use Rattle.std.proofs.Common.{length, subst, sym, ◌∙◌, ap, arith}
use Rattle.whole_files.specs.Calls.{MayLeave, seen_after}
use Rattle.cedar_disk.specs.FileDevices.{device_calls}
use Rattle.cedar_journal.specs.Device.{Only}
use Rattle.cedar_salvage.proofs.Keeping.{first_written, next_written}
use Rattle.cedar_salvage.proofs.keep.fill.Goals as goal

pub write_at-requires-2 : goal.write_at-requires-2
write_at-requires-2 g c =
    let header = c.args.header.now in
    let was = seen_after (device_calls c.args.device.now) in
    let is = first_written was header (seen_after (device_calls c.write_at.new.self)) c.requires.empty c.in_ok-write_at.ensures.written in
    omega (arith, ap length is)

pub returns-clause-filled : goal.returns-clause-filled
returns-clause-filled g c =
    let header = c.args.header.now in
    let was = seen_after (device_calls c.args.device.now) in
    let begun = seen_after (device_calls c.write_at.new.self) in
    let is = first_written was header begun c.requires.empty c.in_ok-write_at.ensures.written in
    c.sync.ensures.seen ∙ next_written begun header c.args.bytes.now (seen_after (device_calls c.write_at-2.new.self)) is c.in_ok-write_at-2.ensures.written

pub returns-clause-durable : goal.returns-clause-durable
returns-clause-durable g c = subst (λ d. Only d (MayLeave (device_calls c.sync.new.self))) (sym c.sync.ensures.seen) c.in_ok-sync.ensures.durable
