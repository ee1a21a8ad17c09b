use Rattle.std.proofs.Common.{rules, ◌++◌, take}
use Rattle.std.proofs.KnownBytes.{Appends-trans}
use Rattle.device_lines.proofs.Filling.{moves_front}
use Rattle.device_lines.proofs.retries.WatchedWrite.write_all.Goals as goal

pub loop-rest-preserved-in-Ok : goal.loop-rest-preserved-in-Ok
loop-rest-preserved-in-Ok g c =
    let (front, split, appended) = c.loop-rest.invariant.written in
    let rest = c.loop-rest.rest.now in
    let n = c.in-Ok.count in
    record {
      written = (front ++ take n rest, moves_front _ front rest n split, Appends-trans _ _ _ _ _ appended c.in-Ok.ensures.bytes);
      failed = search rules;
    }
