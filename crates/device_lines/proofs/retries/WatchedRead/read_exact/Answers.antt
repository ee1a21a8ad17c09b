use Rattle.std.proofs.Common.{rules}
use Rattle.device_lines.proofs.Filling.{filled_more}
use Rattle.device_lines.proofs.retries.WatchedRead.read_exact.Goals as goal

pub loop-filled-preserved-in-Ok : goal.loop-filled-preserved-in-Ok
loop-filled-preserved-in-Ok g c = record {
  len = search rules;
  within = search rules;
  consumed = filled_more _ _ _ c.loop-filled.buf c.read_once.new.buf c.loop-filled.filled c.in-Ok.count c.loop-filled.invariant.within (search rules) c.loop-filled.invariant.consumed c.in-Ok.ensures.bytes.0;
  failed = search rules;
  broken = search rules;
  cut = search rules;
}
