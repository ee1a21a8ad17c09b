use Rattle.std.proofs.Common.{arith}
use Rattle.cedar_slots.proofs.blocks.Blocks.set_counts.Goals as goal

pub counts-old-requires : goal.counts-old-requires
counts-old-requires g c = omega (arith, c.requires.block_in, c.args.self.now.ready)
