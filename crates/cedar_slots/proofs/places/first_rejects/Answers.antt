use Rattle.std.proofs.Common.{◌∙◌, arith, length-set}
use Rattle.std.proofs.lemmas.Int.{ints}
use Rattle.cedar_slots.proofs.PlacementLemmas.FirstBlock.{rejects_more}
use Rattle.cedar_slots.proofs.places.first_rejects.Goals as goal

pub loop-free-preserved : goal.loop-free-preserved
loop-free-preserved g c =
    let i = c.loop-free.invariant in
    record {
      len = length-set c.loop-free.rejects.items c.loop-free.free _ ∙ i.len;
      value = rejects_more c.loop-free.rejects.items c.loop-free.free _ (omega (arith, i.len)) (omega (arith, ints)) i.value;
    }

pub returns-clause-len : goal.returns-clause-len
returns-clause-len g c = omega (arith, c.loop-free.invariant.len)

pub returns-clause-values : goal.returns-clause-values
returns-clause-values g c k below = c.loop-free.invariant.value k (omega arith)
