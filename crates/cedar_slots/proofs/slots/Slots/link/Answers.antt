use Rattle.std.proofs.Common.{arith}
use Rattle.std.proofs.lemmas.Int.{ints}
use Rattle.cedar_slots.proofs.RingsLemmas.LinkedSlots.{linked_is}
use Rattle.cedar_slots.proofs.slots.Slots.link.Goals as goal

pub returns-clause-nodes : goal.returns-clause-nodes
returns-clause-nodes g c =
    let within = c.args.self.now.nodes_within in
    linked_is c.args.self.now.nodes.items _ _ c.args.from c.args.to c.at-node.result c.at-node-2.result _ _ c.set.ensures.items c.set-2.ensures.items (omega (arith, within)) (omega (arith, within)) (c.at-node.ensures _) (omega (arith, ints)) (omega (arith, ints)) (c.at-node-2.ensures _) (omega (arith, ints)) (omega (arith, ints))
