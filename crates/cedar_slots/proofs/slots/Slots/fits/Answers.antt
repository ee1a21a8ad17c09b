use Rattle.std.proofs.Common.{◌≡◌, ◌<◌, ◌/◌, ◌∙◌, arith, sym}
use Rattle.std.specs.Prelude.{bit_xor}
use Rattle.cedar_slots.proofs.RingsLemmas.LinkedSlots.{all_free_more}
use Rattle.cedar_slots.proofs.RingsLemmas.InBlock.{xor_block}
use Rattle.cedar_slots.proofs.slots.Slots.fits.Goals as goal

pub is_free-requires-clause-slot_in : goal.is_free-requires-clause-slot_in
is_free-requires-clause-slot_in g c =
    let small : c.from.result < 256 = omega (arith, c.type_inv.label.fits) in
    let block : bit_xor c.args.base c.from.result / 256 ≡ c.args.base / 256 = xor_block c.args.base c.from.result small in
    omega arith

pub is_free-requires-clause-not_root : goal.is_free-requires-clause-not_root
is_free-requires-clause-not_root g c =
    let small : c.from.result < 256 = omega (arith, c.type_inv.label.fits) in
    let block : bit_xor c.args.base c.from.result / 256 ≡ c.args.base / 256 = xor_block c.args.base c.from.result small in
    omega arith

pub loop-label-preserved : goal.loop-label-preserved
loop-label-preserved g c = all_free_more c.args.self.now.nodes.items c.args.base c.args.labels.now c.loop-label.label-index c.from.result c.loop-label-test.true c.from.ensures (sym c.is_free.ensures ∙ c.if-not-is_free.false) c.loop-label.invariant

pub returns-clause-fits : goal.returns-clause-fits
returns-clause-fits g c _ k d h = c.loop-label.invariant k d (omega arith)
