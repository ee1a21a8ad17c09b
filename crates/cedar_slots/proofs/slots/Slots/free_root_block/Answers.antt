use Rattle.std.proofs.Common.{◌+◌, ◌∙◌, ap, arith, refl, sym, subst}
use Rattle.std.proofs.lemmas.List.{get_or-set_same}
use Rattle.cedar_slots.specs.Slots.{blank_node, node_record_at, SlotLink}
use Rattle.cedar_slots.proofs.PlacementLemmas.FirstBlock.{SlotLink-set_root}
use Rattle.cedar_slots.proofs.RingsLemmas.LinkedSlots.{Relinked-linked, steps_kept, steps_more}
use Rattle.cedar_slots.proofs.slots.Slots.free_root_block.Goals as goal

pub loop-slot-init : goal.loop-slot-init
loop-slot-init g c = record { len = omega arith; used = omega arith; infos_used = omega arith; infos = refl; steps = λ s p q. absurd (omega arith) }

pub loop-slot-preserved : goal.loop-slot-preserved
loop-slot-preserved g c =
    let i = c.loop-slot.invariant in
    record {
      len = c.link.ensures.len ∙ i.len;
      used = c.link.ensures.used ∙ i.used;
      infos_used = c.link.ensures.infos_used ∙ i.infos_used;
      infos = c.link.ensures.infos ∙ i.infos;
      steps = steps_more c.loop-slot.self.nodes.items c.link.new.self.nodes.items 1 c.loop-slot.slot c.link.ensures.nodes (omega (arith, i.len)) i.steps;
    }

pub returns-clause-root : goal.returns-clause-root
returns-clause-root g c = ap (λ ns. node_record_at ns 0) c.set.ensures.items ∙ get_or-set_same c.link-2.new.self.nodes.items 0 c.args.root blank_node (omega (arith, c.link-2.ensures.len, c.loop-slot.invariant.len))

pub returns-clause-steps : goal.returns-clause-steps
returns-clause-steps g c s low high =
    let i = c.loop-slot.invariant in
    subst (λ ns. SlotLink ns s (s + 1)) (sym c.set.ensures.items) (SlotLink-set_root c.link-2.new.self.nodes.items c.args.root s (s + 1) (omega arith) (omega arith)
    (steps_kept c.loop-slot.self.nodes.items c.link-2.new.self.nodes.items 1 255 c.link-2.ensures.nodes (omega (arith, i.len)) (omega (arith, i.len)) (λ t p q. i.steps t p (omega arith)) s low high))

pub returns-clause-last : goal.returns-clause-last
returns-clause-last g c =
    let i = c.loop-slot.invariant in
    subst (λ ns. SlotLink ns 255 1) (sym c.set.ensures.items) (SlotLink-set_root c.link-2.new.self.nodes.items c.args.root 255 1 (omega arith) (omega arith)
    (subst (λ ns. SlotLink ns 255 1) (sym c.link-2.ensures.nodes) (Relinked-linked c.loop-slot.self.nodes.items 255 1 (omega (arith, i.len)) (omega (arith, i.len))).made))
