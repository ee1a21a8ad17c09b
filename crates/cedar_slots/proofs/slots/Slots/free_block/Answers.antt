use Rattle.std.proofs.Common.{◌≡◌, ℕ, ◌+◌, ◌<◌, ◌≤◌, ◌⊎◌, ◌∙◌, ap, arith, inl, inr, sym, subst}
use Rattle.cedar_slots.specs.Slots.{node_record_at, SlotLink}
use Rattle.cedar_slots.proofs.RingsLemmas.LinkedSlots.{node-linked_other, Relinked-linked, steps_kept, steps_more}
use Rattle.cedar_slots.proofs.slots.Slots.free_block.Goals as goal

aside : (first slot s : ℕ) → first ≤ slot → slot < first + 256 → (s < first) ⊎ (first + 256 ≤ s) → s ≡ slot → ⊥
aside first slot s low high (inl below) same = omega arith
aside first slot s low high (inr above) same = omega arith

pub loop-slot-init : goal.loop-slot-init
loop-slot-init g c = record { len = omega arith; used = omega arith; infos_used = omega arith; infos = cc; steps = λ s p q. absurd (omega arith); outside = λ s p. cc }

pub loop-slot-preserved : goal.loop-slot-preserved
loop-slot-preserved g c =
    let i = c.loop-slot.invariant in
    record {
      len = c.link.ensures.len ∙ i.len;
      used = c.link.ensures.used ∙ i.used;
      infos_used = c.link.ensures.infos_used ∙ i.infos_used;
      infos = c.link.ensures.infos ∙ i.infos;
      steps = steps_more c.loop-slot.self.nodes.items c.link.new.self.nodes.items c.args.first c.loop-slot.slot c.link.ensures.nodes (omega (arith, i.used, c.loop-slot.self.nodes_within)) i.steps;
      outside = λ s p. ap (λ ns. node_record_at ns s) c.link.ensures.nodes ∙ node-linked_other c.loop-slot.self.nodes.items c.loop-slot.slot (c.loop-slot.slot + 1) s (aside c.args.first c.loop-slot.slot s (omega arith) (omega arith) p) (aside c.args.first (c.loop-slot.slot + 1) s (omega arith) (omega arith) p) ∙ i.outside s p;
    }

pub returns-clause-steps : goal.returns-clause-steps
returns-clause-steps g c s low high =
    let i = c.loop-slot.invariant in
    steps_kept c.loop-slot.self.nodes.items c.link-2.new.self.nodes.items c.args.first (c.args.first + 255) c.link-2.ensures.nodes (omega (arith, i.used, c.loop-slot.self.nodes_within)) (omega (arith, i.used, c.loop-slot.self.nodes_within)) (λ t p q. i.steps t p (omega arith)) s low high

pub returns-clause-last : goal.returns-clause-last
returns-clause-last g c =
    let i = c.loop-slot.invariant in
    subst (λ ns. SlotLink ns (c.args.first + 255) c.args.first) (sym c.link-2.ensures.nodes) (Relinked-linked c.loop-slot.self.nodes.items (c.args.first + 255) c.args.first (omega (arith, i.used, c.loop-slot.self.nodes_within)) (omega (arith, i.used, c.loop-slot.self.nodes_within))).made

pub returns-clause-outside : goal.returns-clause-outside
returns-clause-outside g c s p =
    ap (λ ns. node_record_at ns s) c.link-2.ensures.nodes ∙ node-linked_other c.loop-slot.self.nodes.items (c.args.first + 255) c.args.first s (aside c.args.first (c.args.first + 255) s (omega arith) (omega arith) p) (aside c.args.first c.args.first s (omega arith) (omega arith) p) ∙ c.loop-slot.invariant.outside s p

pub returns-clause-infos : goal.returns-clause-infos
returns-clause-infos g c = c.link-2.ensures.infos ∙ c.loop-slot.invariant.infos

pub returns-clause-len : goal.returns-clause-len
returns-clause-len g c = c.link-2.ensures.len ∙ c.loop-slot.invariant.len

pub returns-clause-used : goal.returns-clause-used
returns-clause-used g c = c.link-2.ensures.used ∙ c.loop-slot.invariant.used

pub returns-clause-infos_used : goal.returns-clause-infos_used
returns-clause-infos_used g c = c.link-2.ensures.infos_used ∙ c.loop-slot.invariant.infos_used
