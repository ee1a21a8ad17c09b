use Rattle.std.proofs.Common.{◌≡◌, ◌/◌, ◌<ℤ◌, FitsSigned, arith, rules, sym, ◌∙◌, ap, pos, neg_ℤ, subst, to_z, of_z, w32, unsigned_abs}
use Rattle.std.proofs.lemmas.Int.{ints, to_z-of_z}
use Rattle.cedar_slots.proofs.Casts.{cast_negative}
use Rattle.cedar_slots.specs.declared.records.NodeRecord.{NodeRecord}
use Rattle.cedar_file.proofs.ChecksLemmas.RingRead.{free_from, here_block, link_from, next_of}
use Rattle.cedar_file.proofs.check.rings.follow_ring.Goals as goal

pub returns-clause-answer : goal.returns-clause-answer
returns-clause-answer g c =
    let nodes = c.args.slots.now.nodes.items in
    let at : c.args.slot / 256 ≡ c.args.block = here_block nodes c.args.block c.args.slot c.requires.here in
    let below : c.read_node-after.result.check <ℤ pos 0 = cast_negative w32 _ (search rules) c.if-after-ge0.false in
    let before : c.read_node-after.result.base ≡ neg_ℤ (pos c.args.slot) = omega (arith, ints) in
    let same : to_z w32 (of_z w32 c.read_node.result.check) ≡ c.read_node.result.check = to_z-of_z w32 _ (search rules) in
    let step : c.unsigned_abs-next.result ≡ next_of nodes c.args.slot = c.unsigned_abs-next.ensures.value ∙ ap unsigned_abs (same ∙ ap (λ (n : NodeRecord). n.check) c.read_node.ensures.value) in
    let read = c.read_node-after.ensures.value in (
      link_from nodes c.args.block c.args.slot c.unsigned_abs-next.result c.requires.here step (sym (ap (λ (n : NodeRecord). n.base) read) ∙ before),
      free_from nodes c.args.block c.unsigned_abs-next.result c.if-next-eq0.false (subst (λ (n : NodeRecord). n.check <ℤ pos 0) read below) c.if-next-block.false,
    )
