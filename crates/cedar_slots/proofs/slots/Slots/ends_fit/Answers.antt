use Rattle.std.proofs.Common.{◌≡◌, ◌-◌, ◌<◌, ◌/◌, ◌∙◌, ap, arith, length, refl, true}
use Rattle.std.specs.Prelude.{bit_xor}
use Rattle.cedar_slots.specs.Slots.{is_free}
use Rattle.cedar_slots.proofs.RingsLemmas.InBlock.{xor_block}
use Rattle.cedar_slots.proofs.slots.Slots.ends_fit.Goals as goal

pub is_free-first-requires-clause-slot_in : goal.is_free-first-requires-clause-slot_in
is_free-first-requires-clause-slot_in g c =
    let small : c.from.result < 256 = omega (arith, c.type_inv.labels 0) in
    let block : bit_xor c.args.base c.from.result / 256 ≡ c.args.base / 256 = xor_block c.args.base c.from.result small in
    omega arith

pub is_free-first-requires-clause-not_root : goal.is_free-first-requires-clause-not_root
is_free-first-requires-clause-not_root g c =
    let small : c.from.result < 256 = omega (arith, c.type_inv.labels 0) in
    let block : bit_xor c.args.base c.from.result / 256 ≡ c.args.base / 256 = xor_block c.args.base c.from.result small in
    omega arith

pub is_free-last-requires-clause-slot_in : goal.is_free-last-requires-clause-slot_in
is_free-last-requires-clause-slot_in g c =
    let small : c.from-2.result < 256 = omega (arith, c.type_inv.labels (length c.args.labels.now - 1)) in
    let block : bit_xor c.args.base c.from-2.result / 256 ≡ c.args.base / 256 = xor_block c.args.base c.from-2.result small in
    omega arith

pub is_free-last-requires-clause-not_root : goal.is_free-last-requires-clause-not_root
is_free-last-requires-clause-not_root g c =
    let small : c.from-2.result < 256 = omega (arith, c.type_inv.labels (length c.args.labels.now - 1)) in
    let block : bit_xor c.args.base c.from-2.result / 256 ≡ c.args.base / 256 = xor_block c.args.base c.from-2.result small in
    omega arith

pub returns-clause-only : goal.returns-clause-only
returns-clause-only g c = λ all.
    let nodes = c.args.self.now.nodes.items in
    let count = length c.args.labels.now in
    let inside : count - 1 < count = omega (arith, c.requires.some) in
    let first : c.is_free-first.result ≡ true = c.is_free-first.ensures ∙ ap (λ l. is_free nodes (bit_xor c.args.base l)) c.from.ensures ∙ all 0 0 c.requires.some in
    let last : c.is_free-last.result ≡ true = c.is_free-last.ensures ∙ ap (λ l. is_free nodes (bit_xor c.args.base l)) c.from-2.ensures ∙ all (count - 1) 0 inside in
    rw first (rw last refl)
