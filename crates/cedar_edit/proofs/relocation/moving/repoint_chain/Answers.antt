use Rattle.std.proofs.Common.{◌≡◌, ◌<◌, ◌∙◌, ap, arith, rules, subst, sym, bit_xor, ℕ}
use Rattle.cedar_model.specs.Table.Cells.{Held}
use Rattle.cedar_model.specs.Meaning.Family.{base_of, below}
use Rattle.cedar_model.specs.Relocation.Renaming.{ChecksAt}
use Rattle.cedar_table.specs.Table.Views.{cells, fields}
use Rattle.cedar_model.specs.Table.TableFields.{size_of}
use Rattle.cedar_model.proofs.UpdateLemmas.Frame.{frame_same, frame_then}
use Rattle.cedar_model.proofs.RelocationLemmas.Repointed.{walked_all, walked_next, walked_none}
use Rattle.cedar_model.proofs.MeaningLemmas.ExclusiveOr.{xor_within}
use Rattle.cedar_edit.proofs.relocation.moving.repoint_chain.Goals as goal

pub loop-label-init : goal.loop-label-init
loop-label-init g c = record { sound = c.requires.sound; walked = walked_none _ _ _ _ c.requires.chain.0 c.requires.chain.1; frame = frame_same _ }

pub set_check-requires : goal.set_check-requires
set_check-requires g c =
    let T = cells c.args.table.now in
    let size : ℕ = size_of (fields c.args.table.now) in
    let from = c.args.from in let label = c.loop-label.label in
    let next = walked_next _ _ _ _ _ _ c.loop-label-test.true c.loop-label.invariant.walked in
    let at : bit_xor c.base_of-base.result c.from.result ≡ below T from label = ap (λ b. bit_xor b c.from.result) c.base_of-base.ensures ∙ ap (below T from) c.from.ensures in
    let inside : below T from label < size = xor_within size (base_of T from) label (omega arith) c.requires.based next.small in
    (search rules, (c.loop-label.invariant.sound, (subst (λ x. x < size_of (fields c.loop-label.table)) (sym at) (subst (λ n. below T from label < n) (sym c.loop-label.invariant.frame.size) inside), (subst (Held (cells c.loop-label.table)) (sym at) next.held, c.requires.to_in))))

pub sibling-label-requires : goal.sibling-label-requires
sibling-label-requires g c =
    let T = cells c.args.table.now in
    let size : ℕ = size_of (fields c.args.table.now) in
    let from = c.args.from in let label = c.loop-label.label in
    let next = walked_next _ _ _ _ _ _ c.loop-label-test.true c.loop-label.invariant.walked in
    let at : bit_xor c.base_of-base.result c.from.result ≡ below T from label = ap (λ b. bit_xor b c.from.result) c.base_of-base.ensures ∙ ap (below T from) c.from.ensures in
    let inside : below T from label < size = xor_within size (base_of T from) label (omega arith) c.requires.based next.small in
    let here : bit_xor c.base_of-base.result c.from.result < size = subst (λ x. x < size) (sym at) inside in
    (search rules, omega (arith, here, c.set_check.ensures.frame.capacity, c.loop-label.invariant.frame.capacity, c.args.table.now.shaped.blocks.active_in))

pub loop-label-smaller : goal.loop-label-smaller
loop-label-smaller g c =
    let T = cells c.args.table.now in
    let T₂ = cells c.set_check.new.self in
    let from = c.args.from in let label = c.loop-label.label in
    let next = walked_next _ _ _ _ _ _ c.loop-label-test.true c.loop-label.invariant.walked in
    let at : bit_xor c.base_of-base.result c.from.result ≡ below T from label = ap (λ b. bit_xor b c.from.result) c.base_of-base.ensures ∙ ap (below T from) c.from.ensures in
    next.less c.sibling-label.result (c.sibling-label.ensures ∙ ap T₂.sibling at ∙ c.set_check.ensures.at.sibling (below T from label))

pub loop-label-preserved : goal.loop-label-preserved
loop-label-preserved g c =
    let T = cells c.args.table.now in
    let T₁ = cells c.loop-label.table in
    let T₂ = cells c.set_check.new.self in
    let from = c.args.from in let label = c.loop-label.label in
    let next = walked_next _ _ _ _ _ _ c.loop-label-test.true c.loop-label.invariant.walked in
    let at : bit_xor c.base_of-base.result c.from.result ≡ below T from label = ap (λ b. bit_xor b c.from.result) c.base_of-base.ensures ∙ ap (below T from) c.from.ensures in
    record {
      sound = c.set_check.ensures.sound;
      walked = next.on T₂ c.sibling-label.result (subst (λ x. ChecksAt T₁ T₂ x c.args.to) at c.set_check.ensures.at) (c.sibling-label.ensures ∙ ap T₂.sibling at);
      frame = frame_then _ _ _ c.loop-label.invariant.frame c.set_check.ensures.frame;
    }

pub returns-clause-repointed : goal.returns-clause-repointed
returns-clause-repointed g c = walked_all _ _ _ _ _ _ (search rules) c.loop-label.invariant.walked
