use Rattle.std.proofs.Common.{◌≡◌, ◌⊎◌, ◌<◌, ◌∙◌, ap, arith, get_or, inl, inr, rules, subst, sym, take}
use Rattle.std.specs.Prelude.{pos}
use Rattle.cedar_model.specs.Meaning.Family.{below}
use Rattle.cedar_model.specs.Meaning.WellFormed.{tree_of}
use Rattle.cedar_model.specs.Table.TableFields.{size_of}
use Rattle.cedar_model.proofs.MeaningLemmas.KeyPath.{key_goes_on, slot_within}
use Rattle.cedar_model.proofs.MeaningLemmas.SearchStep.{never_nothing}
use Rattle.cedar_table.specs.Table.Views.{cells, fields}
use Rattle.cedar_walk.proofs.WalkLemmas.NextNode.{node_inside, node_stands}
use Rattle.cedar_walk.proofs.WalkLemmas.Ranges.{lacks}
use Rattle.cedar_walk.proofs.ranges.way_along.Goals as goal
use Rattle.cedar_walk.proofs.ranges.way_along.Goals.{then-label-eq0-via-then-label-eq0, then-label-eq0-via-else-label-eq0+then-not-is_owned_by}

pub slot_below-below-requires : goal.slot_below-below-requires
slot_below-below-requires g c =
    let T = fields c.args.table.now in
    let at = c.loop-depth.invariant.at in
    let w = take c.loop-depth.depth c.args.key.now in
    (search rules, (node_inside _ T c.requires w c.loop-depth.slot at, never_nothing (size_of T) (cells c.args.table.now) c.loop-depth.slot _ (node_stands _ T c.requires w c.loop-depth.slot at)))

pub is_owned_by-requires : goal.is_owned_by-requires
is_owned_by-requires g c =
    let T = fields c.args.table.now in
    let at = c.loop-depth.invariant.at in
    let w = take c.loop-depth.depth c.args.key.now in
    let label = get_or c.args.key.now c.loop-depth.depth 0 in
    let small : get_or c.args.key.now c.loop-depth.depth 0 < 256 = omega (arith, c.type_inv.key c.loop-depth.depth) in
    let here : c.loop-depth.slot < size_of T = node_inside _ T c.requires w c.loop-depth.slot at in
    let inside = slot_within (size_of T) (cells c.args.table.now) (tree_of T).children w c.loop-depth.slot c.requires.stands at label (omega (arith, here)) (omega arith) small in
    (search rules, (subst (λ s. s < size_of T) (sym c.slot_below-below.ensures) inside, here))

pub returns-then-label-eq0 : goal.returns-then-label-eq0
returns-then-label-eq0 g c =
    let T = fields c.args.table.now in
    let i = c.loop-depth.invariant in
    let label = get_or c.args.key.now c.loop-depth.depth 0 in
    let off : (get_or c.args.key.now c.loop-depth.depth 0 ≡ 0) ⊎ ((cells c.args.table.now).check (below (cells c.args.table.now) c.loop-depth.slot (get_or c.args.key.now c.loop-depth.depth 0)) ≡ pos c.loop-depth.slot → ⊥) = elim c.then-label-eq0.branch [
      | then-label-eq0-via-then-label-eq0 w ↦ inl w.if-label-eq0.true
      | then-label-eq0-via-else-label-eq0+then-not-is_owned_by w ↦ inr (λ o. let yes = w.is_owned_by.ensures.1 (ap (cells c.args.table.now).check c.slot_below-below.ensures ∙ o) in cc)
    ] in
    record {
      within = i.within;
      at = i.at;
      ends = λ less. lacks _ T c.requires (take c.loop-depth.depth c.args.key.now) c.loop-depth.slot label i.at off;
    }

pub loop-depth-preserved : goal.loop-depth-preserved
loop-depth-preserved g c =
    let T = fields c.args.table.now in
    let i = c.loop-depth.invariant in
    record {
      within = omega (arith, c.loop-depth-test.true);
      at = key_goes_on (size_of T) (cells c.args.table.now) (tree_of T).children c.args.key.now c.loop-depth.depth c.loop-depth.slot c.requires.stands i.at c.loop-depth-test.true c.if-label-eq0.false c.slot_below-below.result c.slot_below-below.ensures (c.is_owned_by.ensures.0 c.if-not-is_owned_by.false);
    }

pub returns : goal.returns
returns g c =
    let i = c.loop-depth.invariant in
    record { within = i.within; at = i.at; ends = λ less. absurd (omega (arith, less, c.loop-depth-test.false)) }
