use Rattle.std.proofs.Common.{rules, ◌≡◌, ◌≢◌, ◌∙◌, arith, subst, sym, of_z, to_z, w32, FitsSigned, Some, true}
use Rattle.std.proofs.lemmas.Int.{to_z-of_z}
use Rattle.cedar_model.specs.Edits.{edit_at}
use Rattle.cedar_model.specs.Edit.NodeEdits.{IsNodeOf}
use Rattle.cedar_model.specs.Meaning.Family.{below}
use Rattle.cedar_model.specs.Meaning.StandsFor.{HoldsTree}
use Rattle.cedar_model.specs.Relocation.Reserved.{cells_without}
use Rattle.cedar_table.specs.Table.Views.{cells, fields}
use Rattle.cedar_model.specs.Table.TableFields.{size_of}
use Rattle.cedar_model.proofs.UpdateLemmas.MarksAfterPut.{kept_then_put, slot_put}
use Rattle.cedar_model.proofs.UpdateLemmas.BlocksMade.{growth_framed}
use Rattle.cedar_edit.proofs.StepLemmas.{refused_step}
use Rattle.cedar_edit.proofs.keys.step.put_over.Goals as goal

pub returns-in_err-node-clause-step : goal.returns-in_err-node-clause-step
returns-in_err-node-clause-step g c =
    let step = c.in_err-node.ensures.step in
    refused_step _ _ _ c.from_residual.result c.in_err-node.field-0.0 c.from_residual.ensures.1 step.refused step.unchanged step.growth

pub set_reserved-requires : goal.set_reserved-requires
set_reserved-requires g c =
    let n = c.requires.node in
    let k = c.in_ok-node.ensures.reserved in
    let R = cells c.resolve.new.table in
    let node : IsNodeOf (size_of (fields c.resolve.new.table)) (cells_without R (below R c.in_ok-node.node 0)) (fields c.resolve.new.table).ordered n.0 c.in_ok-node.node = record {
      holds = k.tree n.0 n.1.holds;
      ascending = λ o. n.1.ascending (sym c.in_ok-node.ensures.step.growth.settings.ordered ∙ o);
      path = n.1.path;
      at = k.at n.1.path n.1.at;
    } in
    let other : c.in_ok-node.node ≢ 0 = k.not_root in
    (search rules, record { sound = c.in_ok-node.ensures.sound; node_in = k.inside; not_root = omega (arith, other); node = (n.0, node); based = k.based; reserved = k.reserved })

pub returns-clause-set : goal.returns-clause-set
returns-clause-set g c = λ f w h on.
    let k = c.in_ok-node.ensures.reserved in
    let fits : FitsSigned w32 c.args.value = search rules in
    let same : to_z w32 (of_z w32 c.args.value) ≡ c.args.value = to_z-of_z w32 c.args.value fits in
    subst (λ z. HoldsTree (size_of (fields c.set_reserved.new.table)) (cells c.set_reserved.new.table) (edit_at w (λ _. Some z) (λ u. u) f)) same
    (c.set_reserved.ensures.tree f w (k.tree f h) (k.at w on))

pub returns-clause-marks : goal.returns-clause-marks
returns-clause-marks g c =
    let n = c.requires.node in
    let k = c.in_ok-node.ensures.reserved in
    let R = cells c.resolve.new.table in
    let T = cells_without R (below R c.in_ok-node.node 0) in
    let holds = k.tree n.0 n.1.holds in
    let put = slot_put (size_of (fields c.resolve.new.table)) T (cells c.set_reserved.new.table) n.0 n.1.path c.in_ok-node.node _ holds (k.at n.1.path n.1.at) c.set_reserved.ensures.set in
    kept_then_put (cells c.args.table.now) T (cells c.set_reserved.new.table) n.1.path c.args.node c.in_ok-node.node true holds.root n.1.at k.marks k.at put

pub returns-clause-step : goal.returns-clause-step
returns-clause-step g c = record { refused = tt; unchanged = tt; growth = growth_framed _ _ _ c.in_ok-node.ensures.step.growth c.set_reserved.ensures.frame c.set_reserved.ensures.root_check }
