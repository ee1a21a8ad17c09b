use Rattle.std.proofs.Common.{◌≡◌, ◌<◌, arith, inr, rules, subst, sym}
use Rattle.std.specs.Prelude.{pos}
use Rattle.cedar_table.specs.Table.Views.{cells}
use Rattle.cedar_model.proofs.UpdateLemmas.Frame.{frame_then}
use Rattle.cedar_model.proofs.RelocationLemmas.KeptSlot.{given_same, renames_same}
use Rattle.cedar_edit.proofs.relocation.moving.move_slot.Goals as goal

pub push_e_node-requires : goal.push_e_node-requires
push_e_node-requires g c =
    let copy = c.copy_slot.ensures in
    let not_root : c.args.from ≡ 0 → ⊥ = λ e. c.requires.root c.args.owner (subst (λ x. (cells c.args.table.now).check x ≡ pos c.args.owner) e c.requires.mine) in
    (search rules, (copy.sound, (subst (λ n. c.args.from < n) (sym copy.frame.size) c.requires.from_in, (inr (c.args.owner, copy.still), omega (arith, not_root)))))

pub returns-clause-renamed : goal.returns-clause-renamed
returns-clause-renamed g c =
    let not_root : c.args.from ≡ 0 → ⊥ = λ e. c.requires.root c.args.owner (subst (λ x. (cells c.args.table.now).check x ≡ pos c.args.owner) e c.requires.mine) in
    renames_same _ _ _ _ c.copy_slot.ensures.renamed (given_same _ _ c.args.from not_root c.push_e_node.ensures.gives)

pub returns-clause-frame : goal.returns-clause-frame
returns-clause-frame g c = frame_then _ _ _ c.copy_slot.ensures.frame c.push_e_node.ensures.frame
