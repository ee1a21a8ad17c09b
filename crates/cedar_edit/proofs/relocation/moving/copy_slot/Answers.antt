use Rattle.std.proofs.Common.{◌≡◌, ◌<◌, ◌∙◌, ap, arith, inr, rules, subst, sym, pos, ℤ, w32, FitsSigned}
use Rattle.std.proofs.lemmas.Int.{to_z-of_z}
use Rattle.cedar_model.specs.Table.Cells.{Held}
use Rattle.cedar_model.specs.Table.Layouts.{reading}
use Rattle.cedar_table.specs.Table.Views.{cells}
use Rattle.cedar_model.proofs.UpdateLemmas.Frame.{frame_then}
use Rattle.cedar_model.proofs.RelocationLemmas.Repointed.{repointed_held}
use Rattle.cedar_model.proofs.RelocationLemmas.OneSlot.{copied, move_renames}
use Rattle.cedar_model.proofs.RelocationLemmas.KeptSlot.{gives_freed}
use Rattle.cedar_model.proofs.MeaningLemmas.ExclusiveOr.{pos_injective}
use Rattle.cedar_edit.proofs.relocation.moving.copy_slot.Goals as goal

pub repoint_under-requires : goal.repoint_under-requires
repoint_under-requires g c =
    let shaped = c.args.table.now.shaped in
    (search rules, record { sound = c.requires.sound; from_in = c.requires.from_in; not_root = λ e. c.requires.root c.args.owner (subst (λ x. (cells c.args.table.now).check x ≡ pos c.args.owner) e c.requires.mine); to_in = omega (arith, c.requires.to_in, shaped.blocks.active_in, shaped.blocks.fits); node = c.requires.node; alone = c.requires.alone })

pub pop_e_node-requires : goal.pop_e_node-requires
pop_e_node-requires g c =
    let shaped = c.args.table.now.shaped in
    let same = sym c.repoint_under.ensures.frame.size in
    (search rules, (c.repoint_under.ensures.sound, (subst (λ n. c.args.to < n) same c.requires.to_in, ((λ h. c.requires.free (repointed_held _ _ c.args.from c.args.to c.repoint_under.ensures.repointed c.args.to h)), omega (arith, c.requires.owner_in, shaped.blocks.active_in, shaped.blocks.fits)))))

pub write_info-requires : goal.write_info-requires
write_info-requires g c =
    let same = sym (c.pop_e_node.ensures.frame.size ∙ c.repoint_under.ensures.frame.size) in
    (search rules, (c.pop_e_node.ensures.sound, (subst (λ n. c.args.to < n) same c.requires.to_in, inr (c.args.owner, c.pop_e_node.ensures.takes.at))))

pub returns-clause-still : goal.returns-clause-still
returns-clause-still g c =
    let apart : c.args.from ≡ c.args.to → ⊥ = λ e. c.requires.free (subst (Held (cells c.args.table.now)) e (inr (c.args.owner, c.requires.mine))) in
    let first : (cells c.repoint_under.new.table).check c.args.from ≡ pos c.args.owner = c.repoint_under.ensures.repointed.kept c.args.from (λ e _. c.requires.not_own (pos_injective c.args.owner c.args.from (sym c.requires.mine ∙ e))) ∙ c.requires.mine in
    c.write_info.ensures.written.check c.args.from ∙ (c.pop_e_node.ensures.takes.other c.args.from apart (inr (c.args.owner, first))).check ∙ first

pub returns-clause-renamed : goal.returns-clause-renamed
returns-clause-renamed g c =
    let apart : c.args.from ≡ c.args.to → ⊥ = λ e. c.requires.free (subst (Held (cells c.args.table.now)) e (inr (c.args.owner, c.requires.mine))) in
    let first : (cells c.repoint_under.new.table).check c.args.from ≡ pos c.args.owner = c.repoint_under.ensures.repointed.kept c.args.from (λ e _. c.requires.not_own (pos_injective c.args.owner c.args.from (sym c.requires.mine ∙ e))) ∙ c.requires.mine in
    let r : ℤ = c.base-base.result in
    let fits : FitsSigned w32 r = search rules in
    let base = to_z-of_z w32 r fits ∙ c.base-base.ensures in
    let copy = copied _ _ _ c.args.from c.args.to c.args.owner _ _ first apart c.pop_e_node.ensures.takes (c.pop_e_node.ensures.base ∙ base) (c.pop_e_node.ensures.stored ∙ ap (reading g.L.Layout.kind) base) c.write_info.ensures.written c.sibling.ensures c.child.ensures in
    move_renames _ _ _ _ _ c.args.from c.args.to c.args.owner c.requires.mine c.requires.not_own c.requires.free c.requires.root c.repoint_under.ensures.repointed c.pop_e_node.ensures.takes copy (gives_freed _ c.args.from (λ e. c.requires.root c.args.owner (subst (λ x. (cells c.args.table.now).check x ≡ pos c.args.owner) e c.requires.mine)))

pub returns-clause-frame : goal.returns-clause-frame
returns-clause-frame g c =
    frame_then _ _ _ c.repoint_under.ensures.frame
    (frame_then _ _ _ c.pop_e_node.ensures.frame c.write_info.ensures.frame)
