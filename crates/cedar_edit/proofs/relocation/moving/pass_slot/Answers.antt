use Rattle.std.proofs.Common.{◌≡◌, subst}
use Rattle.std.specs.Prelude.{pos}
use Rattle.cedar_model.specs.Relocation.Renaming.{Renames, single}
use Rattle.cedar_model.specs.Relocation.Reserved.{cells_without}
use Rattle.cedar_table.specs.Table.Views.{cells}
use Rattle.cedar_model.proofs.RelocationLemmas.KeptSlot.{marked_same, renames_same}
use Rattle.cedar_edit.proofs.relocation.moving.pass_slot.Goals as goal

pub returns-then-from-wanted-clause-passed : goal.returns-then-from-wanted-clause-passed
returns-then-from-wanted-clause-passed g c = λ same.
    let T' = cells c.set_check.new.self in
    let at = c.set_check.ensures.at in
    let not_root : c.args.from ≡ 0 → ⊥ = λ e. c.requires.root c.args.owner (subst (λ x. (cells c.args.table.now).check x ≡ pos c.args.owner) e c.requires.mine) in
    subst (λ w. Renames (cells c.args.table.now) (cells_without T' w) (single c.args.from c.args.to) × (T'.check w ≡ pos 0)) same
    (renames_same _ _ (cells_without T' c.args.from) _ c.copy_slot.ensures.renamed (marked_same _ T' c.args.from 0 not_root at), at.at)
