use Rattle.std.proofs.Common.{◌≡◌, ap, refl, rules, subst, w32, FitsSigned}
use Rattle.std.specs.Prelude.{negsuc}
use Rattle.std.proofs.lemmas.Int.{to_z-of_z}
use Rattle.cedar_slots.specs.declared.records.NodeRecord.{NodeRecord}
use Rattle.cedar_model.specs.declared.layout.Stored.TheVariants.{AtBase}
use Rattle.cedar_slots.specs.Places.{IsNewPlaces}
use Rattle.cedar_slots.specs.Slots.{check_at}
use Rattle.cedar_model.specs.Table.TableFields.{Fields}
use Rattle.cedar_slots.specs.Views.{places_of}
use Rattle.cedar_model.specs.Meaning.WellFormed.{cells_in}
use Rattle.cedar_slots.proofs.PlacementLemmas.FirstBlock.{IsTable-new}
use Rattle.cedar_model.proofs.CellsLemmas.FirstSlots.{bare_new}
use Rattle.cedar_model.proofs.MeaningLemmas.TreeOf.{new_tree, new_well_formed}
use Rattle.cedar_table.proofs.table.Table.new.Goals as goal

pub returns-clause-well_formed : goal.returns-clause-well_formed
returns-clause-well_formed g c =
    let T : Fields = record { layout = g.L.Layout.kind; ordered = c.args.ordered; entries = 0; places = places_of c.in_ok-new.field-0 } in
    let root : check_at T.places.slots.nodes 0 ≡ negsuc 0 = ap (λ (n : NodeRecord). n.check) c.in_ok-new.ensures.root in
    let root_check : (cells_in T).check 0 ≡ negsuc 0 = search rules in
    let root_base : (cells_in T).stored 0 ≡ AtBase 0 = search rules in
    new_well_formed g.row.SLOTS T _ (IsTable-new g.row.SLOTS _ _ c.requires.limit c.in_ok-new.ensures.sound c.in_ok-new.ensures.made) c.in_ok-new.ensures.made root root_check root_base refl

pub returns-clause-tree : goal.returns-clause-tree
returns-clause-tree g c =
    let T : Fields = record { layout = g.L.Layout.kind; ordered = c.args.ordered; entries = 0; places = places_of c.in_ok-new.field-0 } in
    let root_check : (cells_in T).check 0 ≡ negsuc 0 = search rules in
    let root_base : (cells_in T).stored 0 ≡ AtBase 0 = search rules in
    new_tree T _ c.in_ok-new.ensures.made root_check root_base

pub returns-clause-sound : goal.returns-clause-sound
returns-clause-sound g c = IsTable-new g.row.SLOTS _ _ c.requires.limit c.in_ok-new.ensures.sound c.in_ok-new.ensures.made

pub returns-clause-made : goal.returns-clause-made
returns-clause-made g c =
    let fits : FitsSigned w32 c.args.max_trial = search rules in
    subst (IsNewPlaces _) (to_z-of_z w32 c.args.max_trial fits) c.in_ok-new.ensures.made

pub returns-clause-bare : goal.returns-clause-bare
returns-clause-bare g c = bare_new g.L.Layout.kind _ _ c.in_ok-new.ensures.made
