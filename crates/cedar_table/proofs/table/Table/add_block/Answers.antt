use Rattle.std.proofs.Common.{ap}
use Rattle.std.proofs.lemmas.Result.{on_err_weaker}
use Rattle.cedar_slots.specs.Views.{places_of}
use Rattle.cedar_slots.specs.Places.{PlaceFields}
use Rattle.cedar_table.specs.Table.Views.{fields}
use Rattle.cedar_model.proofs.CellsLemmas.PlacesFound.{held-added}
use Rattle.cedar_table.proofs.table.Table.add_block.Goals as goal

pub returns-clause-held : goal.returns-clause-held
returns-clause-held g c = held-added g.L.Layout.kind (places_of c.args.self.now.places) (places_of c.add_block.new.self) c.requires.sound.shaped.blocks.some c.add_block.result c.add_block.ensures.added c.add_block.ensures.unchanged

pub returns-clause-unchanged : goal.returns-clause-unchanged
returns-clause-unchanged g c = on_err_weaker c.add_block.result (λ same. ap (λ (v : PlaceFields). record (fields c.args.self.now) { places = v }) same) c.add_block.ensures.unchanged
