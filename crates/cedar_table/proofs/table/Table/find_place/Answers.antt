use Rattle.std.proofs.Common.{ap}
use Rattle.std.proofs.lemmas.Result.{on_err_weaker}
use Rattle.cedar_slots.specs.Views.{places_of}
use Rattle.cedar_slots.specs.Places.{PlaceFields}
use Rattle.cedar_table.specs.Table.Views.{fields}
use Rattle.cedar_model.proofs.CellsLemmas.PlacesFound.{held-found, made-found, none-found, place-found}
use Rattle.cedar_table.proofs.table.Table.find_place.Goals as goal

pub returns-clause-found : goal.returns-clause-found
returns-clause-found g c = place-found g.L.Layout.kind (places_of c.find_place.new.self) c.find_place.result c.find_place.ensures.found

pub returns-clause-made : goal.returns-clause-made
returns-clause-made g c = made-found g.L.Layout.kind (places_of c.args.self.now.places) (places_of c.find_place.new.self) (λ v. record (fields c.args.self.now) { places = v }) c.find_place.result c.find_place.ensures.made

pub returns-clause-refused : goal.returns-clause-refused
returns-clause-refused g c = none-found g.L.Layout.kind (places_of c.args.self.now.places) g.row.SLOTS c.find_place.result c.find_place.ensures.refused

pub returns-clause-held : goal.returns-clause-held
returns-clause-held g c = held-found g.L.Layout.kind (places_of c.args.self.now.places) (places_of c.find_place.new.self) c.requires.sound.shaped.blocks.some c.find_place.result c.find_place.ensures.made c.find_place.ensures.unchanged

pub returns-clause-unchanged : goal.returns-clause-unchanged
returns-clause-unchanged g c = on_err_weaker c.find_place.result (λ same. ap (λ (v : PlaceFields). record (fields c.args.self.now) { places = v }) same) c.find_place.ensures.unchanged
