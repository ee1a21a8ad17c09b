use Rattle.std.proofs.Common.{arith}
use Rattle.cedar_slots.specs.Views.{places_of}
use Rattle.cedar_model.proofs.CellsLemmas.PlacesFound.{held-searched, places-found}
use Rattle.cedar_table.proofs.table.Table.find_places.Goals as goal

pub returns-clause-found : goal.returns-clause-found
returns-clause-found g c = places-found g.L.Layout.kind (places_of c.find_places.new.self) c.args.labels.now c.find_places.result (λ i. omega (arith, c.type_inv.labels i)) c.find_places.ensures.found

pub returns-clause-held : goal.returns-clause-held
returns-clause-held g c = held-searched g.L.Layout.kind (places_of c.args.self.now.places) (places_of c.find_places.new.self) c.requires.sound.sound.shaped.blocks.some c.find_places.result c.find_places.ensures.made c.find_places.ensures.err
