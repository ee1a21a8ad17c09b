use Rattle.std.proofs.Common.{◌∙◌}
use Rattle.cedar_table.specs.Table.Views.{cells}
use Rattle.cedar_slots.specs.Views.{places_of}
use Rattle.cedar_model.proofs.CellsLemmas.PlacesFound.{held-count, held-is_held, is_held-true}
use Rattle.cedar_table.proofs.table.Table.used_node_slots.Goals as goal

pub returns-clause-count : goal.returns-clause-count
returns-clause-count g c = c.held_slots.ensures ∙ held-count g.L.Layout.kind (places_of c.args.self.now.places)

pub returns-clause-test : goal.returns-clause-test
returns-clause-test g c s = (is_held-true (cells c.args.self.now) s, held-is_held (cells c.args.self.now) s)
