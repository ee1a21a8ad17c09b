use Rattle.std.proofs.Common.{◌≡◌, arith, get_or, inl, inr, length, rules}
use Rattle.cedar_table.specs.Table.Views.{cells, fields}
use Rattle.cedar_model.specs.Table.TableFields.{size_of}
use Rattle.cedar_model.proofs.RelocationLemmas.PlacesFirst.{one_place}
use Rattle.cedar_model.proofs.UpdateLemmas.BlocksMade.{found_blocks, made_nothing, searched_blocks}
use Rattle.cedar_table.proofs.table.Table.place_for.Goals as goal

pub returns-then-labels-eq1-clause-found : goal.returns-then-labels-eq1-clause-found
returns-then-labels-eq1-clause-found g c =
    let one : length c.args.labels.now ≡ 1 = search rules in
    let label : c.from.result ≡ get_or c.args.labels.now 0 0 = search rules in
    one_place (size_of (fields c.find_place.new.self)) (cells c.find_place.new.self) c.in_ok-slot.slot c.from.result c.args.labels.now one label c.in_ok-slot.ensures.found

pub returns-then-labels-eq1-clause-blocks : goal.returns-then-labels-eq1-clause-blocks
returns-then-labels-eq1-clause-blocks g c = found_blocks _ (fields c.args.self.now) (fields c.find_place.new.self) _ c.in_ok-slot.ensures.made

pub returns-clause-blocks : goal.returns-clause-blocks
returns-clause-blocks g c = searched_blocks (fields c.args.self.now) (fields c.find_places.new.self) c.find_places.result c.find_places.ensures.made c.find_places.ensures.same

pub returns-in_err-slot-clause-blocks : goal.returns-in_err-slot-clause-blocks
returns-in_err-slot-clause-blocks g c = (0, omega arith, made_nothing (fields c.args.self.now) (fields c.find_place.new.self) c.in_err-slot.ensures.unchanged)

pub returns-then-labels-eq1-clause-single : goal.returns-then-labels-eq1-clause-single
returns-then-labels-eq1-clause-single g c = λ one. elim c.in_ok-slot.ensures.made [
  | inl same ↦ inl (tt, made_nothing (fields c.args.self.now) (fields c.find_place.new.self) same)
  | inr added ↦ inr added.0
]
