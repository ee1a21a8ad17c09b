use Rattle.std.proofs.Common.{◌∙◌, ap, ◌≡◌, ◌≤◌, ◌*◌, ◌+◌, arith, length, refl, sym}
use Rattle.cedar_model.specs.Edit.Steps.{blocks_after}
use Rattle.cedar_model.specs.Table.TableFields.{Fields, SameSettings}
use Rattle.cedar_slots.specs.Places.{IsTable}
use Rattle.cedar_slots.specs.Views.{places_of}
use Rattle.cedar_table.specs.Table.Views.{fields}
use Rattle.cedar_table.proofs.RoomLemmas.{blocks_enough, blocks_power, blocks_spare, cells_grown, grown_marks, grown_tree, grown_well_formed, room_within}
use Rattle.cedar_table.proofs.table.Table.try_reserve.Goals as goal

pub returns-then-blocks-spare_blocks-clause-capacity : goal.returns-then-blocks-spare_blocks-clause-capacity
returns-then-blocks-spare_blocks-clause-capacity g c =
    let places = (fields c.args.self.now).places in
    let active_in = c.requires.table.sound.shaped.blocks.active_in in
    let room : places.blocks.active + c.args.blocks ≤ length places.blocks.records = omega (arith, active_in, c.spare_blocks.ensures, c.if-blocks-spare_blocks.true) in
    sym (blocks_spare c.args.blocks places.blocks.active (length places.blocks.records) room)

pub grow-requires-clause-doubled : goal.grow-requires-clause-doubled
grow-requires-clause-doubled g c =
    let places = (fields c.args.self.now).places in
    let same : c.len.result ≡ length places.blocks.records = omega (arith, c.len.ensures) in
    let room : c.doubled_for-room.result ≡ blocks_after c.args.blocks places.blocks.active (length places.blocks.records) =
    c.doubled_for-room.ensures.room ∙ ap (blocks_after c.args.blocks places.blocks.active) same in
    let power = blocks_power c.args.blocks places.blocks.active (length places.blocks.records) c.requires.table.sound.doubled in
    (power.0, room ∙ power.1)

pub grow-requires-clause-most : goal.grow-requires-clause-most
grow-requires-clause-most g c =
    let places = (fields c.args.self.now).places in
    let same : c.len.result ≡ length places.blocks.records = omega (arith, c.len.ensures) in
    let room : c.doubled_for-room.result ≡ blocks_after c.args.blocks places.blocks.active (length places.blocks.records) =
    c.doubled_for-room.ensures.room ∙ ap (blocks_after c.args.blocks places.blocks.active) same in
    let fits : 256 * places.blocks.active + 256 * c.args.blocks ≤ g.row.SLOTS =
    omega (arith, c.requires.table.limit.power.1, c.requires.table.within, c.requires.table.sound.shaped.blocks.active_in, c.if-blocks-active.false) in
    let most : 256 * blocks_after c.args.blocks places.blocks.active (length places.blocks.records) ≤ g.row.SLOTS = room_within g.row.SLOTS c.args.blocks places c.requires.table fits in
    omega (arith, c.requires.table.limit.most)

pub returns-clause-well_formed : goal.returns-clause-well_formed
returns-clause-well_formed g c =
    let places = (fields c.args.self.now).places in
    let same : c.len.result ≡ length places.blocks.records = omega (arith, c.len.ensures) in
    let room : c.doubled_for-room.result ≡ blocks_after c.args.blocks places.blocks.active (length places.blocks.records) =
    c.doubled_for-room.ensures.room ∙ ap (blocks_after c.args.blocks places.blocks.active) same in
    let fits : 256 * places.blocks.active + 256 * c.args.blocks ≤ g.row.SLOTS =
    omega (arith, c.requires.table.limit.power.1, c.requires.table.within, c.requires.table.sound.shaped.blocks.active_in, c.if-blocks-active.false) in
    let most : 256 * blocks_after c.args.blocks places.blocks.active (length places.blocks.records) ≤ g.row.SLOTS = room_within g.row.SLOTS c.args.blocks places c.requires.table fits in
    let grown = c.grow.ensures.grown in
    let long : length c.grow.new.self.blocks.records.items ≡ c.doubled_for-room.result = c.in_ok-grow.ensures.len in
    let table : IsTable g.row.SLOTS (places_of c.grow.new.self) = record { sound = c.grow.ensures.sound; limit = c.requires.table.limit; within = omega arith } in
    let new : Fields = record (fields c.args.self.now) { places = places_of c.grow.new.self } in
    let settings : SameSettings (fields c.args.self.now) new = record { ordered = refl; entries = refl; max_trial = grown.max_trial } in
    grown_well_formed g.row.SLOTS (fields c.args.self.now) new c.requires table grown refl settings

pub returns-clause-tree : goal.returns-clause-tree
returns-clause-tree g c =
    let places = (fields c.args.self.now).places in
    let same : c.len.result ≡ length places.blocks.records = omega (arith, c.len.ensures) in
    let room : c.doubled_for-room.result ≡ blocks_after c.args.blocks places.blocks.active (length places.blocks.records) =
    c.doubled_for-room.ensures.room ∙ ap (blocks_after c.args.blocks places.blocks.active) same in
    let fits : 256 * places.blocks.active + 256 * c.args.blocks ≤ g.row.SLOTS =
    omega (arith, c.requires.table.limit.power.1, c.requires.table.within, c.requires.table.sound.shaped.blocks.active_in, c.if-blocks-active.false) in
    let most : 256 * blocks_after c.args.blocks places.blocks.active (length places.blocks.records) ≤ g.row.SLOTS = room_within g.row.SLOTS c.args.blocks places c.requires.table fits in
    let grown = c.grow.ensures.grown in
    let long : length c.grow.new.self.blocks.records.items ≡ c.doubled_for-room.result = c.in_ok-grow.ensures.len in
    let table : IsTable g.row.SLOTS (places_of c.grow.new.self) = record { sound = c.grow.ensures.sound; limit = c.requires.table.limit; within = omega arith } in
    let new : Fields = record (fields c.args.self.now) { places = places_of c.grow.new.self } in
    let settings : SameSettings (fields c.args.self.now) new = record { ordered = refl; entries = refl; max_trial = grown.max_trial } in
    grown_tree g.row.SLOTS (fields c.args.self.now) new c.requires table grown refl settings

pub returns-clause-marks : goal.returns-clause-marks
returns-clause-marks g c =
    let places = (fields c.args.self.now).places in
    let same : c.len.result ≡ length places.blocks.records = omega (arith, c.len.ensures) in
    let room : c.doubled_for-room.result ≡ blocks_after c.args.blocks places.blocks.active (length places.blocks.records) =
    c.doubled_for-room.ensures.room ∙ ap (blocks_after c.args.blocks places.blocks.active) same in
    let fits : 256 * places.blocks.active + 256 * c.args.blocks ≤ g.row.SLOTS =
    omega (arith, c.requires.table.limit.power.1, c.requires.table.within, c.requires.table.sound.shaped.blocks.active_in, c.if-blocks-active.false) in
    let most : 256 * blocks_after c.args.blocks places.blocks.active (length places.blocks.records) ≤ g.row.SLOTS = room_within g.row.SLOTS c.args.blocks places c.requires.table fits in
    let grown = c.grow.ensures.grown in
    let long : length c.grow.new.self.blocks.records.items ≡ c.doubled_for-room.result = c.in_ok-grow.ensures.len in
    let table : IsTable g.row.SLOTS (places_of c.grow.new.self) = record { sound = c.grow.ensures.sound; limit = c.requires.table.limit; within = omega arith } in
    let new : Fields = record (fields c.args.self.now) { places = places_of c.grow.new.self } in
    let settings : SameSettings (fields c.args.self.now) new = record { ordered = refl; entries = refl; max_trial = grown.max_trial } in
    grown_marks g.row.SLOTS (fields c.args.self.now) new c.requires table grown refl settings

pub returns-clause-cells : goal.returns-clause-cells
returns-clause-cells g c = cells_grown g.L.Layout.kind (places_of c.args.self.now.places) (places_of c.grow.new.self) c.grow.ensures.grown

pub returns-clause-spare : goal.returns-clause-spare
returns-clause-spare g c =
    let places = (fields c.args.self.now).places in
    let same : c.len.result ≡ length places.blocks.records = omega (arith, c.len.ensures) in
    let room : c.doubled_for-room.result ≡ blocks_after c.args.blocks places.blocks.active (length places.blocks.records) =
    c.doubled_for-room.ensures.room ∙ ap (blocks_after c.args.blocks places.blocks.active) same in
    let shaped = c.requires.table.sound.shaped in
    let enough : places.blocks.active + c.args.blocks ≤ blocks_after c.args.blocks places.blocks.active (length places.blocks.records) =
    blocks_enough c.args.blocks places.blocks.active (length places.blocks.records) shaped.blocks.active_in (omega (arith, shaped.blocks.some, shaped.blocks.active_in)) in
    let long : length c.grow.new.self.blocks.records.items ≡ c.doubled_for-room.result = c.in_ok-grow.ensures.len in
    let active : c.grow.new.self.blocks.active ≡ places.blocks.active = c.grow.ensures.grown.active in
    omega arith
