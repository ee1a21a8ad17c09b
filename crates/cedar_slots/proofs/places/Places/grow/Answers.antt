use Rattle.std.proofs.Common.{◌≡◌, ◌∙◌, ap, arith, length, refl}
use Rattle.cedar_slots.specs.Blocks.{blank_block, block_at}
use Rattle.cedar_slots.specs.Places.{Grown, PlaceFields, Shaped}
use Rattle.cedar_slots.specs.Slots.{blank_info, blank_node, info_at, node_record_at}
use Rattle.cedar_slots.specs.Views.{places_of}
use Rattle.cedar_slots.proofs.ListsLemmas.ThreeLists.{cases_list}
use Rattle.cedar_slots.proofs.PlacementLemmas.Growth.{grown_same, length-grown, Sound-grown}
use Rattle.cedar_slots.proofs.places.Places.grow.Goals as goal

pub returns-clause-grown : goal.returns-clause-grown
returns-clause-grown g c =
    record {
      nodes = λ s. grown_same c.reserve.new.self.items c.extend.new.self.items _ blank_node c.extend.ensures.items s ∙ ap (λ xs. node_record_at xs s) c.reserve.ensures.items;
      infos = λ s. grown_same c.reserve-2.new.self.items c.extend-2.new.self.items _ blank_info c.extend-2.ensures.items s ∙ ap (λ xs. info_at xs s) c.reserve-2.ensures.items;
      records = λ b. grown_same c.reserve-3.new.self.items c.extend-3.new.self.items _ blank_block c.extend-3.ensures.items b ∙ ap (λ xs. block_at xs b) c.reserve-3.ensures.items;
      heads = cases_list _ refl refl refl;
      active = refl;
      max_trial = refl;
      reject = refl;
    }

pub returns-clause-len : goal.returns-clause-len
returns-clause-len g c =
    let len = length-grown c.reserve-3.new.self.items c.extend-3.new.self.items _ blank_block c.extend-3.ensures.items in
    omega (arith, len, ap length c.reserve-3.ensures.items, c.requires.more)

pub returns-clause-sound : goal.returns-clause-sound
returns-clause-sound g c =
    let old = places_of c.args.self.now in
    let new : PlaceFields = record old { slots = record old.slots { nodes = c.extend.new.self.items; infos = c.extend-2.new.self.items }; blocks = record old.blocks { records = c.extend-3.new.self.items } } in
    let shaped = c.requires.sound.shaped in
    let grown : Grown old new = returns-clause-grown g c in
    let nodes = length-grown c.reserve.new.self.items c.extend.new.self.items _ blank_node c.extend.ensures.items in
    let infos = length-grown c.reserve-2.new.self.items c.extend-2.new.self.items _ blank_info c.extend-2.ensures.items in
    let records = length-grown c.reserve-3.new.self.items c.extend-3.new.self.items _ blank_block c.extend-3.ensures.items in
    let nodes_len = ap length c.reserve.ensures.items in
    let infos_len = ap length c.reserve-2.ensures.items in
    let records_len = ap length c.reserve-3.ensures.items in
    let len : length new.blocks.records ≡ c.args.room = omega (arith, records, records_len, c.requires.more) in
    let now_shaped : Shaped new = record {
      blocks = record {
        some = shaped.blocks.some;
        active_in = omega (arith, shaped.blocks.active_in, c.requires.more, len);
        fits = omega (arith, c.requires.most, len);
      };
      nodes = omega (arith, len, nodes, nodes_len, shaped.nodes, c.requires.more);
      infos = omega (arith, nodes, nodes_len, infos, infos_len, shaped.infos);
    } in
    Sound-grown old new c.requires.sound grown now_shaped (c.requires.doubled.0, len ∙ c.requires.doubled.1)
