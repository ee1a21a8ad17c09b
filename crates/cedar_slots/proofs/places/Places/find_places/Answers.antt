use Rattle.std.proofs.Common.{◌+◌, ◌<◌, arith, inr, subst, sym}
use Rattle.cedar_slots.specs.Places.{AddsBlock}
use Rattle.cedar_slots.proofs.PlacementLemmas.PlaceSearch.{AddsBlock-from, IsBase-made, made_block}
use Rattle.cedar_slots.proofs.PlacementLemmas.Tried.{tries_fewer, tries_one_more}
use Rattle.cedar_slots.proofs.places.Places.find_places.Goals as goal
use Rattle.cedar_slots.specs.Views.{blocks_of, places_of}

pub returns-clause-found : goal.returns-clause-found
returns-clause-found g c =
    let small : c.from.result < 256 = omega (arith, c.type_inv.labels 0) in
    IsBase-made (places_of c.search.new.self) (places_of c.add_block.new.self) c.in_ok-block.block c.from.result c.args.labels.now c.search.ensures.sound.shaped.blocks.some c.in_ok-block.ensures.added (λ i. omega (arith, c.type_inv.labels i)) small

pub returns-clause-made : goal.returns-clause-made
returns-clause-made g c =
    let small : c.from.result < 256 = omega (arith, c.type_inv.labels 0) in
    let same = c.search.ensures.same in
    inr (subst (AddsBlock (places_of c.args.self.now) (places_of c.add_block.new.self)) (sym (made_block c.in_ok-block.block c.from.result small)) (AddsBlock-from (places_of c.args.self.now) (places_of c.search.new.self) (places_of c.add_block.new.self) c.in_ok-block.block same.slots same.active same.len same.max_trial c.in_ok-block.ensures.added))

pub returns-clause-tried : goal.returns-clause-tried
returns-clause-tried g c =
    let before = blocks_of c.args.self.now.blocks in
    tries_one_more c.args.search_limit before (blocks_of c.search.new.self.blocks) (blocks_of c.add_block.new.self.blocks) c.in_ok-block.block c.search.ensures.tried c.in_ok-block.ensures.others

pub returns-in-Some-clause-tried : goal.returns-in-Some-clause-tried
returns-in-Some-clause-tried g c =
    let limit = c.args.search_limit in
    tries_fewer limit (limit + 1) (blocks_of c.args.self.now.blocks) (blocks_of c.search.new.self.blocks) (omega arith) c.search.ensures.tried
