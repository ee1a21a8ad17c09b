use Rattle.std.proofs.Common.{◌≡◌, of_z, rules, to_z, w32}
use Rattle.cedar_table.proofs.SamePlaces.{same_places}
use Rattle.cedar_table.proofs.clone.copied_places.Goals as goal

pub returns : goal.returns
returns g c =
    let blocks = c.args.places.now.blocks in
    let full : to_z w32 (of_z w32 blocks.full_head) ≡ blocks.full_head = search rules in
    let closed : to_z w32 (of_z w32 blocks.closed_head) ≡ blocks.closed_head = search rules in
    let opened : to_z w32 (of_z w32 blocks.open_head) ≡ blocks.open_head = search rules in
    let trials : to_z w32 (of_z w32 blocks.max_trial) ≡ blocks.max_trial = search rules in
    same_places blocks.active c.in_ok-try_copy.ensures.items c.in_ok-try_copy-2.ensures.items c.in_ok-try_copy-3.ensures.items full closed opened trials c.in_ok-copy_of.ensures
