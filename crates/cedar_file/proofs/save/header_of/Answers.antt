use Rattle.std.proofs.Common.{rules, ◌≡◌, to_z, of_z, w32}
use Rattle.cedar_file.proofs.save.header_of.Goals as goal

pub returns : goal.returns
returns g c =
    let max_trial : to_z w32 (of_z w32 c.max_trial.result) ≡ c.max_trial.result = search rules in
    let full : to_z w32 (of_z w32 c.full_head.result) ≡ c.full_head.result = search rules in
    let closed : to_z w32 (of_z w32 c.closed_head.result) ≡ c.closed_head.result = search rules in
    let opened : to_z w32 (of_z w32 c.open_head.result) ≡ c.open_head.result = search rules in
    rw (max_trial, full, closed, opened) (rw (c.ordered.ensures, c.max_trial.ensures, c.full_head.ensures, c.closed_head.ensures, c.open_head.ensures, c.listed_slots-slots_listed.ensures, c.capacity.ensures, c.size.ensures, c.reject_values.ensures, c.capacity-2.ensures, c.size-2.ensures, c.entries.ensures))
