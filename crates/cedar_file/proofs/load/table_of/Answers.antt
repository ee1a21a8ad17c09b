use Rattle.std.proofs.Common.{rules, ◌≡◌, to_z, of_z, w32}
use Rattle.cedar_format.proofs.FileTable.{file_rejects, file_shaped}
use Rattle.cedar_file.proofs.load.table_of.Goals as goal

pub from_records-requires : goal.from_records-requires
from_records-requires g c =
    let d = c.args.decoded in
    let h = d.header in
    let max_trial : to_z w32 (of_z w32 h.max_trial) ≡ h.max_trial = search rules in
    let full : to_z w32 (of_z w32 h.full_head) ≡ h.full_head = search rules in
    let closed : to_z w32 (of_z w32 h.closed_head) ≡ h.closed_head = search rules in
    let opened : to_z w32 (of_z w32 h.open_head) ≡ h.open_head = search rules in
    let shaped = file_shaped g.L.Layout.kind g.row.SLOTS c.args.memory_limit h d.nodes.items d.n_infos.items d.blocks.items d.reject.items c.requires.file c.requires.slots in
    let rejects = file_rejects g.L.Layout.kind g.row.SLOTS c.args.memory_limit h d.nodes.items d.n_infos.items d.blocks.items d.reject.items c.requires.file in
    (search rules, (rw (max_trial, full, closed, opened) shaped, rejects))
