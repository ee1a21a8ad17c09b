use Rattle.std.proofs.Common.{◌≡◌, ◌≤◌, ◌++◌, ◌/◌, ◌∙◌, ap, arith, length, length-take, List, sym, ℕ}
use Rattle.cedar_table.specs.Table.Views.{fields}
use Rattle.cedar_model.specs.Table.Layouts.{layout_byte}
use Rattle.cedar_format.specs.Format.{header_bytes}
use Rattle.cedar_format.specs.Tables.{slots_listed}
use Rattle.cedar_format.specs.declared.header.Header.{Header}
use Rattle.cedar_format.proofs.Passing.{length-table_bytes}
use Rattle.cedar_format.proofs.Writing.{written}
use Rattle.cedar_file.proofs.save.put_whole.Goals as goal

pub split_at_mut-of_header-requires : goal.split_at_mut-of_header-requires
split_at_mut-of_header-requires g c =
    let T = fields c.args.table.now in
    omega (arith, c.requires.len, length-table_bytes c.args.minor T c.args.table.now.shaped)

pub put_lists-requires : goal.put_lists-requires
put_lists-requires g c =
    let T = fields c.args.table.now in
    let h = c.header_of-header.result in
    let is = c.header_of-header.ensures in
    let slots : h.array_len ≡ slots_listed c.args.minor T = ap (λ (k : Header). k.array_len) is in
    let listed : h.blocks_len ≡ slots_listed c.args.minor T / 256 = ap (λ (k : Header). k.blocks_len) is in
    let nodes : length c.front-nodes.result.now ≤ h.array_len =
    omega (arith, ap length c.front-nodes.ensures, length-take h.array_len c.node_records.result.now) in
    let n_infos : length c.front-n_infos.result.now ≤ h.array_len =
    omega (arith, ap length c.front-n_infos.ensures, length-take h.array_len c.info_records.result.now) in
    let blocks : length c.front-blocks.result.now ≤ h.array_len / 256 =
    omega (arith, ap length c.front-blocks.ensures, length-take h.blocks_len c.block_records.result.now, slots, listed) in
    let rejects = ap length c.reject_values.ensures in
    record {
      nodes = nodes;
      n_infos = n_infos;
      blocks = blocks;
      len = omega (arith, c.requires.len, rejects, slots, length-table_bytes c.args.minor T c.args.table.now.shaped);
    }

pub returns : goal.returns
returns g c =
    let h = c.header_of-header.result in
    let T = fields c.args.table.now in
    let lists = rw (c.front-nodes.ensures, c.front-n_infos.ensures, c.front-blocks.ensures, c.reject_values.ensures) at c.put_lists.ensures in
    let head = rw c.file_byte.ensures at c.put_header.ensures in
    ap (λ (front : List ℕ). front ++ c.put_lists.new.bytes) head
    ∙ ap (λ (back : List ℕ). header_bytes (layout_byte T.layout) h ++ back) lists
    ∙ written c.args.minor T h c.header_of-header.ensures c.args.table.now.shaped c.node_records.result.now c.info_records.result.now c.block_records.result.now c.node_records.ensures.all c.info_records.ensures.all c.block_records.ensures.all
