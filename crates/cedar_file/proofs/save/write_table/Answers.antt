use Rattle.std.proofs.Common.{◌≡◌, ap, subst, sym, ◌∙◌}
use Rattle.std.proofs.KnownBytes.{Appends-trans}
use Rattle.std.proofs.lemmas.Result.{err_from_is_err_and, on_ok_weaker}
use Rattle.std.specs.Io.KnownBytes.{Appends}
use Rattle.cedar_table.specs.Table.Views.{fields}
use Rattle.cedar_format.proofs.Writing.{written, written_fits}
use Rattle.cedar_file.proofs.save.write_table.Goals as goal

pub returns-clause-bytes : goal.returns-clause-bytes
returns-clause-bytes g c =
    let h = c.header_of-header.result in
    let T = fields c.args.table.now in
    let lists = rw (c.front-nodes.ensures, c.front-n_infos.ensures, c.front-blocks.ensures, c.reject_values.ensures) at c.write_lists.ensures.bytes in
    let head = rw c.file_byte.ensures at c.in_ok-write_header.ensures.bytes in
    on_ok_weaker c.write_lists.result
    (λ body. subst (Appends _ _) (written c.args.minor T h c.header_of-header.ensures c.args.table.now.shaped c.node_records.result.now c.info_records.result.now c.block_records.result.now c.node_records.ensures.all c.info_records.ensures.all c.block_records.ensures.all) (Appends-trans _ _ _ _ _ head body))
    lists

pub returns-clause-fits : goal.returns-clause-fits
returns-clause-fits g c =
    let h = c.header_of-header.result in
    let T = fields c.args.table.now in
    let lists = rw (c.front-nodes.ensures, c.front-n_infos.ensures, c.front-blocks.ensures, c.reject_values.ensures) at c.write_lists.ensures.fits in
    on_ok_weaker c.write_lists.result
    (λ body. written_fits c.args.minor T h c.header_of-header.ensures c.args.table.now.shaped c.node_records.result.now c.info_records.result.now c.block_records.result.now c.node_records.ensures.all c.info_records.ensures.all c.block_records.ensures.all c.in_ok-write_header.ensures.fits body)
    lists

pub returns-in_err-write_header-clause-bytes : goal.returns-in_err-write_header-clause-bytes
returns-in_err-write_header-clause-bytes g c =
    let p = err_from_is_err_and c.from_residual.result c.from_residual.ensures.1 in
    rw p.1 tt

pub returns-in_err-write_header-clause-fits : goal.returns-in_err-write_header-clause-fits
returns-in_err-write_header-clause-fits g c =
    let p = err_from_is_err_and c.from_residual.result c.from_residual.ensures.1 in
    rw p.1 tt

pub returns-in_err-write_header-clause-err : goal.returns-in_err-write_header-clause-err
returns-in_err-write_header-clause-err g c =
    let p = err_from_is_err_and c.from_residual.result c.from_residual.ensures.1 in
    rw (p.1, p.2) c.in_err-write_header.ensures.err

pub returns-in_err-write_header-clause-failed : goal.returns-in_err-write_header-clause-failed
returns-in_err-write_header-clause-failed g c = c.in_err-write_header.ensures.failed

pub returns-clause-err : goal.returns-clause-err
returns-clause-err g c = c.write_lists.ensures.err

pub returns-clause-failed : goal.returns-clause-failed
returns-clause-failed g c = λ was. c.write_lists.ensures.failed (c.in_ok-write_header.ensures.failed was)
