use Rattle.std.proofs.Common.{arith, ap, ◌∙◌, ◌*◌}
use Rattle.std.proofs.lemmas.Result.{err_from_is_err_and}
use Rattle.std.specs.List.{flat_map}
use Rattle.cedar_format.proofs.Lists.{length-flat_map_same}
use Rattle.cedar_format.proofs.Missing.{EndsShort-after_part, Misses-after_part}
use Rattle.cedar_format.proofs.listing.read_records.Goals as goal

pub returns-in_err-read_piece-clause-misses : goal.returns-in_err-read_piece-clause-misses
returns-in_err-read_piece-clause-misses g c =
    let p = err_from_is_err_and c.from_residual.result c.from_residual.ensures.1 in
    let items = c.loop-buffer.records.items in
    let len = length-flat_map_same g.T.Record.bytes_of g.T.Record.LEN g.met.T.Record.same_len items in
    let same = c.loop-buffer.records.ok.0 in
    let count = c.loop-buffer.invariant.count in
    rw (p.1, p.2) (Misses-after_part _ _ (flat_map g.T.Record.bytes_of items) _ _ _ c.args.count g.T.Record.LEN _ len (omega (arith, c.min.ensures)) c.loop-buffer.invariant.bytes c.in_err-read_piece.ensures.misses)

pub returns-in_err-read_piece-clause-short : goal.returns-in_err-read_piece-clause-short
returns-in_err-read_piece-clause-short g c =
    let p = err_from_is_err_and c.from_residual.result c.from_residual.ensures.1 in
    let items = c.loop-buffer.records.items in
    let len = length-flat_map_same g.T.Record.bytes_of g.T.Record.LEN g.met.T.Record.same_len items in
    let same = c.loop-buffer.records.ok.0 in
    let count = c.loop-buffer.invariant.count in
    rw (p.1, p.2) (EndsShort-after_part _ _ (flat_map g.T.Record.bytes_of items) _ _ _ c.args.count g.T.Record.LEN _ len (omega (arith, c.min.ensures)) c.loop-buffer.invariant.bytes c.in_err-read_piece.ensures.short)

pub returns-clause-len : goal.returns-clause-len
returns-clause-len g c =
    let items = c.loop-buffer.records.items in
    let same = c.loop-buffer.records.ok.0 in
    let count = c.loop-buffer.invariant.count in
    length-flat_map_same g.T.Record.bytes_of g.T.Record.LEN g.met.T.Record.same_len items ∙ ap (λ n. n * g.T.Record.LEN) (omega arith)
