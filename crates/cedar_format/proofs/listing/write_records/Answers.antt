use Rattle.std.proofs.Common.{rules, arith}
use Rattle.cedar_format.proofs.Pieces.{fits_more, written_more}
use Rattle.cedar_format.proofs.listing.write_records.Goals as goal

pub loop-done-preserved : goal.loop-done-preserved
loop-done-preserved g c =
    let loop = c.loop-done in
    let count = c.min-count.result in
    record {
      within = omega (arith, c.min-count.ensures);
      bytes = written_more g.T.Record.bytes_of c.args.records.now loop.done count _ _ _ loop.invariant.bytes c.in_ok-write_piece.ensures.bytes;
      fits = fits_more g.T.Record.Fits c.args.records.now loop.done count loop.invariant.fits c.in_ok-write_piece.ensures.fits;
      failed = search rules;
    }
