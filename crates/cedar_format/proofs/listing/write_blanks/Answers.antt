use Rattle.std.proofs.Common.{rules, arith}
use Rattle.cedar_format.proofs.Pieces.{blanks_fit, blanks_more}
use Rattle.cedar_format.proofs.listing.write_blanks.Goals as goal

pub loop-done-preserved : goal.loop-done-preserved
loop-done-preserved g c =
    let loop = c.loop-done in
    let count = c.min-piece.result in
    record {
      within = omega (arith, c.min-piece.ensures);
      bytes = blanks_more g.T.Record.bytes_of c.args.blank loop.done count _ _ _ loop.invariant.bytes c.in_ok-write_piece_of.ensures.bytes;
      fits = blanks_fit g.T.Record.Fits c.args.blank loop.done count loop.invariant.fits c.in_ok-write_piece_of.ensures.fits;
      failed = search rules;
    }
