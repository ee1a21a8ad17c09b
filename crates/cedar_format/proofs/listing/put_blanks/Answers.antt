use Rattle.std.proofs.Common.{◌∙◌, ◌+◌, ap, arith, sym}
use Rattle.std.proofs.lemmas.List.Elements.{All-replicate}
use Rattle.std.proofs.Math.Nat.{add-mul}
use Rattle.cedar_format.proofs.Pieces.{blank_put, ends_at}
use Rattle.cedar_format.proofs.listing.put_blanks.Goals as goal

pub loop-preserved : goal.loop-preserved
loop-preserved g c =
    let i = c.loop.invariant in
    record {
      place = omega (arith, i.place, add-mul c.loop.counter 1 g.T.Record.LEN);
      len = c.write_at.ensures.len ∙ i.len;
      bytes = ends_at (c.loop.at + c.LEN-at.result) (c.loop.at + g.T.Record.LEN) c.write_at.new.bytes _ (blank_put g.T.Record.bytes_of c.args.blank c.loop.counter _ _ i.bytes c.write_at.ensures.front) (ap (λ n. c.loop.at + n) (sym c.LEN-at.ensures));
      fits = All-replicate g.T.Record.Fits (c.loop.counter + 1) c.args.blank c.write_at.ensures.fits;
    }
