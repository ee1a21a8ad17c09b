use Rattle.std.proofs.Common.{◌≡◌, ◌-◌, length, rules}
use Rattle.std.proofs.lemmas.Result.{on_ok_weaker}
use Rattle.cedar_format.proofs.Pieces.{filled_fits, written_filled}
use Rattle.cedar_format.proofs.listing.write_filled.Goals as goal

pub returns-clause-bytes : goal.returns-clause-bytes
returns-clause-bytes g c =
    let records = c.args.records.now in
    let count : c.saturating_sub.result ≡ c.args.len - length records = search rules in
    on_ok_weaker c.write_blanks.result
    (λ more. written_filled g.T.Record.bytes_of records c.args.blank c.args.len c.saturating_sub.result _ _ _ count c.in_ok-write_records.ensures.bytes more)
    c.write_blanks.ensures.bytes

pub returns-clause-fits : goal.returns-clause-fits
returns-clause-fits g c =
    let records = c.args.records.now in
    let count : c.saturating_sub.result ≡ c.args.len - length records = search rules in
    on_ok_weaker c.write_blanks.result
    (λ more. filled_fits g.T.Record.Fits records c.args.blank c.args.len c.saturating_sub.result count c.in_ok-write_records.ensures.fits more)
    c.write_blanks.ensures.fits
