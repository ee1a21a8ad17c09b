use Rattle.std.proofs.Common.{◌++◌, ◌∙◌, ap, replicate, sym}
use Rattle.std.specs.List.{flat_map}
use Rattle.std.proofs.lemmas.Grind.{flat_map-append}
use Rattle.cedar_format.proofs.listing.put_filled.Goals as goal

pub returns : goal.returns
returns g c =
    let bytes_of = g.T.Record.bytes_of in
    let blanks = replicate c.args.count c.args.blank in
    ap (λ front. front ++ c.put_blanks.new.bytes) c.put_records.ensures.bytes
    ∙ ap (λ back. flat_map bytes_of c.args.records.now ++ back) c.put_blanks.ensures.bytes
    ∙ sym (flat_map-append bytes_of c.args.records.now blanks)
