use Rattle.std.specs.Prelude.{Some}
use Rattle.std.proofs.Common.{◌∙◌, ap, length, subst, sym}
use Rattle.cedar_journal.specs.Files.{HasExtent}
use Rattle.cedar_journal.specs.Formats.{AreUndamaged, payloads_read, records_read}
use Rattle.cedar_store.proofs.Counted.{new_counted, records_counted}
use Rattle.cedar_store.proofs.Payloads.{rest_is}
use Rattle.cedar_store.proofs.counts.count_records.Goals as goal

pub returns-in-New : goal.returns-in-New
returns-in-New c = new_counted c.args.bytes.now (subst (HasExtent c.args.bytes.now) c.in-New.is c.requires.extent)

pub count_in-requires : goal.count_in-requires
count_in-requires c =
    let file = c.args.bytes.now in
    let records = subst (HasExtent file) c.in-Until.is c.requires.extent in
    record { sound = subst (AreUndamaged c.in-Until.format) (sym (rest_is 13 file)) records.sound }

pub returns-in-Until : goal.returns-in-Until
returns-in-Until c =
    let file = c.args.bytes.now in
    let f = c.in-Until.format in
    let records = subst (HasExtent file) c.in-Until.is c.requires.extent in
    records_counted file f c.in-Until.field-1 records ∙ ap (λ n. Some n) (sym (c.count_in.ensures ∙ ap (λ l. length (payloads_read (records_read f l))) (rest_is 13 file)))
