use Rattle.std.proofs.Common.{◌+◌, ◌∙◌, ap, sym, arith}
use Rattle.cedar_journal.specs.Records.{has_record}
use Rattle.cedar_store.proofs.Payloads.{rest_is}
use Rattle.cedar_salvage.proofs.Finding.{further_on, none_further}
use Rattle.cedar_salvage.proofs.cut.has_record_behind.Goals as goal

pub returns-then-bytes-lt5 : goal.returns-then-bytes-lt5
returns-then-bytes-lt5 c = sym (none_further c.args.bytes.now (omega arith))

pub returns-then-len-bytes : goal.returns-then-len-bytes
returns-then-len-bytes c = sym (none_further c.args.bytes.now (omega (arith, c.number-len.ensures)))

pub returns-in-Some : goal.returns-in-Some
returns-in-Some c =
    let bytes = c.args.bytes.now in
    let n = c.number-len.result in
    sym (ap has_record (sym (rest_is (5 + n) bytes ∙ further_on bytes n (omega (arith, c.number-len.ensures)))) ∙ c.in-Some.ensures.some.0)

pub returns-in-None : goal.returns-in-None
returns-in-None c =
    let bytes = c.args.bytes.now in
    let n = c.number-len.result in
    sym (ap has_record (sym (rest_is (5 + n) bytes ∙ further_on bytes n (omega (arith, c.number-len.ensures)))) ∙ c.in-None.ensures.none)
