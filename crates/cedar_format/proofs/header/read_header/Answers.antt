use Rattle.std.proofs.Common.{rules, take}
use Rattle.cedar_format.specs.Format.{header_refusal}
use Rattle.cedar_format.proofs.HeaderReading.{accepted_header, answer_decided, answer_known}
use Rattle.cedar_format.proofs.header.read_header.Goals as goal

pub returns-clause-bytes : goal.returns-clause-bytes
returns-clause-bytes g c =
    let read = c.read_available-count in
    let parsed = c.parse_header.ensures in
    accepted_header _ _ (take read.result.0 read.new.buf) c.args.layout c.parse_header.result c.with_fault.result c.with_fault.ensures.ok parsed.header parsed.whole parsed.spelled parsed.fits parsed.known parsed.refusal read.ensures.bytes (search rules)

pub returns-clause-refusal : goal.returns-clause-refusal
returns-clause-refusal g c =
    let read = c.read_available-count in
    answer_known _ _ read.new.buf 88 read.result.0 _ _ c.parse_header.result c.with_fault.result (header_refusal c.args.layout) (search rules) (search rules) read.ensures.bytes (search rules) read.ensures.fault c.with_fault.ensures.no_fault c.parse_header.ensures.refusal

pub returns-clause-decided : goal.returns-clause-decided
returns-clause-decided g c =
    let read = c.read_available-count in
    let merged = c.with_fault.ensures in
    answer_decided c.args.layout _ _ read.new.buf read.result.0 _ read.result.1 c.parse_header.result c.with_fault.result (search rules) (search rules) read.ensures.bytes (search rules) read.ensures.cuts merged.no_fault merged.other merged.told c.parse_header.ensures.refusal
