use Rattle.std.proofs.Common.{arith, rules}
use Rattle.cedar_format.proofs.HeaderSpelling.{header_spelled}
use Rattle.cedar_format.proofs.header.parse_header.Goals as goal

pub returns-clause-spelled : goal.returns-clause-spelled
returns-clause-spelled c =
    let version = c.in_ok-check_version.ensures in
    let kind = c.in_ok-check_kind.ensures in
    rw c.header_at.ensures
    (header_spelled c.args.bytes.now (search rules) (λ i. omega (arith, c.type_inv.bytes i)) c.args.layout version.begins version.major kind.order kind.found kind.flags)
