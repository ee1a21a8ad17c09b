use Rattle.std.proofs.Common.{◌-◌, length, take, drop, ◌∙◌, arith}
use Rattle.cedar_store.proofs.Payloads.{rest_is}
use Rattle.cedar_salvage.proofs.Changes.{erases, neither, puts}
use Rattle.cedar_salvage.proofs.change.single_kind.Goals as goal

pub returns-then-payload-eq-ERASE-clause-change : goal.returns-then-payload-eq-ERASE-clause-change
returns-then-payload-eq-ERASE-clause-change c = erases c.args.payload.now c.requires.some (omega arith)

pub returns-then-payload-eq-PUT-clause-change : goal.returns-then-payload-eq-PUT-clause-change
returns-then-payload-eq-PUT-clause-change c =
    let payload = c.args.payload.now in
    c.put_kind.ensures.change ∙ puts payload (take (length payload - 1) (drop 1 payload)) c.requires.some (omega arith) (rest_is 1 payload)

pub returns-clause-change : goal.returns-clause-change
returns-clause-change c = neither c.args.payload.now c.requires.some c.if-payload-eq-ERASE.false c.if-payload-eq-PUT.false
