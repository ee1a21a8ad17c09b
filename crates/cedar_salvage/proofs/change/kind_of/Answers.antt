use Rattle.std.proofs.Common.{◌-◌, length, take, drop, ◌∙◌, get_or, sym, arith}
use Rattle.std.proofs.lemmas.Bool.{eqb-true}
use Rattle.cedar_store.proofs.Payloads.{rest_is}
use Rattle.cedar_salvage.proofs.Changes.{batch_change, batch_is, no_change, single_change}
use Rattle.cedar_salvage.proofs.change.kind_of.Goals as goal

pub returns-then-is_empty-clause-change : goal.returns-then-is_empty-clause-change
returns-then-is_empty-clause-change c = sym (no_change c.args.payload.now (eqb-true (length c.args.payload.now) 0 (sym c.if-is_empty.ensures)))

pub returns-then-payload-eq-BATCH-clause-change : goal.returns-then-payload-eq-BATCH-clause-change
returns-then-payload-eq-BATCH-clause-change c =
    let payload = c.args.payload.now in
    c.batch_kind.ensures.change ∙ batch_change payload (take (length payload - 1) (drop 1 payload)) (omega arith) (rest_is 1 payload)

pub returns-then-payload-eq-BATCH-clause-kind : goal.returns-then-payload-eq-BATCH-clause-kind
returns-then-payload-eq-BATCH-clause-kind c = batch_is c.batch_kind.result (get_or c.args.payload.now 0 0) (omega arith) c.batch_kind.ensures.kind

pub returns-clause-change : goal.returns-clause-change
returns-clause-change c = c.single_kind.ensures.change ∙ single_change c.args.payload.now c.if-payload-eq-BATCH.false
