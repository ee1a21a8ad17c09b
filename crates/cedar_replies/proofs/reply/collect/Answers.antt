use Rattle.std.proofs.Common.{arith, ◌<◌, map, length, refl}
use Rattle.std.proofs.lemmas.Result.{err_from_is_err_and}
use Rattle.cedar_replies.proofs.CollectLemmas.{some_of}
use Rattle.cedar_replies.proofs.reply.collect.Goals as goal

pub returns-in_err-entry : goal.returns-in_err-entry
returns-in_err-entry g c =
    let p = err_from_is_err_and c.from_residual.result c.from_residual.ensures.1 in
    let s = rw c.in_err-entry.was at c.in-Some.ensures.steps in
    rw (p.1, p.2) (s.0, some_of (map (λ e. (e.0.items, e.1)) c.loop-entry.found.items) c.loop-entry.entry-iterator c.args.entries c.loop-entry.invariant s.2)

pub returns-in_err-add : goal.returns-in_err-add
returns-in_err-add g c =
    let p = err_from_is_err_and c.from_residual-in_err-add.result c.from_residual-in_err-add.ensures.1 in
    let s = rw c.in_ok-entry.was at c.in-Some.ensures.steps in
    let some : 0 < length c.loop-entry.entry-iterator = rw s (omega arith) in
    rw (p.1, p.2) (refl, some_of (map (λ e. (e.0.items, e.1)) c.loop-entry.found.items) c.loop-entry.entry-iterator c.args.entries c.loop-entry.invariant some)
