use Rattle.std.proofs.Common.{rules, ◌≡◌, ◌∙◌, ap, map, FitsSigned, to_z, of_z, w32}
use Rattle.std.proofs.lemmas.Int.{to_z-of_z}
use Rattle.std.proofs.lemmas.Result.{err_from_is_err_and}
use Rattle.cedar_replies.proofs.CollectLemmas.{one_shown, refused, some_more}
use Rattle.cedar_replies.proofs.buffers.collect_into.Goals as goal

pub loop-found-preserved : goal.loop-found-preserved
loop-found-preserved g c =
    let first = rw c.in-Some.is at c.in_ok-value.ensures.found in
    let copied = c.in_ok-copy.ensures.items ∙ c.deref.ensures.value in
    let value = c.in-Some.value in
    let fits : FitsSigned w32 value = search rules in
    let number : to_z w32 (of_z w32 value) ≡ value = to_z-of_z w32 value fits in
    one_shown (λ e. (e.0.items, e.1)) c.loop-found.found.items c.add.new.found.items c.loop-found.entries c.next_into.new.self c.args.entries (c.in_ok-copy.copy, to_z w32 (of_z w32 value)) (c.next_into.new.key.items, value) c.loop-found.invariant first
    (ap (λ k. (k, to_z w32 (of_z w32 value))) copied ∙ ap (λ n. (c.next_into.new.key.items, n)) number) c.in_ok-add.ensures

pub returns-in_err-copy : goal.returns-in_err-copy
returns-in_err-copy g c =
    let p = err_from_is_err_and c.from_residual-in_err-copy.result c.from_residual-in_err-copy.ensures.1 in
    let first = rw c.in-Some.is at c.in_ok-value.ensures.found in
    let some = some_more (map (λ e. (e.0.items, e.1)) c.loop-found.found.items) c.loop-found.entries c.next_into.new.self c.args.entries (c.next_into.new.key.items, c.in-Some.value) c.loop-found.invariant first in
    refused c.from_residual-in_err-copy.result p.0 (λ found. map (λ e. (e.0.items, e.1)) found.items ≡ c.args.entries) c.args.entries p.1 p.2 some

pub returns-in_err-add : goal.returns-in_err-add
returns-in_err-add g c =
    let p = err_from_is_err_and c.from_residual-in_err-add.result c.from_residual-in_err-add.ensures.1 in
    let first = rw c.in-Some.is at c.in_ok-value.ensures.found in
    let some = some_more (map (λ e. (e.0.items, e.1)) c.loop-found.found.items) c.loop-found.entries c.next_into.new.self c.args.entries (c.next_into.new.key.items, c.in-Some.value) c.loop-found.invariant first in
    refused c.from_residual-in_err-add.result p.0 (λ found. map (λ e. (e.0.items, e.1)) found.items ≡ c.args.entries) c.args.entries p.1 p.2 some
