use Rattle.std.proofs.Common.{rules, append_assoc, append-nil, ◌≡◌, to_z, of_z, w16, w32}
use Rattle.cedar_format.proofs.record.BlockRecordRecord.take_from.Goals as goal

pub returns-clause-front : goal.returns-clause-front
returns-clause-front c =
    let prev : to_z w32 (of_z w32 c.take_i32-prev.result) ≡ c.take_i32-prev.result = search rules in
    let next : to_z w32 (of_z w32 c.take_i32-next.result) ≡ c.take_i32-next.result = search rules in
    let num : to_z w16 (of_z w16 c.take_i16-num.result) ≡ c.take_i16-num.result = search rules in
    let reject : to_z w16 (of_z w16 c.take_i16-reject.result) ≡ c.take_i16-reject.result = search rules in
    let trial : to_z w32 (of_z w32 c.take_i32-trial.result) ≡ c.take_i32-trial.result = search rules in
    let e_head : to_z w32 (of_z w32 c.take_i32-e_head.result) ≡ c.take_i32-e_head.result = search rules in
    rw (prev, next, num, reject, trial, e_head)
    (rw (c.take_i32-prev.ensures.front, c.take_i32-next.ensures.front, c.take_i16-num.ensures.front, c.take_i16-reject.ensures.front, c.take_i32-trial.ensures.front, c.take_i32-e_head.ensures.front)
    (simp (append_assoc, append-nil)))
