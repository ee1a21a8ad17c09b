use Rattle.std.proofs.Common.{rules, append_assoc, append-nil, ◌≡◌, ◌+◌, to_z, of_z, w16, w32, arith}
use Rattle.cedar_format.proofs.Pieces.{ends_at}
use Rattle.cedar_format.proofs.record.BlockRecordRecord.write_at.Goals as goal

pub returns-clause-front : goal.returns-clause-front
returns-clause-front c =
    let block = c.args.self.now in
    let at = c.args.at in
    let prev : to_z w32 (of_z w32 block.prev) ≡ block.prev = search rules in
    let next : to_z w32 (of_z w32 block.next) ≡ block.next = search rules in
    let num : to_z w16 (of_z w16 block.num) ≡ block.num = search rules in
    let reject : to_z w16 (of_z w16 block.reject) ≡ block.reject = search rules in
    let trial : to_z w32 (of_z w32 block.trial) ≡ block.trial = search rules in
    let e_head : to_z w32 (of_z w32 block.e_head) ≡ block.e_head = search rules in
    let first = rw prev at c.write_i32_at.ensures.front in
    let second = ends_at (at + 8) _ _ _ (rw next at c.write_i32_at-2.ensures.front) (omega arith) in
    let third = ends_at (at + 10) _ _ _ (rw num at c.write_i16_at.ensures.front) (omega arith) in
    let fourth = ends_at (at + 12) _ _ _ (rw reject at c.write_i16_at-2.ensures.front) (omega arith) in
    let fifth = ends_at (at + 16) _ _ _ (rw trial at c.write_i32_at-3.ensures.front) (omega arith) in
    let sixth = ends_at (at + 20) _ _ _ (rw e_head at c.write_i32_at-4.ensures.front) (omega arith) in
    rw (sixth, fifth, fourth, third, second, first) (simp (append_assoc, append-nil))
