use Rattle.std.proofs.Common.{◌∙◌, ◌≡◌, ◌<◌, ◌≤◌, ◌+◌, ◌*◌, ℕ, ap, arith, sym}
use Rattle.cedar_model.specs.Edit.Steps.{blocks_after}
use Rattle.cedar_table.proofs.RoomLemmas.{blocks_doubled, blocks_spare}
use Rattle.cedar_table.proofs.room.doubled_for.Goals as goal

pub loop-room-preserved : goal.loop-room-preserved
loop-room-preserved c =
    let room : ℕ = c.loop-room.room in
    let more : ℕ = c.args.more in
    let active : ℕ = c.args.active in
    let least : c.args.blocks ≤ room = c.loop-room.invariant.0 in
    let short : room < active + more = omega (arith, c.loop-room-test.true) in
    let twice : room * 2 ≡ 2 * room = omega arith in
    let same : blocks_after more active room ≡ blocks_after more active (2 * room) =
    blocks_doubled more active room (omega (arith, c.requires.active, least)) (omega (arith, c.requires.some, least)) short in
    (omega (arith, least), ap (blocks_after more active) twice ∙ sym same ∙ c.loop-room.invariant.1)

pub returns-clause-room : goal.returns-clause-room
returns-clause-room c =
    sym (blocks_spare c.args.more c.args.active c.loop-room.room (omega (arith, c.loop-room-test.false))) ∙ c.loop-room.invariant.1
