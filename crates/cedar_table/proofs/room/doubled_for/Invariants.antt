use Rattle.std.proofs.Common.{◌≡◌, ◌≤◌, ◌+◌, ◌-◌}
use Rattle.cedar_model.specs.Edit.Steps.{blocks_after}
use Rattle.cedar_table.proofs.room.doubled_for.Given as goal

-- as many blocks follow from those there is room for now
abbrev pub invariant-loop-room : goal.invariant-loop-room
invariant-loop-room l = (l.fn.blocks ≤ l.room) × (blocks_after l.more l.active l.room ≡ blocks_after l.more l.active l.fn.blocks)

abbrev pub decreases-loop-room : goal.decreases-loop-room
decreases-loop-room l = l.active + l.more - l.room
