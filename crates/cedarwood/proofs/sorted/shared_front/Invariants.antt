use Rattle.std.proofs.Common.{◌≡◌, ◌<◌, ◌≤◌, ◌-◌, ℕ, get_or}
use Rattle.cedarwood.proofs.sorted.shared_front.Given as goal

-- so many are the same
abbrev pub invariant-loop-shared : goal.invariant-loop-shared
invariant-loop-shared l = (l.shared ≤ l.both) × ((i : ℕ) → i < l.shared → get_or l.before i 0 ≡ get_or l.key i 0)

abbrev pub decreases-loop-shared : goal.decreases-loop-shared
decreases-loop-shared l = l.both - l.shared
