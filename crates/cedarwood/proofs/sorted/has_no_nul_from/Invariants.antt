use Rattle.std.proofs.Common.{◌≢◌, ◌<◌, ◌≤◌, ℕ, get_or}
use Rattle.cedarwood.proofs.sorted.has_no_nul_from.Given as goal

-- no byte 0 was met
abbrev pub invariant-loop-index : goal.invariant-loop-index
invariant-loop-index l = (i : ℕ) → l.start ≤ i → i < l.index → get_or l.key i 0 ≢ 0
