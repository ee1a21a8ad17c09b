use Rattle.std.proofs.Common.{ℕ, List, option_map, Bor}
use Rattle.last_entries.specs.Nearness.{before_end, farness, IsNear}
use Rattle.last_entries.proofs.last.last_before.Given as goal

-- the entry that was found is near the last one
abbrev pub invariant-loop-near : goal.invariant-loop-near
invariant-loop-near g l = IsNear (before_end (option_map {T = Bor (List ℕ)} {U = List ℕ} (λ z. z.now) l.to) (g.S.Ascending.entries l.source)) l.near

abbrev pub decreases-loop-near : goal.decreases-loop-near
decreases-loop-near g l = farness (before_end (option_map {T = Bor (List ℕ)} {U = List ℕ} (λ z. z.now) l.to) (g.S.Ascending.entries l.source)) l.near
