use Rattle.std.proofs.Common.{◌≡◌, ◌≤◌, ◌++◌, drop, length, map, take}
use Rattle.cedar_c.specs.Scans.{found_token}
use Rattle.cedar_c.proofs.cuts.write_whole.Given as goal

-- the tokens so far are written, and the other elements are as they were
abbrev pub invariant-loop-at : goal.invariant-loop-at
invariant-loop-at l = (l.found ≡ map found_token (take l.at l.tokens) ++ drop l.at l.fn.found) × (length l.tokens ≤ length l.fn.found)
