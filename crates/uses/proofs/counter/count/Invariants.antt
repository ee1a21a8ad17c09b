use Rattle.std.proofs.Common.{◌≡◌, ℕ, List, take}
use Rattle.cedarwood.specs.Tree.{number_at}
use Rattle.uses.specs.Counts.{count_of}
use Rattle.uses.proofs.counter.count.Given as goal

-- the words so far are counted
abbrev pub invariant-loop-word : goal.invariant-loop-word
invariant-loop-word l = (w : List ℕ) → number_at l.counts.state.tree w ≡ count_of w (take l.word-index l.words)
