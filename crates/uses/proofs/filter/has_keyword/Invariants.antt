use Rattle.std.proofs.Common.{◌≡◌, ◌<◌, ℕ, [], drop}
use Rattle.cedarwood.specs.Queries.{front}
use Rattle.uses.proofs.filter.has_keyword.Given as goal

-- no key begins at a position before this one
abbrev pub invariant-loop-place : goal.invariant-loop-place
invariant-loop-place g l = (k : ℕ) → k < l.place → front l.keywords.state.tree (drop k l.text) ≡ []
