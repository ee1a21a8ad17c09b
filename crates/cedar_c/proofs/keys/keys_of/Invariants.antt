use Rattle.std.proofs.Common.{◌≡◌, ◌++◌}
use Rattle.cedarwood.specs.Queries.{walk}
use Rattle.cedar_c.specs.Pairs.{keys_in}
use Rattle.cedar_c.proofs.keys.keys_of.Given as goal

-- what was collected, and then what is left, is all
abbrev pub invariant-loop-entry : goal.invariant-loop-entry
invariant-loop-entry g l = l.keys.items ++ keys_in l.entry-iterator ≡ keys_in (walk l.trie.state.tree)
