use Rattle.std.proofs.Common.{◌≤◌, drop, length, map}
use Rattle.cedarwood.specs.Shrinking.{entry_of, IsPutBack}
use Rattle.cedarwood.proofs.trie.Trie.put_entries.Given as goal

-- the entries from here on were put
abbrev pub invariant-loop-left : goal.invariant-loop-left
invariant-loop-left g l = record {
  within : l.left ≤ length l.places;
  back : IsPutBack g.L.Layout.kind l.initial.self.state.ordered l.initial.self.max_trial l.initial.self.search_limit (map (entry_of (g.T.Walked.shown l.from)) (drop l.left l.places)) l.self;
}

abbrev pub decreases-loop-left : goal.decreases-loop-left
decreases-loop-left g l = l.left
