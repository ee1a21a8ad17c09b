use Rattle.std.proofs.Common.{◌≡◌, [], length}
use Rattle.cedar_tree.specs.Walks.{visited_entries}
use Rattle.cedar_walk.specs.Visits.{left_at}
use Rattle.cedarwood.proofs.EntriesLemmas.{StandsAt}
use Rattle.cedarwood.proofs.queries.entries.first_entry.Given as goal

-- no entry was passed
abbrev pub invariant-loop-next : goal.invariant-loop-next
invariant-loop-next g l = record {
  place : StandsAt (g.T.Walked.shown l.trie) l.key.items l.at;
  entries : visited_entries (left_at (g.T.Walked.shown l.trie) [] (length l.initial.key.items) 0) ≡ visited_entries (left_at (g.T.Walked.shown l.trie) [] (length l.key.items) l.at);
}

abbrev pub decreases-loop-next : goal.decreases-loop-next
decreases-loop-next g l = length (left_at (g.T.Walked.shown l.trie) [] (length l.key.items) l.at)
