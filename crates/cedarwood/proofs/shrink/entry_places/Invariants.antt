use Rattle.std.proofs.Common.{◌≡◌, ◌++◌, length, map}
use Rattle.std.specs.List.{AllByRecursion}
use Rattle.cedar_tree.specs.Queries.{walk}
use Rattle.cedar_model.specs.Meaning.WellFormed.{tree_of}
use Rattle.cedarwood.specs.Shrinking.{entries_after, entry_of, IsEntryPlace, IsNextPlace}
use Rattle.cedarwood.proofs.shrink.entry_places.Given as goal

-- the entries are those that are listed, and those from the next one on
abbrev pub invariant-loop-next : goal.invariant-loop-next
invariant-loop-next g l = record {
  listed : walk (tree_of (g.T.Walked.shown l.trie)) ≡ map (entry_of (g.T.Walked.shown l.trie)) l.places.items ++ entries_after (g.T.Walked.shown l.trie) l.next;
  each : AllByRecursion (IsEntryPlace (g.T.Walked.shown l.trie)) l.places.items;
  next : IsNextPlace (g.T.Walked.shown l.trie) l.next;
}

abbrev pub decreases-loop-next : goal.decreases-loop-next
decreases-loop-next g l = length (entries_after (g.T.Walked.shown l.trie) l.next)
