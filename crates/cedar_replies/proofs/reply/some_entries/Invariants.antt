use Rattle.std.proofs.Common.{◌≡◌, ◌+◌, ◌≤◌, ◌++◌, length, map, vec_len}
use Rattle.std.specs.Vec.{vec_capacity}
use Rattle.cedarwood.specs.Queries.{walk}
use Rattle.cedar_replies.proofs.reply.some_entries.Given as goal

-- what was collected and what is left are all entries, for which there is room
abbrev pub invariant-loop-entry : goal.invariant-loop-entry
invariant-loop-entry g l =
    (map (λ e. (e.0.items, e.1)) l.found.items ++ l.entry-iterator ≡ walk l.trie.state.tree)
    × (vec_len l.found + length l.entry-iterator ≤ vec_capacity l.found)
