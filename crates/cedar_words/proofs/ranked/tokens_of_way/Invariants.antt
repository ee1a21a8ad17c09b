use Rattle.std.proofs.Common.{◌≡◌, ◌+◌, ◌-◌, ◌<◌, ◌++◌, [], length, slice_index_or}
use Rattle.cedar_words.specs.Ranked.{lists_of, way_along}
use Rattle.cedar_words.proofs.ranked.tokens_of_way.Given as goal

-- the tokens so far, and then those along what is left of the way, are all
abbrev pub invariant-loop-left : goal.invariant-loop-left
invariant-loop-left g l =
    (l.place + l.left ≡ length l.table - 1) × (l.rank < length (slice_index_or (lists_of l.table) l.left []))
    × (l.tokens.items ++ way_along (lists_of l.table) 0 l.place l.left l.rank ≡ way_along (lists_of l.table) 0 0 (length l.table - 1) l.fn.rank)

abbrev pub decreases-loop-left : goal.decreases-loop-left
decreases-loop-left g l = l.left
