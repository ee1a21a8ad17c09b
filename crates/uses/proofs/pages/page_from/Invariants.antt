use Rattle.std.proofs.Common.{◌≡◌, ◌++◌, map, take}
use Rattle.cedarwood.specs.Ranges.{entries_since}
use Rattle.uses.proofs.pages.page_from.Given as goal

-- what was collected and what is left are the first entries from the key on
abbrev pub invariant-loop-entry : goal.invariant-loop-entry
invariant-loop-entry g l = map (λ e. (e.0.items, e.1)) l.found.items ++ take l.entry-iterator.n l.entry-iterator.iter ≡ take l.most (entries_since l.words.state.tree l.key)
