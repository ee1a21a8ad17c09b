use Rattle.std.proofs.Common.{◌≡◌, ◌++◌, map, take}
use Rattle.cedarwood.specs.Ranges.{entries_with}
use Rattle.uses.proofs.autocomplete.complete.Given as goal

-- what was collected and what is left are the first entries that begin with the text
abbrev pub invariant-loop-entry : goal.invariant-loop-entry
invariant-loop-entry g l = map (λ e. (e.0.items, e.1)) l.found.items ++ take l.entry-iterator.n l.entry-iterator.iter ≡ take l.most (entries_with l.words.state.tree l.typed)
