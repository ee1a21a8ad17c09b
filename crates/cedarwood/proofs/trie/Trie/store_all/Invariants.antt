use Rattle.std.proofs.Common.{drop, map, Result}
use Rattle.cedarwood.specs.declared.error.CedarError.{CedarError}
use Rattle.cedarwood.specs.Builds.{IsBuild}
use Rattle.cedarwood.specs.Dictionary.{Dictionary}
use Rattle.cedarwood.proofs.trie.Trie.store_all.Given as goal

-- a build of the pairs from here on is one of all of them
abbrev pub invariant-loop-index : goal.invariant-loop-index
invariant-loop-index g l =
    (r : Result (Unit {0}) CedarError) (a : Dictionary) → IsBuild g.L.Layout.kind g.row.SLOTS l.self (map (λ p. (g.K.AsSlice.items p.0, p.1)) (drop l.index l.pairs)) r a
    → IsBuild g.L.Layout.kind g.row.SLOTS l.initial.self (map (λ p. (g.K.AsSlice.items p.0, p.1)) l.pairs) r a
