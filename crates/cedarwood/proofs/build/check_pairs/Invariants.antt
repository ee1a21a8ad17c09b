use Rattle.std.proofs.Common.{◌≡◌, drop, take}
use Rattle.cedar_bulk.specs.Sorted.{entries_by}
use Rattle.cedarwood.specs.Builds.{first_fault}
use Rattle.cedarwood.specs.SortedInput.{AreBytes}
use Rattle.cedarwood.proofs.build.check_pairs.Given as goal

-- the first fault is one from here on
abbrev pub invariant-loop-index : goal.invariant-loop-index
invariant-loop-index g l = record {
  first : first_fault (entries_by g.K.AsSlice.items l.pairs) ≡ first_fault (drop l.index (entries_by g.K.AsSlice.items l.pairs));
  bytes : AreBytes (take l.index (entries_by g.K.AsSlice.items l.pairs));
}
