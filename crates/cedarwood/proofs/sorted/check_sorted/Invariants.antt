use Rattle.std.proofs.Common.{◌≡◌, [], drop, take}
use Rattle.cedar_bulk.specs.Sorted.{entries_by}
use Rattle.cedarwood.specs.SortedInput.{AreBytes, fault_from, HasNoNul, key_at}
use Rattle.cedarwood.proofs.sorted.check_sorted.Given as goal

-- the first fault is one from here on
abbrev pub invariant-loop-index : goal.invariant-loop-index
invariant-loop-index g l = record {
  first : fault_from 0 [] (entries_by g.K.AsSlice.items l.pairs) ≡ fault_from l.index (key_at [] (entries_by g.K.AsSlice.items l.pairs) l.index) (drop l.index (entries_by g.K.AsSlice.items l.pairs));
  bytes : AreBytes (take l.index (entries_by g.K.AsSlice.items l.pairs));
  clean : HasNoNul (key_at [] (entries_by g.K.AsSlice.items l.pairs) l.index);
}
