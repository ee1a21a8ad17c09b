-- How walks over the entries of a range begin and go on.
use Rattle.std.proofs.Common.{◌≡◌, ℕ, ◌+◌, ◌-◌, ◌∙◌, ap, arith, List, [], ◌++◌, length, map, MatchOption, None, Option, Some, refl, drop, replicate, sym, take}
use Rattle.std.proofs.lemmas.List.{append-nil, drop_all, length-append, length-replicate, take_all, take_at}
use Rattle.cedar_tree.specs.Queries.{Entry}
use Rattle.cedar_walk.specs.declared.visits.Numbered.{Numbered}
use Rattle.cedar_walk.specs.Visits.{ComesToNumber}
use Rattle.cedar_walk.specs.Ranges.{behind_path}
use Rattle.cedar_model.specs.Table.TableFields.{Fields}
use Rattle.cedarwood.specs.RangeWalks.{entries_left, IsRangePlace}

-- a walk that comes to the first of some entries has these left
pub ranged_is : (T : Fields) (start : List ℕ) (left : List Entry) (found : Option Numbered) → MatchOption found (left ≡ []) (ComesToNumber T start left) → entries_left T start found ≡ map (behind_path start) left
ranged_is T start left None gone = ap (map (behind_path start)) (sym gone)
ranged_is T start left (Some next) comes = ap (map (behind_path start)) (sym comes.entries)

pub range_place : (T : Fields) (start : List ℕ) (left : List Entry) (found : Option Numbered) → MatchOption found (left ≡ []) (ComesToNumber T start left) → IsRangePlace T start found
range_place T start left None gone = tt
range_place T start left (Some next) comes = (comes.below, next.number, comes.number)
