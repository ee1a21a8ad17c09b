-- How a cursor over the entries of a range goes on.
use Rattle.std.proofs.Common.{◌≡◌, ℕ, ◌<◌, ◌∙◌, ap, List, [], ◌++◌, length, None, Option, Some, subst, sym, true}
use Rattle.std.specs.List.{filter}
use Rattle.cedar_tree.specs.Queries.{Entry}
use Rattle.cedar_model.specs.Meaning.WellFormed.{IsWellFormed}
use Rattle.cedar_model.specs.Table.TableFields.{Fields}
use Rattle.cedar_walk.specs.declared.visits.Numbered.{Numbered}
use Rattle.cedar_walk.specs.Keys.{KeyOutgrows}
use Rattle.cedar_walk.specs.Visits.{path_to}
use Rattle.cedarwood.specs.declared.queries.cursor.CursorPlace.{CursorPlace}
use Rattle.cedarwood.specs.declared.queries.cursor.CursorPlace.TheVariants.{At, Before}
use Rattle.cedarwood.specs.Cursors.{cursor_entries, cursor_left, FindsNext, IsAtEnd, IsCursorEnd, IsShortOf}
use Rattle.cedarwood.specs.RangeWalks.{follows_end, IsEnd, IsRangePlace, precedes_end}
use Rattle.cedarwood.proofs.BoundedLemmas.{ended, goes_on, next_outgrows, some_left}

module _ (slots : ℕ) (T : Fields) (k : IsWellFormed slots T) (start : List ℕ) (to : Option (List ℕ)) (place : CursorPlace) (end : Option Numbered) (pe : IsRangePlace T start end) (ends : IsCursorEnd T start to place end) where
  end_after : (next : Numbered) → FindsNext T start place (Some next) → IsEnd T start to (Some next) end
  end_after next finds = ap (filter (λ (e : Entry). follows_end to e.0)) (sym finds.0) ∙ ends

  -- nothing is left before the end
  pub cursor_ended : (found : Option Numbered) → FindsNext T start place found → IsAtEnd found end → cursor_left T start to place ≡ []
  cursor_ended None finds at = ap (filter (λ (e : Entry). precedes_end to e.0)) finds.0
  cursor_ended (Some next) finds at =
      ap (filter (λ (e : Entry). precedes_end to e.0)) finds.0
      ∙ ended slots T k start next at.0 finds.1 (subst (IsRangePlace T start) at.1 pe) to (subst (IsEnd T start to (Some next)) at.1 (end_after next finds)) (sym at.2)

  -- the next entry is before the end, and the cursor ends where it ended
  pub cursor_on : (next : Numbered) → FindsNext T start place (Some next) → IsShortOf end next → (precedes_end to (start ++ path_to T next.depth next.slot) ≡ true) × IsCursorEnd T start to (At next.slot next.depth) end
  cursor_on next finds short = goes_on slots T k start next finds.1 to end pe (end_after next finds) short

  -- it can be asked for again
  pub cursor_waits : (next : Numbered) → FindsNext T start place (Some next) → cursor_left T start to (Before next) ≡ cursor_left T start to place
  cursor_waits next finds = ap (filter (λ (e : Entry). precedes_end to e.0)) (sym finds.0)

  pub cursor_some : (next : Numbered) → FindsNext T start place (Some next) → IsShortOf end next → 0 < length (cursor_left T start to place)
  cursor_some next finds short = subst (λ es. 0 < length es) (cursor_waits next finds) (some_left T start to next (cursor_on next finds short).0)

  -- what is too long for some room is so before the end
  pub cursor_outgrows : (room : ℕ) (next : Numbered) → FindsNext T start place (Some next) → IsShortOf end next → KeyOutgrows room (cursor_entries T start place) → KeyOutgrows room (cursor_left T start to place)
  cursor_outgrows room next finds short small =
      let long : room < length (start ++ path_to T next.depth next.slot) = subst (KeyOutgrows room) finds.0 small in
      subst (KeyOutgrows room) (cursor_waits next finds) (next_outgrows T start to next room (cursor_on next finds short).0 long)

  pub cursor_end_stays : (next : Numbered) → FindsNext T start place (Some next) → IsCursorEnd T start to (Before next) end
  cursor_end_stays next finds = end_after next finds
