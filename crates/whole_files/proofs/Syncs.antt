-- What a sync of a file leaves.
use Rattle.std.specs.Prelude.{◌&&◌, IsTrue}
use Rattle.std.proofs.Common.{◌≡◌, ℕ, Bool, true, List, [], ◌∷◌, refl, subst}
use Rattle.std.proofs.lemmas.Bool.{and_from}
use Rattle.torn_writes.specs.Tearing.{Only}
use Rattle.whole_files.specs.Calls.{Call, MayLeave, NextLeft, is_usable_after, seen_after, sync_call}

-- behind a sync the disk has what a read returns
pub synced_only : (calls : List Call) → IsTrue (is_usable_after calls) → Only (seen_after calls) (MayLeave (sync_call true ∷ calls))
synced_only calls usable c left =
    let flag : (is_usable_after calls && true) ≡ true = and_from _ _ usable refl in
    subst (λ (b : Bool). NextLeft 3 0 b [] (seen_after calls) (MayLeave calls) c) flag left
