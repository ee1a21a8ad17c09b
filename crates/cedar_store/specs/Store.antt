-- What holds of a store between two calls.
use Rattle.std.specs.Prelude.{◌≡◌, ℕ, Bool, false, true, List, Some}
use Rattle.cedar_journal.specs.declared.format.Format.{Format}
use Rattle.cedar_journal.specs.Journal.{IsSettled}
use Rattle.cedarwood.specs.State.{State}
use Rattle.cedar_store.specs.Files.{state_of}

-- the file is at rest and on the disk (`IsSettled`), and represents the dictionary's state
pub record IsConsistent {D : Type 0} (seen : D → List ℕ) (may_leave : D → List ℕ → Type 0) (device : D) (format : Format) (end : ℕ) (state : State) : Type 0 where
  pub settled : IsSettled seen may_leave device format end
  pub same : state_of (seen device) ≡ Some state

-- the labels of the dictionary ascend; and unless the store has failed, it is consistent (`IsConsistent`)
pub record IsReady {D : Type 0} (seen : D → List ℕ) (may_leave : D → List ℕ → Type 0) (device : D) (format : Format) (end : ℕ) (state : State) (failed : Bool) : Type 0 where
  pub ordered : state.ordered ≡ true
  pub consistent : failed ≡ false → IsConsistent seen may_leave device format end state
