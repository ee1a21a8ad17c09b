-- What a change of a dictionary returns, and the dictionary after it.
use Rattle.std.specs.Prelude.{◌≡◌, ℕ, ℤ, ◌+◌, ◌-◌, ◌*◌, ◌<◌, ◌≤◌, Bool, List, length, IfErr}
use Rattle.std.specs.Prelude.{IfOk, IfSome, IsOk, IsSome, IsTrue, ◌↔◌, None, OnErr, OnOk}
use Rattle.std.specs.Prelude.{Option, Result, Err, take, Vec}
use Rattle.cedarwood.specs.Tree.{number_at}
use Rattle.cedarwood.specs.Queries.{Entry}
use Rattle.cedarwood.specs.State.{after_erase}
use Rattle.cedarwood.specs.declared.error.CedarError.{CedarError}
use Rattle.cedarwood.specs.declared.batches.RefusedPair.{RefusedPair}
use Rattle.cedarwood.specs.declared.error.CedarError.TheVariants.{Memory, SlotLimit}
use Rattle.cedarwood.specs.Words.{entries_of, keys_of}
use Rattle.cedarwood.specs.Marks.{MarksCut}
use Rattle.cedarwood.specs.Layouts.{LayoutKind}
use Rattle.cedarwood.specs.Batches.{held_in_turn, IsErasures, IsUpdates, keys_erased}
use Rattle.cedarwood.specs.Builds.{all_stored, first_fault, outcome, IsBuild, IsRefusedBuild}
use Rattle.cedarwood.specs.Dictionary.{capacity_after, Dictionary}
use Rattle.cedarwood.specs.Erasures.{IsCleared, IsErasedUnder}
use Rattle.cedarwood.specs.Room.{LacksRoom, SetsSearchLimit}
use Rattle.cedarwood.specs.Shrinking.{IsShrunk}
use Rattle.cedarwood.specs.Updates.{IsUpdate}
use Rattle.cedarwood.specs.Making.{IsRenewed}
use Rattle.cedar_calls.specs.declared.call.Change.{Change}
use Rattle.cedar_calls.specs.declared.call.Change.TheVariants as change
use Rattle.cedar_calls.specs.declared.answer.Changed.{Changed}
use Rattle.cedar_calls.specs.declared.answer.Changed.TheVariants as changed

-- a key is erased: it isn't held any more, and all else is as it was
pub record IsErased (before after : Dictionary) (key : List ℕ) : Type 0 where
  pub state : after.state ≡ after_erase before.state key
  pub marks : MarksCut before.marked after.marked key
  pub size : (after.size ≡ before.size) × (after.capacity ≡ before.capacity)
  pub max_trial : after.max_trial ≡ before.max_trial
  pub search_limit : after.search_limit ≡ before.search_limit

-- a key is found, if it is held, and removed there: what it held is returned
pub record IsErasedFound (before after : Dictionary) (key : List ℕ) (value : Option ℤ) : Type 0 where
  pub told : value ≡ number_at before.state.tree key
  pub erased : IsErased before after key

-- some pairs are to be stored. If one has a fault, nothing is stored. Else they are stored by updates one after
-- another; or there was no memory or no slot for one whose key isn't held then, and those before it are stored
pub record IsWholeBuild (layout : LayoutKind) (slots : ℕ) (before after : Dictionary) (pairs : List Entry) (result : Result (Unit {0}) CedarError) : Type 0 where
  pub faulty : IfSome (first_fault pairs) (λ e. result ≡ Err e)
  pub unchanged : IsSome (first_fault pairs) → after ≡ before
  pub updates : first_fault pairs ≡ None → IsBuild layout slots before pairs result after
  pub stored : OnOk result (after.state ≡ all_stored before.state pairs)
  pub refused : first_fault pairs ≡ None → IfErr result (IsRefusedBuild slots before after pairs)

-- some pairs are to be stored by updates one after another, and all are, or those before one that is refused
pub record IsUpdatedBatch (layout : LayoutKind) (slots : ℕ) (before after : Dictionary) (pairs : List Entry) (result : Result (Unit {0}) RefusedPair) : Type 0 where
  pub updates : IsUpdates layout slots before after pairs result
  pub stored : OnOk result (after.state ≡ all_stored before.state pairs)
  pub refused : IfErr result (λ refusal. after.state ≡ all_stored before.state (take refusal.index pairs))
  pub max_trial : after.max_trial ≡ before.max_trial
  pub search_limit : after.search_limit ≡ before.search_limit

-- some keys are to be removed one after another. All are, and of each it is returned whether it was held then; or
-- there was no memory for these answers, and nothing has changed
pub record IsErasedBatch {A : Type 0} (before after : Dictionary) (keys : List (List ℕ)) (result : Result (Vec Bool A) CedarError) : Type 0 where
  pub erasures : IfOk result (λ held. IsErasures before after keys held.items)
  pub held : IfOk result (λ held. held.items ≡ held_in_turn before.state keys)
  pub state : OnOk result (after.state ≡ keys_erased before.state keys)
  pub size : (after.size ≡ before.size) × (after.capacity ≡ before.capacity)
  pub max_trial : after.max_trial ≡ before.max_trial
  pub search_limit : after.search_limit ≡ before.search_limit
  pub refused : IfErr result (λ e. (e ≡ Memory) × (after ≡ before) × (0 < length keys))

-- room for n more blocks is asked for. Nothing has changed but how many slots there are, or nothing at all if n
-- blocks were spare already or it was refused
pub record IsReserved (slots n : ℕ) (before after : Dictionary) (result : Result (Unit {0}) CedarError) : Type 0 where
  pub state : after.state ≡ before.state
  pub marked : after.marked ≡ before.marked
  pub max_trial : after.max_trial ≡ before.max_trial
  pub search_limit : after.search_limit ≡ before.search_limit
  pub size : after.size ≡ before.size
  pub capacity : OnOk result (after.capacity ≡ capacity_after n before.size before.capacity)
  pub spare : OnOk result (256 * n ≤ after.capacity - after.size)
  pub enough : 256 * n ≤ before.capacity - before.size → after ≡ before
  pub asks_nothing : 256 * n ≤ before.capacity - before.size → IsOk result
  pub limit : slots < before.size + 256 * n → result ≡ Err SlotLimit
  pub refused : IfErr result (LacksRoom slots before n)
  pub unchanged : OnErr result (after ≡ before)

-- what a change may return of a dictionary of this layout with at most `slots` slots, and the dictionary after it: of
-- an update `IsUpdate`, of an erasure `IsErased`, of a key that is found first `IsErasedFound`, of some keys
-- `IsErasedBatch`, of those below a prefix `IsErasedUnder`, of all `IsCleared`, of a build `IsWholeBuild`, of a batch
-- of updates `IsUpdatedBatch`, of `renew` `IsRenewed`, of `try_reserve` `IsReserved`, of `set_search_limit`
-- `SetsSearchLimit`, and of `shrink_to_fit` `IsShrunk`
abbrev pub IsChange : {A : Type 0} → LayoutKind → ℕ → Dictionary → Change → Changed A → Dictionary → Type 0
IsChange layout slots before (change.Update key v) (changed.Updated result) after = IsUpdate layout slots before after key.now v result
IsChange layout slots before (change.Insert key v) (changed.Inserted result) after =
    IsUpdate layout slots before after key.now v (outcome result) × IfOk result (λ held. held ≡ number_at before.state.tree key.now)
IsChange layout slots before (change.Erase key) (changed.Erased held) after = (IsTrue held ↔ IsSome (number_at before.state.tree key.now)) × IsErased before after key.now
IsChange layout slots before (change.EraseFound key) (changed.ErasedFound value) after = IsErasedFound before after key.now value
IsChange layout slots before (change.EraseBatch keys) (changed.ErasedBatch result) after = IsErasedBatch before after (keys_of keys.now) result
IsChange layout slots before (change.ErasePrefix prefix) (changed.ErasedPrefix n) after = IsErasedUnder before after prefix.now n
IsChange layout slots before change.Clear changed.Cleared after = IsCleared before after
IsChange layout slots before change.Shrink (changed.Shrunk result) after = IsShrunk layout slots before after result
IsChange layout slots before (change.Renew settings) (changed.Renewed result) after = IsRenewed settings before after result
IsChange layout slots before (change.Build pairs) (changed.Built result) after = IsWholeBuild layout slots before after (entries_of pairs.now) result
IsChange layout slots before (change.UpdateBatch pairs) (changed.UpdatedBatch result) after = IsUpdatedBatch layout slots before after (entries_of pairs.now) result
IsChange layout slots before (change.Reserve n) (changed.Reserved result) after = IsReserved slots n before after result
IsChange layout slots before (change.SetSearchLimit n) changed.SearchLimitSet after = SetsSearchLimit before after n
IsChange layout slots before c answer after = ⊥
