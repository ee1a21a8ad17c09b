-- What calls say that store the value of one key, and those that erase keys.
use Rattle.std.specs.Prelude.{◌≡◌, ◌⊎◌, ◌↔◌, ◌≤◌, ◌<◌, ◌*◌, ◌-◌, ℕ, ℤ, List, length}
use Rattle.std.specs.Prelude.{None, option_map, IfSome, IsSome}
use Rattle.cedarwood.specs.Fault.{fault}
use Rattle.cedarwood.specs.Limits.{most_slots}
use Rattle.cedarwood.specs.State.{after_put}
use Rattle.cedar_c.specs.Content.{capacity_in, content, layout_in, search_limit_in, size_in}
use Rattle.cedar_c.specs.Content.{state_in, tree_in, trials_in}
use Rattle.cedar_c.specs.Status.{LacksOnlyNew, TellsPosition, position_of, status_of}
use Rattle.cedar_c.specs.declared.handle.Handle.{Handle}
use Rattle.cedar_c.specs.declared.status.TheConstants.{OK, CLOSED, MEMORY, SLOT_LIMIT}

-- a call that stores the value of one key. If OK is returned, the key has it, and no other key has changed; else each
-- key has what it had. `found` and `told` are the position before and after
pub record StoresValue (key : List ℕ) (value : ℤ) (before after : Handle) (found told status : ℕ) : Type 0 where
  pub closed : (status ≡ CLOSED) ↔ (content before ≡ None)
  pub ok : status ≡ OK → state_in after ≡ option_map (λ s. after_put s key value) (state_in before)
  pub err : (status ≡ OK) ⊎ (state_in after ≡ state_in before)
  -- a pair that has a fault is refused before anything changes
  pub unchanged : IsSome (fault key value) → content after ≡ content before
  -- the first fault of the pair is returned, and its position written
  pub faulty : IsSome (content before) → IfSome (fault key value) (λ e. (status ≡ status_of e) × (told ≡ position_of found e))
  -- memory is wanting only where all slots are in use, and there may be more
  pub memory : status ≡ MEMORY → (size_in after ≡ capacity_in after) × (capacity_in after < most_slots)
  -- slots are wanting only where as many are in use as there may be
  pub limit : status ≡ SLOT_LIMIT → size_in after ≡ most_slots
  -- neither is wanting where a block is spare for each byte of the key
  pub spare : IsSome (content before) → fault key value ≡ None → 256 * length key ≤ capacity_in before - size_in before → status ≡ OK
  -- without a fault only a key that isn't held is refused, for want of memory or slots
  pub refused : IsSome (content before) → fault key value ≡ None → LacksOnlyNew (tree_in before) key status
  -- only an error that has a position writes it
  pub stays : TellsPosition status ⊎ (told ≡ found)
  pub layout : layout_in after ≡ layout_in before
  pub trials : trials_in after ≡ trials_in before
  pub search_limit : search_limit_in after ≡ search_limit_in before

-- a call that changes neither how many slots are in use nor how many there are, nor the layout, nor how many trials
-- close a block, nor how many blocks one search tries
pub record KeepsSlots (before after : Handle) : Type 0 where
  pub size : (size_in after ≡ size_in before) × (capacity_in after ≡ capacity_in before)
  pub layout : layout_in after ≡ layout_in before
  pub trials : trials_in after ≡ trials_in before
  pub search_limit : search_limit_in after ≡ search_limit_in before
