-- What an update returns, and what it leaves.
use Rattle.std.specs.Prelude.{◌≡◌, ◌⊎◌, ℕ, ℤ, ◌+◌, ◌-◌, ◌*◌, ◌<◌, ◌≤◌, false, List, [], ◌∷◌, length}
use Rattle.std.specs.Prelude.{None, IfSome, IsSome, IsOk, IfErr, OnOk, OnErr, Result, Err}
use Rattle.cedar_tree.specs.Tree.{has_label, number_at}
use Rattle.cedar_tree.specs.Queries.{slots_of_tree}
use Rattle.cedar_tree.specs.State.{after_put}
use Rattle.cedarwood.specs.declared.error.CedarError.{CedarError}
use Rattle.cedarwood.specs.declared.error.CedarError.TheVariants.{Memory, SlotLimit}
use Rattle.cedar_model.specs.Edit.Packing.{joins}
use Rattle.cedar_model.specs.Meaning.Marks.{MarksPut}
use Rattle.cedar_model.specs.Table.Layouts.{LayoutKind, default_layout, reduced_layout}
use Rattle.cedarwood.specs.Dictionary.{Dictionary, Grows, IsMarked, first_bytes, held_slots}
use Rattle.cedarwood.specs.Fault.{fault, IsShortage}

-- what `PacksKey` says, of dictionaries
abbrev pub PacksUpdate : Dictionary → Dictionary → List ℕ → Type 0
PacksUpdate before after key =
    (after.size ≤ before.size + 256 * joins before.state.tree key)
    ⊎ ((after.size + first_bytes after.state.tree ≤ held_slots after + 510)
    ⊎ ((before.size + first_bytes before.state.tree ≡ held_slots before + 255) × (joins before.state.tree key ≡ 1) × (after.size ≤ before.size + 512)))

-- all that an update of the key with v says of its result and of the dictionary, in this layout and with `slots`
-- slots at most
pub record IsUpdate (layout : LayoutKind) (slots : ℕ) (before after : Dictionary) (key : List ℕ) (v : ℤ) (result : Result (Unit {0}) CedarError) : Type 0 where
  -- the pair's fault is returned, if it has one, and then nothing has changed
  pub faulty : IfSome (fault key v) (λ e. result ≡ Err e)
  pub unchanged : IsSome (fault key v) → after ≡ before
  -- after `Ok` the state is that after a put
  pub ok : OnOk result (after.state ≡ after_put before.state key v)
  -- after an `Err` the state is as before
  pub err : OnErr result (after.state ≡ before.state)
  -- which numbers have slots of their own: by default all. Where a number may be kept in its node's own slot, the numbers of the key's
  -- fronts move into slots, and the key's has one if longer keys are held; all others stay where they are. A refused update moves none
  pub by_default : OnOk result (layout ≡ default_layout → after.marked ≡ after.state.tree)
  pub marks : OnOk result (layout ≡ reduced_layout → MarksPut before.state.tree before.marked after.marked key)
  pub marked : OnOk result (IsMarked after)
  pub marks_stay : OnErr result (after.marked ≡ before.marked)
  -- without a fault it is refused only for memory or slots, and then the key isn't held. Memory is wanted only where all slots are in use
  -- and there may be more, and slots where there may not
  pub refused : fault key v ≡ None → IfErr result (λ e. IsShortage e × (number_at before.state.tree key ≡ None))
  pub memory : result ≡ Err Memory → (after.size ≡ after.capacity) × (after.capacity < slots)
  pub limit : result ≡ Err SlotLimit → after.size ≡ slots
  -- a key of n bytes makes n blocks at most, and fewer if it is refused: so it isn't refused while n blocks are spare
  pub blocks : (n : ℕ) × (n ≤ length key) × (fault key v ≡ None → OnErr result (n < length key)) × Grows n before after
  pub spare : 256 * length key ≤ before.capacity - before.size → fault key v ≡ None → IsOk result
  pub over : IsSome (number_at before.state.tree key) → Grows 0 before after
  -- a new first byte alone makes a block, or is refused, only where its number takes a slot of its own and no slot outside block 0 is
  -- free: there, each is held that isn't the root's or one of its children's
  pub one_byte : (b : ℕ) → key ≡ b ∷ [] → has_label before.state.tree.children b ≡ false → fault key v ≡ None
      → (IsOk result × Grows 0 before after) ⊎ ((layout ≡ default_layout) × (before.size + first_bytes before.state.tree ≡ slots_of_tree before.state.tree + 255))
  -- one slot alone is taken wherever one is free outside the first block
  pub packs : OnOk result (PacksUpdate before after key)
  -- the settings are as before
  pub max_trial : after.max_trial ≡ before.max_trial
  pub search_limit : after.search_limit ≡ before.search_limit
