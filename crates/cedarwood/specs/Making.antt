-- How a dictionary is made, and what is returned where it isn't.
use Rattle.std.specs.Prelude.{◌≡◌, ◌⊎◌, ℕ, ◌+◌, ◌*◌, ◌≤◌, List, [], length, None, true, pos}
use Rattle.std.specs.Prelude.{IfErr, IfOk, IfSome, MatchResult, Result, Err}
use Rattle.std.specs.Int.Signed.{≤ℤ_refl}
use Rattle.cedar_tree.specs.Tree.{empty_tree}
use Rattle.cedar_tree.specs.Queries.{Entry, asc, prefixes}
use Rattle.cedar_bulk.specs.Packed.{count_crowded}
use Rattle.cedar_bulk.specs.SortedMarks.{SortedMarks}
use Rattle.cedar_model.specs.Table.Layouts.{LayoutKind}
use Rattle.cedarwood.specs.declared.builder.CedarBuilder.{CedarBuilder}
use Rattle.cedarwood.specs.declared.error.CedarError.{CedarError}
use Rattle.cedarwood.specs.declared.error.CedarError.TheVariants.{Memory, SlotLimit}
use Rattle.cedarwood.specs.Dictionary.{capacity_after, Dictionary, first_bytes}
use Rattle.cedarwood.specs.Dictionary.{held_slots, no_search_limit}
use Rattle.cedarwood.specs.SortedInput.{fault_from}

-- labels ascend, one failed search closes a block, and nothing bounds a search
abbrev pub default_settings : CedarBuilder
default_settings = record { ordered = true; max_trial = pos 1; search_limit = no_search_limit; tried = ≤ℤ_refl (pos 1) }

-- an empty dictionary with these settings, of one block
pub record IsEmpty (settings : CedarBuilder) (d : Dictionary) : Type 0 where
  pub tree : d.state.tree ≡ empty_tree
  pub unmarked : d.marked ≡ empty_tree
  pub ordered : d.state.ordered ≡ settings.ordered
  pub max_trial : d.max_trial ≡ settings.max_trial
  pub search_limit : d.search_limit ≡ settings.search_limit
  pub size : (d.size ≡ 256) × (d.capacity ≡ 256)

-- an empty dictionary with these settings was made, or there was no memory for it
abbrev pub IsNew : CedarBuilder → Result Dictionary CedarError → Type 0
IsNew settings made = MatchResult made (IsEmpty settings) (λ e. e ≡ Memory)

-- an empty dictionary with these settings has replaced another, or there was no memory for it and the other stays
abbrev pub IsRenewed : CedarBuilder → Dictionary → Dictionary → Result (Unit {0}) CedarError → Type 0
IsRenewed settings before after result = MatchResult result (λ _. IsEmpty settings after) (λ e. (e ≡ Memory) × (after ≡ before))

-- a dictionary that was made of pairs with these settings: it has the tree of the pairs, whose labels ascend, and one
-- block more at most for each prefix of a key. So slots are wanted only by many of these
pub record IsSorted (layout : LayoutKind) (settings : CedarBuilder) (pairs : List Entry) (d : Dictionary) : Type 0 where
  pub tree : d.state.tree ≡ asc pairs
  -- in the reduced layout just the numbers of keys that begin longer ones have slots of their own; by default all
  -- have
  pub marks : SortedMarks layout (asc pairs) d.marked
  pub ordered : d.state.ordered ≡ settings.ordered
  pub max_trial : d.max_trial ≡ settings.max_trial
  pub search_limit : d.search_limit ≡ settings.search_limit
  pub size : (n : ℕ) × (n ≤ length (prefixes (asc pairs))) × (d.size ≡ 256 + 256 * n) × (d.capacity ≡ capacity_after n 256 256)
  -- at most 255 slots outside the first block are free, and 256 others for each node below the root that takes
  -- several
  pub packed : d.size + first_bytes (asc pairs) ≤ held_slots d + 510 + 256 * count_crowded (asc pairs)

-- a build of sorted pairs returns their first fault, if there is one; or else their dictionary (`IsSorted`), or it is
-- refused for memory, or for slots if so many prefixes might want all
pub record IsSortedBuild (layout : LayoutKind) (slots : ℕ) (settings : CedarBuilder) (pairs : List Entry) (made : Result Dictionary CedarError) : Type 0 where
  pub faulty : IfSome (fault_from 0 [] pairs) (λ e. made ≡ Err e)
  pub sorted : IfOk made (IsSorted layout settings pairs)
  pub refused : fault_from 0 [] pairs ≡ None → IfErr made (λ e. (e ≡ Memory) ⊎ ((e ≡ SlotLimit) × (slots ≤ 256 * length (prefixes (asc pairs)))))
