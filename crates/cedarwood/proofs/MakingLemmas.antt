-- Settings count by what they say: one is made alike by two that say the same. And what a refused build says.
use Rattle.std.proofs.Common.{◌≡◌, ◌∙◌, ◌⊎◌, inl, inr, ℕ, ◌*◌, ◌≤◌, List, [], length, None, IfOk, Result, Ok, Err, ap, subst}
use Rattle.cedar_slots.specs.declared.shortage.Shortage.{Shortage}
use Rattle.cedar_slots.specs.declared.shortage.Shortage.TheVariants as shortage
use Rattle.cedar_tree.specs.Queries.{Entry, asc, prefixes}
use Rattle.cedar_model.specs.Table.Layouts.{LayoutKind}
use Rattle.cedarwood.specs.declared.builder.CedarBuilder.{CedarBuilder}
use Rattle.cedarwood.specs.declared.error.CedarError.{CedarError}
use Rattle.cedarwood.specs.declared.error.CedarError.TheVariants.{Memory, SlotLimit}
use Rattle.cedarwood.specs.Dictionary.{Dictionary}
use Rattle.cedarwood.specs.Making.{IsNew, IsSorted, IsSortedBuild}
use Rattle.cedarwood.specs.SortedInput.{fault_from}
use Rattle.cedarwood.specs.Told.{error_of_shortage}
use Rattle.cedarwood.specs.Unsorted.{IsUnsortedBuild}
use Rattle.cedarwood.proofs.SortedInputLemmas.{faultless}

module _ (one two : CedarBuilder) (ordered : one.ordered ≡ two.ordered) (max_trial : one.max_trial ≡ two.max_trial) (search_limit : one.search_limit ≡ two.search_limit) where
  pub new_alike : (made : Result Dictionary CedarError) → IsNew one made → IsNew two made
  new_alike (Ok d) is = record { tree = is.tree; unmarked = is.unmarked; ordered = is.ordered ∙ ordered; max_trial = is.max_trial ∙ max_trial; search_limit = is.search_limit ∙ search_limit; size = is.size }
  new_alike (Err e) is = is

  sorted_alike : (layout : LayoutKind) (pairs : List Entry) (made : Result Dictionary CedarError) → IfOk made (IsSorted layout one pairs) → IfOk made (IsSorted layout two pairs)
  sorted_alike layout pairs (Ok d) is =
      record { tree = is.tree; marks = is.marks; ordered = is.ordered ∙ ordered; max_trial = is.max_trial ∙ max_trial; search_limit = is.search_limit ∙ search_limit; size = is.size; packed = is.packed }
  sorted_alike layout pairs (Err e) is = is

  pub built_alike : (layout : LayoutKind) (slots : ℕ) (pairs : List Entry) (made : Result Dictionary CedarError) → IsSortedBuild layout slots one pairs made
      → IsSortedBuild layout slots two pairs made
  built_alike layout slots pairs made is = record { faulty = is.faulty; sorted = sorted_alike layout pairs made is.sorted; refused = is.refused }

  pub unsorted_alike : (layout : LayoutKind) (slots : ℕ) (pairs : List Entry) (made : Result Dictionary CedarError) → IsUnsortedBuild layout slots one pairs made
      → IsUnsortedBuild layout slots two pairs made
  unsorted_alike layout slots pairs made is = record { faulty = is.faulty; stored = sorted_alike layout pairs made is.stored; refused = is.refused }

-- what a table lacked is reported as itself
lacked : (e : Shortage) (P : Type 0) → (e ≡ shortage.Memory) ⊎ ((e ≡ shortage.SlotLimit) × P) → (error_of_shortage e ≡ Memory) ⊎ ((error_of_shortage e ≡ SlotLimit) × P)
lacked e P (inl memory) = inl (ap error_of_shortage memory)
lacked e P (inr limit) = inr (ap error_of_shortage limit.0, limit.1)

-- a build of pairs without a fault whose table was refused
pub refused_build : (layout : LayoutKind) (slots : ℕ) (settings : CedarBuilder) (pairs : List Entry) (made : Result Dictionary CedarError) (error : CedarError) (e : Shortage) → fault_from 0 [] pairs ≡ None
    → made ≡ Err error → error ≡ error_of_shortage e → (e ≡ shortage.Memory) ⊎ ((e ≡ shortage.SlotLimit) × (slots ≤ 256 * length (prefixes (asc pairs)))) → IsSortedBuild layout slots settings pairs made
refused_build layout slots settings pairs (Ok d) error e fine is same lacks = absurd (cc)
refused_build layout slots settings pairs (Err x) error e fine is same lacks =
    let told_as : error_of_shortage e ≡ x = cc in
    let Lacks : CedarError → Type 0 = λ y. (y ≡ Memory) ⊎ ((y ≡ SlotLimit) × (slots ≤ 256 * length (prefixes (asc pairs)))) in
    record { faulty = faultless (fault_from 0 [] pairs) (Err x) fine; sorted = tt; refused = λ _. subst Lacks told_as (lacked e (slots ≤ 256 * length (prefixes (asc pairs))) lacks) }
