-- Changes of a store, and what is done if its device fails.
use Rattle.std.specs.Prelude.{◌≡◌, Err, Some}
use Rattle.cedarwood.specs.Dictionary.{Dictionary}
use Rattle.cedarwood.specs.State.{State}
use Rattle.cedar_store.specs.declared.compaction.CompactError.{CompactError}
use Rattle.cedar_store.specs.declared.error.DurableError.{DurableError}
use Rattle.cedar_store.specs.declared.error.DurableError.TheVariants.{Device}
use Rattle.cedar_store.specs.declared.store.Store.{Store}

-- the state of a store's dictionary
abbrev pub state_of_words : Dictionary → State
state_of_words d = d.state

-- after an error of the device a compaction was tried, and failed too, which the store reports
abbrev pub IsTriedAnew : {T A D : Type 0} → Store T A D → DurableError → Type 0
IsTriedAnew store (Device e) = (c : CompactError) × (store.last_compaction ≡ Some (Err c))
IsTriedAnew store _ = Unit {0}
