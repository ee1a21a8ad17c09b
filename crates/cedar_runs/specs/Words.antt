-- The words that the contracts of this crate cite, from one place.
pub use Rattle.cedar_journal.specs.Device.{Only}
pub use Rattle.cedar_runs.specs.Lives.{AcknowledgedCallsStay, BeginsSession, KeepsState}
pub use Rattle.cedar_runs.specs.Runs.{MakesStoreCalls}
pub use Rattle.cedar_runs.specs.Steps.{after_call, IsStoreStep, outcome_of, outcome_of_compaction}
pub use Rattle.cedar_runs.specs.Steps.{outcome_of_erasure, point_of}
pub use Rattle.cedar_store.specs.Words.{IsOpenCause, IsReadyStore, all_changed, changes_told}
pub use Rattle.cedar_store.specs.Words.{after_erase, after_put}
