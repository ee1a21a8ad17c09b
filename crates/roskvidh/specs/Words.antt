-- The words that the clauses of this crate cite, from one place.
pub use Rattle.cedar_journal.specs.Device.{Only}
pub use Rattle.cedar_store.specs.Store.{IsReady}
pub use Rattle.cedar_store.specs.Words.{all_changed, changes_told, HasState, IsBatchCause}
pub use Rattle.cedar_store.specs.Words.{IsReadyStore, LeavesStore}
pub use Rattle.roskvidh.specs.Applied.{IsTriedAnew, state_of_words}
pub use Rattle.std.specs.Prelude.{IfOk}
