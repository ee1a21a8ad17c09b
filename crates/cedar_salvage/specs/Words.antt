-- The words that the clauses of this crate cite, from one place.
pub use Rattle.cedar_journal.specs.Device.{Elapses, LeavesOnly, Only}
pub use Rattle.cedar_journal.specs.Files.{ends_closed, HasExtent, format_of, file_payloads}
pub use Rattle.cedar_journal.specs.Image.{payloads_of}
pub use Rattle.cedar_journal.specs.Journal.{IsSettled}
pub use Rattle.cedar_journal.specs.Records.{behind_record, has_record, payloads_in}
pub use Rattle.cedar_store.specs.Causes.{ReadCause}
pub use Rattle.cedar_store.specs.Changes.{batch_of, change_of, put_of}
pub use Rattle.cedar_store.specs.Compactions.{default_rule}
pub use Rattle.cedar_store.specs.Files.{format_named, IsCorrupt, state_of}
pub use Rattle.cedar_store.specs.Promises.{IsCounted, IsReadyStore}
pub use Rattle.cedarwood.specs.Words.{key_fault}
pub use Rattle.cedar_salvage.specs.Openings.{IsBeforeWriting, IsOfOpening, IsOpeningCause}
pub use Rattle.cedar_salvage.specs.Openings.{IsReadable, IsUnfailed, KeepCause}
pub use Rattle.cedar_salvage.specs.Restoring.{IsOfFile, IsOfRoom, LeavesEitherRecords}
pub use Rattle.cedar_salvage.specs.Restoring.{restore_error, RestoreCause}
pub use Rattle.cedar_salvage.specs.Whole.{cuts_records, CutsNone, first_changes, found_in, found_of}
pub use Rattle.cedar_salvage.specs.Whole.{has_some, is_change, IsCutOf, is_kind, IsOpenedAt}
pub use Rattle.cedar_salvage.specs.Whole.{is_whole, look_at, looks, salvage_of, TakesLong}
pub use Rattle.whole_files.specs.Calls.{MayLeave, seen_after}
pub use Rattle.cedar_disk.specs.Openings.{opened_existing}
pub use Rattle.whole_files.specs.Openings.{opened_new}
pub use Rattle.cedar_salvage.specs.declared.keep.KeepError.TheVariants.{Memory}
