-- The words that the clauses of this crate cite, from one place.
pub use Rattle.cedar_journal.specs.Device.{LeavesOnly, Only}
pub use Rattle.cedar_journal.specs.Files.{ends_closed, HasExtent}
pub use Rattle.cedar_journal.specs.Files.{format_of, file_payloads}
pub use Rattle.cedar_journal.specs.Formats.{AreUndamaged, overhead, payloads_read, records_read}
pub use Rattle.cedar_journal.specs.Frames.{payload_of}
pub use Rattle.cedar_journal.specs.Image.{image_bytes, payloads_of}
pub use Rattle.cedar_journal.specs.Journal.{IsSettled, StandsForEither}
pub use Rattle.cedar_journal.specs.Records.{payloads_in}
pub use Rattle.cedar_journal.specs.Replacing.{IfKept}
pub use Rattle.cedar_store.specs.Batches.{AreHeld, HasKey, IsFaultless, IsHeld, IsRecorded}
pub use Rattle.cedar_store.specs.Batches.{all_erased_late, all_updated, batch_length, change_at}
pub use Rattle.cedar_store.specs.Batches.{change_fault, change_length, first_refused, is_put_by}
pub use Rattle.cedar_store.specs.Batches.{late_erased, only_updated, puts, record_of}
pub use Rattle.cedar_store.specs.Causes.{BatchCause, ChangeCause, EraseCause, FrameCause}
pub use Rattle.cedar_store.specs.Causes.{IsBeforeWrites, IsOfDevice, IsRefusedAt, LoadCause}
pub use Rattle.cedar_store.specs.Causes.{PayloadCause, PrepareCause, ReadCause, ReplayCause}
pub use Rattle.cedar_store.specs.Changes.{after, after_change, after_payloads, all_changed}
pub use Rattle.cedar_store.specs.Changes.{batch_of, change_of, changes_of, erase_at}
pub use Rattle.cedar_store.specs.Changes.{number_of_bytes, put_at, put_of}
pub use Rattle.cedar_store.specs.Compactions.{compact_error, CompactCause, compacted_length}
pub use Rattle.cedar_store.specs.Compactions.{CompactMemory, default_rule, is_beyond}
pub use Rattle.cedar_store.specs.Compactions.{IsBeforeReplacing, IsPutBehind, replace_error}
pub use Rattle.cedar_store.specs.Files.{AddsRecord, format_named, IsCorrupt, record_count}
pub use Rattle.cedar_store.specs.Files.{StandsFor, state_of, state_with}
pub use Rattle.cedar_store.specs.Links.{AreLastPuts, AreLinkedPuts, heads_with}
pub use Rattle.cedar_store.specs.Links.{key_place, links_with, sum_with}
pub use Rattle.cedar_store.specs.Promises.{AddsPayload, CrashLeavesEither, CrashLeavesOldOr}
pub use Rattle.cedar_store.specs.Promises.{CrashLeavesRecord, CrashLeavesState}
pub use Rattle.cedar_store.specs.Promises.{CrashLeavesStateOrOld, FailsByDevice, HasState}
pub use Rattle.cedar_store.specs.Promises.{IsBatchCause, IsCounted, IsEraseCause, IsOpenCause}
pub use Rattle.cedar_store.specs.Promises.{IsPutCause, IsReadyStore, IsRecordedIn, KeepsCount}
pub use Rattle.cedar_store.specs.Promises.{KeepsFile, LeavesChange, LeavesStore, LeavesUncompacted}
pub use Rattle.cedar_store.specs.Promises.{LeavesUnwritten}
pub use Rattle.cedar_store.specs.Puts.{IsPut}
pub use Rattle.cedar_store.specs.Shortening.{end_behind, is_due, IsFailureTold, IsLookedAfter}
pub use Rattle.cedar_store.specs.Shortening.{IsLookedAfterError, IsLookedAfterRecord, IsSeenTo}
pub use Rattle.cedar_store.specs.Shortening.{IsShortened, IsShortenedIfDue, IsUnlooked}
pub use Rattle.cedar_store.specs.Shown.{compact_error_text, durable_error_text}
pub use Rattle.cedar_store.specs.Store.{IsConsistent, IsReady}
pub use Rattle.cedar_store.specs.Told.{change_told, changes_told, file_error}
pub use Rattle.cedar_store.specs.Told.{frame_error, journal_error}
pub use Rattle.cedar_store.specs.Undo.{IsPutOf}
pub use Rattle.cedar_store.specs.declared.error.DurableError.TheVariants.{Device, Foreign, Full}
pub use Rattle.cedar_store.specs.declared.error.DurableError.TheVariants.{NoRoom, Refused, TooLong}
pub use Rattle.cedarwood.specs.State.{State, new_state}
pub use Rattle.cedarwood.specs.Tree.{IsAscending}
pub use Rattle.cedarwood.specs.Words.{IsLimit, IsShortage, IsSound, all_stored, after_erase}
pub use Rattle.cedarwood.specs.Words.{fault, number_at, outcome, after_put}
pub use Rattle.cedarwood.specs.Words.{value_fault, walk}
pub use Rattle.cedarwood.specs.declared.error.CedarError.TheVariants.{Memory}
pub use Rattle.std.specs.List.{AllByRecursion}
pub use Rattle.std.specs.Prelude.{Some}
