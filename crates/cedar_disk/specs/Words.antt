-- The words that the contracts of this crate cite, from one place. `Accounts`, `FileDevices`, `NotedFiles`, `OpenedFiles` and `PathFiles`
-- name structs whose ghost fields cite these words: they are imported beside it.
pub use Rattle.cedar_disk.specs.Errors.{IsUnlocked, TellsKind}
pub use Rattle.cedar_disk.specs.Laws.{counts_now, only_now}
pub use Rattle.cedar_disk.specs.Names.{compaction_path}
pub use Rattle.cedar_disk.specs.Openings.{opened_any, opened_existing, way_of}
pub use Rattle.cedar_disk.specs.Runs.{AreWritten, AreWrittenInPart, HasCauseIn}
pub use Rattle.cedar_disk.specs.Runs.{IsUnplaced, Spoils, TimePasses}
pub use Rattle.cedar_disk.specs.declared.system.OpenError.TheVariants.{Memory}
pub use Rattle.cedar_journal.specs.Device.{Cut, Follows, LeavesOnly, Only, Torn}
pub use Rattle.whole_files.specs.Calls.{all_within, Call, call_with, faults_in}
pub use Rattle.whole_files.specs.Calls.{folder_sync_call, full_in, is_locked_after, is_named_after}
pub use Rattle.whole_files.specs.Calls.{is_usable_after, LeftSince, lock_call, MayLeave, open_call}
pub use Rattle.whole_files.specs.Calls.{overlay, refused_call, rename_call, seen_after}
pub use Rattle.whole_files.specs.Calls.{sync_call, truncate_call}
pub use Rattle.whole_files.specs.Names.{LiesIn}
pub use Rattle.whole_files.specs.OpenedFiles.{file_to_read, folder_calls, OfFileAt}
pub use Rattle.whole_files.specs.Openings.{opened_as, opened_new, path_of}
pub use Rattle.whole_files.specs.Taken.{TookSome, write_by_outcome}
pub use Rattle.std.specs.Option.{ForSome}
