-- The words that the contracts of this crate cite, from one place. `Beginnings`, `NewFiles`, `NotedFiles`, `OpenedFiles`, `PathFiles` and
-- `SpecialFiles` name structs whose ghost fields cite these words: they are imported beside it.
pub use Rattle.torn_writes.specs.Tearing.{Only}
pub use Rattle.whole_files.specs.Calls.{Call, call_of, call_with, folder_sync_call}
pub use Rattle.whole_files.specs.Calls.{is_usable_after, MayLeave, open_call, seen_after}
pub use Rattle.whole_files.specs.Calls.{sync_call, took_name}
pub use Rattle.whole_files.specs.Names.{HasNoSlash, LiesBeside, LiesIn, mark_of, new_suffix}
pub use Rattle.whole_files.specs.Openings.{not_begun, opened_folder, opened_new, opened_to_read}
pub use Rattle.whole_files.specs.Openings.{path_of, was_opened}
pub use Rattle.whole_files.specs.Sending.{address, IsNoFile, IsSentTo, told_after}
pub use Rattle.whole_files.specs.Taken.{IsAnswered, TookSome, write_by_outcome}
pub use Rattle.whole_files.specs.Whole.{all_succeeded, asked_after, HasJustTaken, IsPlaced}
pub use Rattle.whole_files.specs.Whole.{IsUnplacedAt, IsWholeBeside, PathLeaves, WholeFilesAreSafe}
pub use Rattle.std.specs.Borrow.{ftrue}
pub use Rattle.std.specs.Io.{WritesAtMost}
pub use Rattle.std.specs.Io.KnownBytes.{Keeps, WriteAppends}
pub use Rattle.std.specs.Option.{ForSome}
