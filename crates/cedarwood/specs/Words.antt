-- The words that the public clauses cite, from one place: a caller's crate takes them from here, and so do this crate's own sources.
pub use Rattle.cedar_bulk.specs.Sorted.{entries_by, entries_of, Pair}
pub use Rattle.cedar_bulk.specs.SortedMarks.{SortedMarks}
pub use Rattle.whole_files.specs.PathFiles.{path_calls}
pub use Rattle.whole_files.specs.SpecialFiles.{sent_calls}
pub use Rattle.whole_files.specs.Calls.{Call}
pub use Rattle.whole_files.specs.Whole.{Content, IsPlaced, IsUnplacedAt, PathLeaves}
pub use Rattle.cedar_file.specs.Loading.{LoadsBy}
pub use Rattle.cedar_format.specs.Format.{CountsWithin, header_answer, IsVersion, need, Passes}
pub use Rattle.cedar_format.specs.Reading.{IsIo, LacksNoMore, TellsBreaks}
pub use Rattle.cedar_format.specs.Tables.{header_of, IsTableFile, table_bytes}
pub use Rattle.cedar_format.specs.WatchedDevice.{device_of, has_failed}
pub use Rattle.cedar_format.specs.declared.error.CedarPersistenceError.TheVariants.{AllocationFailed, Io}
pub use Rattle.cedar_format.specs.Watched.{Watched}
pub use Rattle.cedar_model.specs.Meaning.Marks.{marks, MarksCut, MarksPut}
pub use Rattle.cedar_model.specs.Meaning.WellFormed.{cells_in, IsWellFormed, tree_of}
pub use Rattle.cedar_model.specs.Table.Layouts.{default_layout, layout_byte, LayoutKind}
pub use Rattle.cedar_model.specs.Table.Layouts.{reduced_layout}
pub use Rattle.cedar_model.specs.Table.TableFields.{capacity_of, Fields, size_of}
pub use Rattle.cedar_slots.specs.Places.{IsSlotLimit}
pub use Rattle.cedar_table.specs.Table.Views.{fields}
pub use Rattle.cedar_tree.specs.Queries.{asc, Entry, exact, front, is_path, node_at, predict}
pub use Rattle.cedar_tree.specs.Queries.{prefixes, slots_of_tree, walk}
pub use Rattle.cedar_tree.specs.State.{after_erase, after_put, new_state, State}
pub use Rattle.cedar_tree.specs.Tree.{empty_tree, has_label, IsAscending, IsSound, number_at, Tree}
pub use Rattle.cedar_tree.specs.Walks.{front_from, visited_entries}
pub use Rattle.cedar_walk.specs.Batch.{keys_of}
pub use Rattle.cedar_walk.specs.Fronts.{front_length, IsNextFront, IsOnQuery}
pub use Rattle.cedar_walk.specs.Keys.{KeyGoesOn, KeyOutgrows, NextKeyOutgrows}
pub use Rattle.cedar_walk.specs.Pending.{IsPending}
pub use Rattle.cedar_walk.specs.Ranges.{entries_since, entries_with, longest_front}
pub use Rattle.cedar_walk.specs.Visits.{ComesTo, ComesToFirst, ComesToNumber, GoesToNode}
pub use Rattle.cedar_walk.specs.Visits.{GoesToNumber, IsBelow, IsNumberedBelow, left_at, path_to}
pub use Rattle.cedar_walk.specs.Visits.{SkipsToNode}
pub use Rattle.cedar_walk.specs.declared.visits.Numbered.{Numbered}
pub use Rattle.cedarwood.specs.Batches.{FindsKey, held_in_turn, IsErasure, IsErasures, IsFound}
pub use Rattle.cedarwood.specs.Batches.{IsUpdates, keys_erased, pair_at, StopsAt}
pub use Rattle.cedarwood.specs.Blanks.{IsBlankOf}
pub use Rattle.cedarwood.specs.Builds.{all_stored, first_fault, IsBuild, IsRefusedBuild, outcome}
pub use Rattle.cedarwood.specs.Cursors.{Cursor, cursor_code, cursor_entries, cursor_left, FindsNext}
pub use Rattle.cedarwood.specs.Cursors.{GivesEntry, IsAtEnd, IsCursorEnd, IsCursorPlace, IsShortOf}
pub use Rattle.cedarwood.specs.Cursors.{place_before, WritesNextKey}
pub use Rattle.cedarwood.specs.Dictionary.{AreSameFigures, capacity_after, Dictionary}
pub use Rattle.cedarwood.specs.Dictionary.{dictionary_code, first_bytes, Grows, IsMarked}
pub use Rattle.cedarwood.specs.Dictionary.{IsValid, no_search_limit}
pub use Rattle.cedarwood.specs.Ends.{first_entry, last_entry}
pub use Rattle.cedarwood.specs.Erasures.{all_erased, entries_without, erased_under, IsCleared}
pub use Rattle.cedarwood.specs.Erasures.{IsErasedUnder, MarksCutUnder}
pub use Rattle.cedarwood.specs.Fault.{fault, IsInRange, IsShortage, key_fault, value_fault}
pub use Rattle.cedarwood.specs.Limits.{default_load_limit, IsLimit, most_slots}
pub use Rattle.cedarwood.specs.Loading.{LacksByPath, LoadAnswers, LoadedFilesSaveAgain}
pub use Rattle.cedarwood.specs.Loading.{LoadsFrom, LoadsOpened, OwnFilesLoad}
pub use Rattle.cedarwood.specs.Making.{default_settings, IsEmpty, IsNew, IsRenewed}
pub use Rattle.cedarwood.specs.Making.{IsSorted, IsSortedBuild}
pub use Rattle.cedarwood.specs.Memory.{CedarFitsInMemory, ReducedFitsInMemory}
pub use Rattle.cedarwood.specs.OnTable.{dictionary_of, IsOnTable}
pub use Rattle.cedarwood.specs.RangeWalks.{entries_between, entries_left_before, GivesBetween}
pub use Rattle.cedarwood.specs.RangeWalks.{GivesRange, IsEnd, IsRangePlace}
pub use Rattle.cedarwood.specs.Room.{LacksRoom, SetsSearchLimit}
pub use Rattle.cedarwood.specs.Saves.{IsBufferless, IsErrorOf, IsSavedAt, IsUnsaved, IsUnsavedAt}
pub use Rattle.cedarwood.specs.Saves.{TellsError}
pub use Rattle.cedarwood.specs.Saving.{FailsToWrite, PassesAgain}
pub use Rattle.cedarwood.specs.Shown.{entry_error_text, error_text, refused_pair_text, shown_text}
pub use Rattle.cedarwood.specs.Shrinking.{ArePlaces, entry_of, IsEntryPlace, IsMadeOf, IsPutBack}
pub use Rattle.cedarwood.specs.Shrinking.{IsRebuilt, IsShrunk, LacksPlaces, PutsBack, PutsEntry}
pub use Rattle.cedarwood.specs.SortedInput.{AreBytes, fault_behind, fault_from, fault_of_order}
pub use Rattle.cedarwood.specs.SortedInput.{HasNoNul, IsSharedFront, key_at}
pub use Rattle.cedarwood.specs.SortedInput.{sorted_fault}
pub use Rattle.cedarwood.specs.Told.{error_of_shortage}
pub use Rattle.cedarwood.specs.Unsorted.{four_bytes, goes_on, headed_entries, IsHeaded}
pub use Rattle.cedarwood.specs.Unsorted.{IsNotFalling, IsUnsortedBuild, last_of_each, leading_bytes}
pub use Rattle.cedarwood.specs.Unsorted.{SortsTo}
pub use Rattle.cedarwood.specs.Updates.{IsUpdate}
pub use Rattle.cedarwood.specs.WalkPlaces.{ComesToEntry, entries_from, GoesOnTo, GoesToCopied}
pub use Rattle.cedarwood.specs.WalkPlaces.{GoesToEntry, IsEntriesPlace, IsPredictPlace}
pub use Rattle.cedarwood.specs.WalkPlaces.{IsPrefixPlace}
pub use Rattle.cedarwood.specs.WalkPlaces.{predicted_from}
pub use Rattle.cedarwood.specs.Walks.{counted_walk_code, CountedWalk, IsEntryError}
pub use Rattle.cedarwood.specs.Walks.{prefix_walk_code, PrefixWalk}
pub use Rattle.cedarwood.specs.declared.error.CedarError.TheVariants.{Memory}
pub use Rattle.std.specs.Cmp.Lexicographic.{slice_cmp}
pub use Rattle.std.specs.Io.KnownBytes.{Appends, Consumes}
pub use Rattle.std.specs.Iterator.{item_count, MakesProgress, UpTo, YieldsFirst}
pub use Rattle.std.specs.Iterator.SizeHint.{IsWithinCount}
pub use Rattle.std.specs.List.{All, starts_with}
pub use Rattle.std.specs.List.Sorted.{IsPermutation}
pub use Rattle.std.specs.Mem.{FitsInMemory}
pub use Rattle.std.specs.Option.{ForSome}
pub use Rattle.std.specs.Ordering.{is_lt, nat_cmp, ordering_then}
pub use Rattle.std.specs.Prelude.{[], IfErr, IfOk, IsTrue, length, map, MatchResult, OnOk, Some}
pub use Rattle.std.specs.declared.cmp.Ordering.TheVariants.{Less}
pub use Rattle.std.specs.Prelude.{IfOk}
