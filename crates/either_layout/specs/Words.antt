-- The words of clauses, from one place: a caller's crate takes them from here.
pub use Rattle.cedarwood.specs.Words.{after_erase, all_stored, Appends, capacity_after}
pub use Rattle.cedarwood.specs.Words.{default_layout, device_of, entries_of, entries_with, exact}
pub use Rattle.cedarwood.specs.Words.{FailsToWrite, fault, first_entry, first_fault, front}
pub use Rattle.cedarwood.specs.Words.{has_failed}
pub use Rattle.cedarwood.specs.Words.{held_in_turn, IsBuild, IsCleared, IsEmpty, IsErasedUnder}
pub use Rattle.cedarwood.specs.Words.{IsErasures, IsIo, IsMarked, IsOnTable, IsRefusedBuild}
pub use Rattle.cedarwood.specs.Words.{IsSavedAt, IsShrunk, IsSorted, IsSound, IsTableFile}
pub use Rattle.cedarwood.specs.Words.{IsUpdate, IsUpdates, IsValid, IsWellFormed, keys_erased}
pub use Rattle.cedarwood.specs.Words.{IsLimit, keys_of}
pub use Rattle.cedarwood.specs.Words.{LacksRoom, last_entry, LoadsBy, longest_front, MarksCut}
pub use Rattle.cedarwood.specs.Words.{most_slots, no_search_limit, number_at, outcome}
pub use Rattle.cedarwood.specs.Words.{PassesAgain, predict, prefixes, reduced_layout}
pub use Rattle.cedarwood.specs.Words.{SetsSearchLimit, slots_of_tree, table_bytes, TellsBreaks}
pub use Rattle.cedarwood.specs.Words.{value_fault, walk}
pub use Rattle.cedarwood.specs.SortedInput.{fault_from}
pub use Rattle.either_layout.specs.Builds.{IsBuildShortage}
pub use Rattle.either_layout.specs.Ends.{GivesEnd}
pub use Rattle.either_layout.specs.Layouts.{HasSameSize, inner_dictionary, inner_layout, layout_for}
pub use Rattle.either_layout.specs.Loads.{file_layout, LacksInEither, LoadsAnyFrom}
pub use Rattle.either_layout.specs.Loads.{LoadsAnyOpened, names_reduced_layout, NamesLayout}
pub use Rattle.either_layout.specs.Loads.{table_in}
