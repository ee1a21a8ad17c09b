-- The words of clauses, from one place.
pub use Rattle.best_few.specs.Orders.{found_entry}
pub use Rattle.byte_automata.specs.Characters.{are_near, characters_of}
pub use Rattle.byte_automata.specs.Distances.{is_near}
pub use Rattle.cedar_complete.specs.Ends.{IsHeadOf}
pub use Rattle.cedarwood.specs.Sorted.{entries_of}
pub use Rattle.cedar_c.specs.Below.{FindsNoRoom, first_length, following_below, IsPlaceOf}
pub use Rattle.cedar_c.specs.Below.{MayWantMemory, PageBelow, prefixed_behind, TellsBelow}
pub use Rattle.cedar_c.specs.Below.{TellsNext}
pub use Rattle.cedar_c.specs.Best.{best_below, bound_if, entries_onwards, entries_upto}
pub use Rattle.cedar_c.specs.Best.{LacksRoomForKeys, order_if, TellsCeiling, TellsEntry}
pub use Rattle.cedar_c.specs.Best.{TellsFloor, TellsNeighbour, WritesEntries}
pub use Rattle.cedar_c.specs.BestCuts.{are_of_one_kind, is_same_kind, key_costs, kind_in, kind_run}
pub use Rattle.cedar_c.specs.BestCuts.{LacksRoomForBestCut, unknown_runs, WritesBestCut}
pub use Rattle.cedar_c.specs.Changes.{IsRecord}
pub use Rattle.cedar_c.specs.Content.{capacity_in, ChangesBy, content, ErasesUnder}
pub use Rattle.cedar_c.specs.Content.{layout_in, marks_in, search_limit_in, size_in}
pub use Rattle.cedar_c.specs.Content.{state_in, tree_in, trials_in}
pub use Rattle.cedar_c.specs.Cuts.{IsLeastCut, LacksRoomForCut, prices, WritesLeastCut}
pub use Rattle.cedar_c.specs.Entries.{bytes_lacking, CanGoOnBehind, EndsPage}
pub use Rattle.cedar_c.specs.Entries.{entries_behind_key, PageOf, spots_of}
pub use Rattle.cedar_c.specs.Entries.{TellsEntries, TellsPage, visited_key, WritesNothing}
pub use Rattle.cedar_c.specs.Entries.{WritesPage}
pub use Rattle.cedar_c.specs.Files.{early_refusal, file_in, file_layout, file_status, IsFileOf}
pub use Rattle.cedar_c.specs.Files.{LacksOrCorrupt, minor_of, names_reduced_layout, TellsHeader}
pub use Rattle.cedar_c.specs.Files.{TellsJust, TellsNoTable}
pub use Rattle.cedar_c.specs.Groups.{AddsChange, group_head, group_records, IsGroup, LacksGroup}
pub use Rattle.cedar_c.specs.Layouts.{HasSameSize, HasToGrow, inner_dictionary, inner_layout}
pub use Rattle.cedar_c.specs.Layouts.{layout_for}
pub use Rattle.cedar_c.specs.Lending.{as_shown, LendsCedar, LendsSeen}
pub use Rattle.cedar_c.specs.Matches.{all_longer, filled_from, filled_matches, Fit, front_keys}
pub use Rattle.cedar_c.specs.Matches.{longer, match_of, predicted_keys}
pub use Rattle.cedar_c.specs.Matching.{edits_if, is_wanted_near, is_wanted_text, TellsFitting}
pub use Rattle.cedar_c.specs.Matching.{TellsNearText, TellsWanted, wanted_behind}
pub use Rattle.cedar_c.specs.Opens.{BuildsOrLacks, OpensBuilt, OpensLoaded, OpensNew}
pub use Rattle.cedar_c.specs.Pairs.{build_fault, entries_in, keys_in, named_keys, StoresFront}
pub use Rattle.cedar_c.specs.Pairs.{StoresPart, taken_pair}
pub use Rattle.cedar_c.specs.Plans.{AppendsChange, damage_of, format_if, IsErasurePlan, IsOpening}
pub use Rattle.cedar_c.specs.Plans.{IsPutPlan, LacksChange, LacksRecord, MayCut, OpensJust}
pub use Rattle.cedar_c.specs.Plans.{TellsWhy, store_status}
pub use Rattle.cedar_c.specs.Readings.{shown_figure, shown_in, shown_layout, shown_tree}
pub use Rattle.cedar_c.specs.ScannerHandles.{scanner_in, shown_scanner_in}
pub use Rattle.cedar_c.specs.ScannerLending.{as_shown_scanner, LendsSeenScanner}
pub use Rattle.cedar_c.specs.Scanners.{IsFullAt, scanned_tree, scanner_by, WritesFound}
pub use Rattle.cedar_c.specs.Scans.{found_keyword, found_keywords, found_spot, found_spots}
pub use Rattle.cedar_c.specs.Scans.{found_token, found_tokens, WritesOn, WritesPiece}
pub use Rattle.cedar_c.specs.Shrinks.{Shrinks}
pub use Rattle.cedar_c.specs.Status.{position_of, status_of, status_text}
pub use Rattle.cedar_c.specs.Status.{TellsFault, TellsPosition}
pub use Rattle.cedar_c.specs.Stores.{HoldsFront, HoldsPart, RefusesAll}
pub use Rattle.cedar_c.specs.Updates.{KeepsSlots, StoresValue}
pub use Rattle.cedar_c.specs.declared.any_scanner.AnyScanner.{AnyScanner}
pub use Rattle.cedar_scan.specs.Words.{earliest_behind, ending_behind, IsHeight, keys_ending}
pub use Rattle.cedar_scan.specs.Words.{leftmost_from}
pub use Rattle.either_layout.specs.Builds.{IsBuildShortage}
pub use Rattle.either_layout.specs.declared.any.AnyCedar.{AnyCedar}
pub use Rattle.cedarwood.specs.Format.{header_answer}
pub use Rattle.cedarwood.specs.Refusal.{refusal_of}
pub use Rattle.cedarwood.specs.Tables.{IsTableFile, table_bytes}
pub use Rattle.cedar_journal.specs.Files.{ends_closed, format_of, HasExtent}
pub use Rattle.cedar_journal.specs.Formats.{frame_of, opening, overhead}
pub use Rattle.cedar_journal.specs.Records.{length_bytes}
pub use Rattle.cedar_journal.specs.declared.format.Format.TheVariants.{Plain, Summed}
pub use Rattle.cedarwood.specs.WellFormed.{IsWellFormed, tree_of}
pub use Rattle.cedarwood.specs.Layouts.{default_layout, layout_byte, reduced_layout}
pub use Rattle.cedar_plan.specs.Plans.{PlansAppend, works_of}
pub use Rattle.cedar_plan.specs.Works.{append_works, end_of, format_in}
pub use Rattle.cedar_salvage.specs.Whole.{CutsNone}
pub use Rattle.cedar_store.specs.Causes.{LoadCause}
pub use Rattle.cedar_store.specs.Changes.{erase_at, put_at}
pub use Rattle.cedar_store.specs.Files.{record_count, state_of}
pub use Rattle.cedarwood.specs.Queries.{prefixes, slots_of_tree, walk}
pub use Rattle.cedarwood.specs.Tree.{Tree}
pub use Rattle.cedar_walk.specs.Ranges.{entries_since}
pub use Rattle.cedar_walk.specs.Visits.{ComesToFirst, ComesToNumber, IsNumberedBelow, path_to}
pub use Rattle.cedarwood.specs.Batches.{held_in_turn, keys_erased}
pub use Rattle.cedarwood.specs.Builds.{all_stored, first_fault, outcome}
pub use Rattle.cedarwood.specs.Dictionary.{capacity_after}
pub use Rattle.cedarwood.specs.Fault.{fault, IsShortage}
pub use Rattle.cedarwood.specs.OnTable.{IsOnTable}
pub use Rattle.cedar_words.specs.Runs.{cost_in_table}
pub use Rattle.cedar_words.specs.Words.{IsBestCut}
pub use Rattle.cedarwood.specs.Queries.{front, predict}
pub use Rattle.cedarwood.specs.RangeWalks.{entries_left, IsRangePlace}
pub use Rattle.cedarwood.specs.Ranges.{entries_with, longest_front}
pub use Rattle.cedarwood.specs.Room.{LacksRoom, SetsSearchLimit}
pub use Rattle.cedarwood.specs.Shrinking.{IsShrunk}
pub use Rattle.cedarwood.specs.State.{after_erase, after_put}
pub use Rattle.cedarwood.specs.Tree.{number_at}
pub use Rattle.cedarwood.specs.Updates.{IsUpdate}
pub use Rattle.cedarwood.specs.Words.{IsCleared, IsEmpty, IsErasedUnder, IsSlotLimit}
pub use Rattle.cedarwood.specs.Words.{IsSorted, most_slots}
pub use Rattle.last_entries.specs.Nearness.{entry_told, IsLastOf}
pub use Rattle.std.specs.Borrow.{sem}
pub use Rattle.std.specs.Cmp.Lexicographic.{slice_cmp}
pub use Rattle.std.specs.List.{starts_with}
pub use Rattle.std.specs.Ordering.{is_lt, nat_cmp}
pub use Rattle.std.specs.Range.Bound.{bound_map}
pub use Rattle.std.specs.Str.{chars, IsUtf8}
