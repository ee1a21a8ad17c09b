-- The words that the clauses cite, from one place.
pub use Rattle.cedar_scan.specs.Automata.{AreByDepth, AreLaid, AreLinkedFirst, AreNodes, AreSlotsWithin}
pub use Rattle.cedar_scan.specs.Automata.{blank, CanLink, CanListKey, child_in, FailsTo, IsAutomaton}
pub use Rattle.cedar_scan.specs.Automata.{IsGoto, IsLinked, IsPlacing, IsStepFrom, GetsLinks, may_have, path_in}
pub use Rattle.cedar_scan.specs.Automata.{GoesToSuffix, slot_of_path, state_at, StepsWithin, with_node}
pub use Rattle.cedar_scan.specs.Earliest.{CostsFirst, earliest, earliest_from, GivesEarliest}
pub use Rattle.cedar_scan.specs.Falls.{AddsFall, AddsPopped, AreFalls, CanFall, FallsTo, pops_of}
pub use Rattle.cedar_scan.specs.Keywords.{CantGoOn, IsKeywordAutomaton, IsKeywordCursor}
pub use Rattle.cedar_scan.specs.Keywords.{keyword_code, keywords_left, KeywordsLeft}
pub use Rattle.cedar_scan.specs.Keywords.{ScansOn, ScansOnOrEnds, tests_left}
pub use Rattle.cedar_scan.specs.Laws.{AreByEnd, IsLongestHeld, PiecesGoOn, PiecesJoin}
pub use Rattle.cedar_scan.specs.Leftmost.{popped_at}
pub use Rattle.cedar_scan.specs.Listed.{keys_from, ListsKey, no_key}
pub use Rattle.cedar_scan.specs.Places.{ArePlacedAnew, ArePutAnew, IsPutAnew, placed_by, placed_node}
pub use Rattle.cedar_scan.specs.Plain.{all_beginning, OccursIn}
pub use Rattle.cedar_scan.specs.Preferred.{first_node, first_tree, FirstIsLongestLeft, if_less}
pub use Rattle.cedar_scan.specs.Preferred.{keys_for, least_in, leftmost, lesser, LongestAreKeywords}
pub use Rattle.cedar_scan.specs.Resumed.{earliest_behind, ending_behind, IsHeight, leftmost_from}
pub use Rattle.cedar_scan.specs.Scanners.{LeftmostKeys, leftmost_code}
pub use Rattle.cedar_scan.specs.Scans.{all_left, CostsNext, CostsStep, GivesNextFound, GivesPending}
pub use Rattle.cedar_scan.specs.Scans.{GoesOnByByte, IsCursor, steps_left}
pub use Rattle.cedar_scan.specs.Streams.{CostsInPiece, IsStream, NextInPiece, stream_code, StreamAt}
pub use Rattle.cedar_scan.specs.Suffixes.{failure, held_suffix, is_node, keys_ending}
pub use Rattle.cedar_scan.specs.Suffixes.{overlapping, Occurrence, all_ending}
pub use Rattle.cedar_scan.specs.Tables.{slot_in}
pub use Rattle.cedar_scan.specs.Walks.{scan_code, ScanLeft}
pub use Rattle.cedar_words.specs.Spots.{keywords_from, keywords_in}
pub use Rattle.cedarwood.specs.Words.{IsBlankOf, IsWellFormed, Tree, tree_of}
pub use Rattle.std.specs.Iterator.{item_count, YieldsFirst}
pub use Rattle.std.specs.List.Sorted.{IsPermutation}
