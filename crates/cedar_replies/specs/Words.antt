-- The words that the contracts of this crate cite, from one place.
pub use Rattle.cedar_replies.specs.Completions.{edits_counted, end_at, entries_between_ends, first_of_list}
pub use Rattle.cedar_replies.specs.Completions.{is_between_ends, is_close, last_of_list, where_ascending}
pub use Rattle.cedar_replies.specs.Replies.{AreTexts, Collects, CollectsRange}
pub use Rattle.cedar_replies.specs.Replies.{CollectsAll, CollectsAscending, CollectsEntries}
pub use Rattle.cedar_replies.specs.Replies.{CollectsFew, CollectsSome, IsBufferReply}
pub use Rattle.cedar_replies.specs.Replies.{IsCompletionReply, IsFigure, IsFittingReply, IsReply}
pub use Rattle.cedar_replies.specs.Replies.{IsTextReply}
pub use Rattle.cedar_replies.specs.Texts.{IsCheapCut, run_in_table}
pub use Rattle.best_few.specs.Orders.{best, found_entry}
pub use Rattle.byte_automata.specs.Distances.{is_near}
pub use Rattle.key_ranges.specs.Spans.{entries_within, holds}
pub use Rattle.last_entries.specs.Nearness.{entry_told}
pub use Rattle.std.specs.Range.Bound.{bound_map}
pub use Rattle.cedar_scan.specs.Words.{earliest, leftmost, overlapping}
pub use Rattle.cedar_words.specs.Runs.{cost_in_table}
pub use Rattle.cedar_words.specs.Words.{character_price, IsBestCut, IsBestCuts, lists_of}
pub use Rattle.cedarwood.specs.Tables.{IsTableFile}
pub use Rattle.cedarwood.specs.Queries.{exact, front, predict, walk}
pub use Rattle.cedarwood.specs.Ends.{first_entry, last_entry}
pub use Rattle.cedarwood.specs.RangeWalks.{entries_between}
pub use Rattle.cedarwood.specs.Ranges.{entries_since, entries_with}
pub use Rattle.cedarwood.specs.Words.{KeyOutgrows, keys_of}
pub use Rattle.cedarwood.specs.declared.error.CedarError.TheVariants.{Memory}
