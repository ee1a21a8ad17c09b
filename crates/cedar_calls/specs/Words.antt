-- The words that the contracts of this crate cite, and those of what questions return, from one place.
pub use Rattle.cedar_calls.specs.Agreement.{RunsAgree}
pub use Rattle.cedar_calls.specs.Changes.{IsChange, IsErasedBatch, IsErasedFound}
pub use Rattle.cedar_calls.specs.Files.{SavesLoadAgain}
pub use Rattle.cedar_calls.specs.Keys.{KeysStandAlone, KeysStandAloneInRuns}
pub use Rattle.cedar_calls.specs.Making.{IsCopy, Joins}
pub use Rattle.cedar_calls.specs.Plain.{TreesDecide}
pub use Rattle.cedar_calls.specs.Runs.{AddsRun, IsRun, IsStep}
pub use Rattle.cedar_replies.specs.Words.{AreTexts, Collects, CollectsAll, CollectsAscending}
pub use Rattle.cedar_replies.specs.Words.{CollectsEntries, CollectsFew, CollectsRange}
pub use Rattle.cedar_replies.specs.Words.{CollectsSome, IsBufferReply, IsCheapCut}
pub use Rattle.cedar_replies.specs.Words.{IsCompletionReply, IsFigure, IsFittingReply, IsReply}
pub use Rattle.cedar_replies.specs.Words.{IsTextReply, run_in_table}
pub use Rattle.cedar_replies.specs.Words.{best, character_price, cost_in_table, earliest}
pub use Rattle.cedar_replies.specs.Words.{edits_counted, end_at, entries_between}
pub use Rattle.cedar_replies.specs.Words.{entries_between_ends, entries_since, entries_with}
pub use Rattle.cedar_replies.specs.Words.{entries_within, entry_told, exact, first_entry}
pub use Rattle.cedar_replies.specs.Words.{first_of_list, found_entry, front, holds}
pub use Rattle.cedar_replies.specs.Words.{is_between_ends, is_close, is_near, IsBestCut, IsBestCuts}
pub use Rattle.cedar_replies.specs.Words.{IsTableFile, KeyOutgrows, last_entry, last_of_list}
pub use Rattle.cedar_replies.specs.Words.{leftmost, lists_of, overlapping, predict, walk}
pub use Rattle.cedar_replies.specs.Words.{where_ascending}
pub use Rattle.std.specs.Range.Bound.{bound_map}
pub use Rattle.cedarwood.specs.Words.{IsSlotLimit, IsValid, keys_of}
pub use Rattle.cedarwood.specs.declared.error.CedarError.TheVariants.{Memory}
