-- The words that the clauses cite, from one place.
pub use Rattle.accepted_entries.specs.Accepted.{accepted_in, GivesAccepted, GivesFirst}
pub use Rattle.accepted_entries.specs.Accepted.{GoesOnBehind, KeepsAccepted}
pub use Rattle.best_few.specs.Orders.{best, found_entry, sort_by_value}
pub use Rattle.cedar_complete.specs.Ends.{IsHeadOf, range_error_text, unless_before}
pub use Rattle.cedar_tree.specs.Queries.{Entry}
pub use Rattle.cedarwood.specs.Words.{entries_with, GivesRange, walk}
pub use Rattle.key_ranges.specs.Spans.{entries_within, KeySpan}
pub use Rattle.last_entries.specs.Nearness.{AscendByKeys, entry_told, from_on, IsFirstOf, IsLastOf}
