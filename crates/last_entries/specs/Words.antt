-- The words that the clauses cite, from one place.
pub use Rattle.cedar_tree.specs.Queries.{Entry}
pub use Rattle.key_ranges.specs.Spans.{ends_before}
pub use Rattle.last_entries.specs.Nearness.{before_end, from_on, IsFirstOf, IsLastOf, AscendByKeys}
pub use Rattle.last_entries.specs.Nearness.{entry_told, IsNear, Nears}
