-- The words that the clauses cite, from one place.
pub use Rattle.cedar_tree.specs.Queries.{Entry, walk}
pub use Rattle.cedar_tree.specs.Tree.{IsAscending, IsSound, Tree}
pub use Rattle.key_ranges.specs.Spans.{ends_before, entries_within, follows_start, holds}
pub use Rattle.key_ranges.specs.Spans.{HoldsBefore, HoldsBehind, HoldsBetween, HoldsPast}
pub use Rattle.key_ranges.specs.Spans.{HoldsPrefixed, KeySpan, precedes_stop, span_code, successor}
pub use Rattle.std.specs.Cmp.Lexicographic.{slice_cmp}
pub use Rattle.std.specs.List.{starts_with}
pub use Rattle.std.specs.Ordering.{is_ge, nat_cmp}
pub use Rattle.std.specs.Range.Bound.{bound_map}
