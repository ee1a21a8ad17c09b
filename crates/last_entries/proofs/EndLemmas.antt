-- What is in a range, by what is before its end.
use Rattle.std.proofs.Common.{◌≡◌, List, sym, ◌∙◌}
use Rattle.std.specs.Prelude.{filter}
use Rattle.std.specs.Cmp.Lexicographic.{slice_cmp}
use Rattle.std.specs.Ordering.{is_ge, nat_cmp}
use Rattle.cedar_tree.specs.Queries.{Entry}
use Rattle.key_ranges.specs.Spans.{ends_before, holds, KeySpan}
use Rattle.key_ranges.proofs.EntryRangeLemmas.{filter_twice}
use Rattle.last_entries.specs.Nearness.{before_end, from_on}
use Rattle.last_entries.proofs.NearLemmas.{either_first}

-- what is in a range is what is before its end, from its beginning on
pub within_is : (span : KeySpan) (es : List Entry) → filter (λ e. holds span e.0) es ≡ from_on span.from (before_end span.to es)
within_is span es =
    filter_twice (λ w. is_ge (slice_cmp nat_cmp w span.from)) (ends_before span.to) es
    ∙ sym (either_first (λ w. is_ge (slice_cmp nat_cmp w span.from)) (ends_before span.to) es)
