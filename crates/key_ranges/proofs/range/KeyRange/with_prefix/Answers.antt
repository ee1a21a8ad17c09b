use Rattle.std.proofs.Common.{◌&&◌, ℕ, List, ap, ◌∙◌, Option, option_map}
use Rattle.std.specs.Cmp.Lexicographic.{slice_cmp}
use Rattle.std.specs.Ordering.{is_ge, nat_cmp}
use Rattle.key_ranges.specs.Spans.{ends_before}
use Rattle.key_ranges.proofs.SpanLemmas.{prefixed}
use Rattle.key_ranges.proofs.range.KeyRange.with_prefix.Goals as goal

pub returns : goal.returns
returns g c w path =
    let prefix = c.args.prefix.now in
    ap (λ from. is_ge (slice_cmp nat_cmp w from) && ends_before (option_map (λ to. to.items) c.in_ok-to.to) w) c.in_ok-from.ensures.items
    ∙ ap (λ (to : Option (List ℕ)). is_ge (slice_cmp nat_cmp w prefix) && ends_before to w) c.in_ok-to.ensures
    ∙ prefixed w prefix path
