use Rattle.std.proofs.Common.{◌≡◌, ◌++◌, ◌∷◌, [], ℕ, List, ap, sym, ◌∙◌, Bor}
use Rattle.std.specs.Cmp.Lexicographic.{slice_cmp}
use Rattle.std.specs.Ordering.{is_lt, nat_cmp}
use Rattle.std.specs.Range.Bound.{bound_map}
use Rattle.key_ranges.specs.Spans.{precedes_stop}
use Rattle.key_ranges.proofs.SpanLemmas.{before_behind}
use Rattle.key_ranges.proofs.ends.end_of.Goals as goal

pub returns-in_ok-behind-in-Included : goal.returns-in_ok-behind-in-Included
returns-in_ok-behind-in-Included g c w =
    let key = c.in-Included.key.now in
    let items : c.in_ok-behind-in-Included.field-0.items ≡ key ++ 0 ∷ [] = c.in_ok-behind-in-Included.ensures in
    ap (λ z. is_lt (slice_cmp nat_cmp w z)) items
    ∙ before_behind w key
    ∙ sym (ap (λ b. precedes_stop (bound_map {A = Bor (List ℕ)} {B = List ℕ} (λ k. k.now) b) w) c.in-Included.is)
