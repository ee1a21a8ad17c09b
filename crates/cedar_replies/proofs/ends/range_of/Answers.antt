use Rattle.std.proofs.Common.{◌≡◌, ◌&&◌, ℕ, Bor, IfOk, List, subst}
use Rattle.std.specs.Range.Bound.{bound_map}
use Rattle.std.specs.declared.ops.Bound.{Bound}
use Rattle.key_ranges.specs.Spans.{follows_start, holds, KeySpan, precedes_stop}
use Rattle.cedar_replies.specs.Completions.{end_at}
use Rattle.cedar_replies.proofs.ends.range_of.Goals as goal

pub returns : goal.returns
returns g c =
    let ends = c.args.ends.now in
    let start : Bound (List ℕ) = bound_map {A = Bor (List ℕ)} {B = List ℕ} (λ key. key.now) c.end_at-start.result in
    let stop : Bound (List ℕ) = end_at ends.to_included ends.to.now in
    subst (λ (b : Bound (List ℕ)). IfOk c.between.result (λ (range : KeySpan). (w : List ℕ) → holds range w ≡ (follows_start b w && precedes_stop stop w))) c.end_at-start.ensures
    (subst (λ (b : Bound (List ℕ)). IfOk c.between.result (λ (range : KeySpan). (w : List ℕ) → holds range w ≡ (follows_start start w && precedes_stop b w))) c.end_at-end.ensures c.between.ensures)
