use Rattle.std.proofs.Common.{◌≡◌, ◌++◌, ◌∷◌, [], ℕ, List, ap, sym, ◌∙◌, Bor, Vec}
use Rattle.std.proofs.lemmas.Result.{IfOk-weaker}
use Rattle.std.specs.Cmp.Lexicographic.{slice_cmp}
use Rattle.std.specs.Ordering.{is_ge, nat_cmp}
use Rattle.std.specs.Range.Bound.{bound_map}
use Rattle.key_ranges.specs.Spans.{follows_start}
use Rattle.key_ranges.proofs.SpanLemmas.{all_follow, from_behind}
use Rattle.key_ranges.proofs.ends.start_of.Goals as goal

pub returns-in-Excluded : goal.returns-in-Excluded
returns-in-Excluded g c =
    let key = c.in-Excluded.key.now in
    IfOk-weaker c.behind.result (λ (next : Vec ℕ g.row.A.Denot). next.items ≡ key ++ 0 ∷ [])
    (λ (from : Vec ℕ g.row.A.Denot). (w : List ℕ) → is_ge (slice_cmp nat_cmp w from.items) ≡ follows_start (bound_map {A = Bor (List ℕ)} {B = List ℕ} (λ k. k.now) c.args.start) w)
    (λ next is w.
    ap (λ z. is_ge (slice_cmp nat_cmp w z)) is
    ∙ from_behind w key
    ∙ sym (ap (λ b. follows_start (bound_map {A = Bor (List ℕ)} {B = List ℕ} (λ k. k.now) b) w) c.in-Excluded.is))
    c.behind.ensures

pub returns-in-Unbounded : goal.returns-in-Unbounded
returns-in-Unbounded g c w =
    ap (λ z. is_ge (slice_cmp nat_cmp w z)) c.new.ensures.items
    ∙ all_follow w
    ∙ sym (ap (λ b. follows_start (bound_map {A = Bor (List ℕ)} {B = List ℕ} (λ k. k.now) b) w) c.in-Unbounded.is)
