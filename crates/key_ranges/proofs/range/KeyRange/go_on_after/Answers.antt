use Rattle.std.proofs.Common.{rules, ◌≡◌, ◌++◌, ◌∷◌, ◌&&◌, [], ℕ, List, true, false, ap, sym, ◌∙◌, Option, option_map}
use Rattle.std.specs.Cmp.Lexicographic.{slice_cmp}
use Rattle.std.specs.Ordering.{is_ge, is_lt, nat_cmp}
use Rattle.key_ranges.specs.Spans.{ends_before}
use Rattle.key_ranges.proofs.SpanLemmas.{starts_after, starts_behind}
use Rattle.key_ranges.proofs.range.KeyRange.go_on_after.Goals as goal

pub returns-then-is_lt-clause-behind : goal.returns-then-is_lt-clause-behind
returns-then-is_lt-clause-behind g c w =
    let range = c.args.self.now in
    let from : c.as_slice.result.now ≡ range.from = search rules in
    let low : is_lt (slice_cmp nat_cmp c.args.key.now range.from) ≡ true =
    sym (c.is_lt.ensures ∙ ap is_lt (c.cmp.ensures ∙ ap (slice_cmp nat_cmp c.args.key.now) from)) ∙ c.if-is_lt.true in
    starts_behind w c.args.key.now range.from (ends_before range.to w) low

pub returns-clause-behind : goal.returns-clause-behind
returns-clause-behind g c w =
    let range = c.args.self.now in
    let from : c.as_slice.result.now ≡ range.from = search rules in
    let to : option_map (λ to. to.items) c.self.inside.to ≡ range.to = search rules in
    let low : is_lt (slice_cmp nat_cmp c.args.key.now range.from) ≡ false =
    sym (c.is_lt.ensures ∙ ap is_lt (c.cmp.ensures ∙ ap (slice_cmp nat_cmp c.args.key.now) from)) ∙ c.if-is_lt.false in
    let next : c.in_ok-self-inside.field-0.items ≡ c.args.key.now ++ 0 ∷ [] = c.in_ok-self-inside.ensures in
    ap (λ (end : Option (List ℕ)). is_ge (slice_cmp nat_cmp w c.in_ok-self-inside.field-0.items) && ends_before end w) to
    ∙ starts_after w c.args.key.now range.from c.in_ok-self-inside.field-0.items (ends_before range.to w) low next
