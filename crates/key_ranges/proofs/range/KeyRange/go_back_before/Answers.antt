use Rattle.std.proofs.Common.{rules, ◌≡◌, ◌&&◌, ℕ, List, true, false, ap, sym, ◌∙◌, Option, option_map}
use Rattle.std.specs.Cmp.Lexicographic.{slice_cmp}
use Rattle.std.specs.Ordering.{is_ge, is_lt, nat_cmp}
use Rattle.key_ranges.specs.Spans.{ends_before}
use Rattle.key_ranges.proofs.SpanLemmas.{ends_already, ends_further}
use Rattle.key_ranges.proofs.range.KeyRange.go_back_before.Goals as goal

pub returns-then-not-comes_before-clause-before : goal.returns-then-not-comes_before-clause-before
returns-then-not-comes_before-clause-before g c w =
    let range = c.args.self.now in
    let to : option_map (λ to. to.items) c.self.inside.to ≡ range.to = search rules in
    let fails : c.comes_before.result ≡ false = search rules in
    let high : ends_before range.to c.args.key.now ≡ false = ap (λ (end : Option (List ℕ)). ends_before end c.args.key.now) (sym to) ∙ sym c.comes_before.ensures ∙ fails in
    ends_already w c.args.key.now range.to (is_ge (slice_cmp nat_cmp w range.from)) high

pub returns-clause-before : goal.returns-clause-before
returns-clause-before g c w =
    let range = c.args.self.now in
    let key = c.args.key.now in
    let from : c.self.inside.from.items ≡ range.from = search rules in
    let to : option_map (λ to. to.items) c.self.inside.to ≡ range.to = search rules in
    let passing : c.comes_before.result ≡ true = search rules in
    let low : ends_before range.to key ≡ true = ap (λ (end : Option (List ℕ)). ends_before end key) (sym to) ∙ sym c.comes_before.ensures ∙ passing in
    ap (λ end. is_ge (slice_cmp nat_cmp w c.self.inside.from.items) && is_lt (slice_cmp nat_cmp w end)) c.in_ok-to.ensures.items
    ∙ ap (λ start. is_ge (slice_cmp nat_cmp w start) && is_lt (slice_cmp nat_cmp w key)) from
    ∙ ends_further w key range.to (is_ge (slice_cmp nat_cmp w range.from)) low
