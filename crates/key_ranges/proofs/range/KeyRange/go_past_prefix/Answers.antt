use Rattle.std.proofs.Common.{rules, ◌≡◌, ◌&&◌, [], ℕ, List, true, false, None, Some, ap, sym, ◌∙◌, Option, option_map, Vec}
use Rattle.std.specs.Cmp.Lexicographic.{slice_cmp}
use Rattle.std.specs.Ordering.{is_ge, nat_cmp}
use Rattle.key_ranges.specs.Spans.{ends_before, holds, successor}
use Rattle.key_ranges.proofs.SpanLemmas.{past_all, past_already, past_further}
use Rattle.key_ranges.proofs.range.KeyRange.go_past_prefix.Goals as goal

pub returns-in_default-clause-past : goal.returns-in_default-clause-past
returns-in_default-clause-past g c w =
    let range = c.args.self.now in
    let prefix = c.args.prefix.now in
    let none : successor prefix ≡ None = sym c.in_ok-next.ensures ∙ ap (λ (o : Option (Vec ℕ g.row.A.Denot)). option_map (λ to. to.items) o) c.in_default.is in
    past_all w prefix c.new-nothing.result.items (is_ge (slice_cmp nat_cmp w c.self.inside.from.items)) (holds range w) none c.new-nothing.ensures.items

pub returns-then-is_ge-clause-past : goal.returns-then-is_ge-clause-past
returns-then-is_ge-clause-past g c w =
    let range = c.args.self.now in
    let prefix = c.args.prefix.now in
    let next = c.in-Some.next.items in
    let some : successor prefix ≡ Some next = sym c.in_ok-next.ensures ∙ ap (λ (o : Option (Vec ℕ g.row.A.Denot)). option_map (λ to. to.items) o) c.in-Some.is in
    let from : c.as_slice.result.now ≡ range.from = search rules in
    let to : c.as_slice-2.result.now ≡ next = search rules in
    let high : is_ge (slice_cmp nat_cmp range.from next) ≡ true =
    sym (c.is_ge.ensures ∙ ap is_ge (c.cmp.ensures ∙ λ i. slice_cmp nat_cmp (from i) (to i))) ∙ c.if-is_ge.true in
    past_already w prefix next range.from (ends_before range.to w) some high

pub returns-clause-past : goal.returns-clause-past
returns-clause-past g c w =
    let range = c.args.self.now in
    let prefix = c.args.prefix.now in
    let next = c.in-Some.next.items in
    let some : successor prefix ≡ Some next = sym c.in_ok-next.ensures ∙ ap (λ (o : Option (Vec ℕ g.row.A.Denot)). option_map (λ to. to.items) o) c.in-Some.is in
    let from : c.as_slice.result.now ≡ range.from = search rules in
    let end : c.as_slice-2.result.now ≡ next = search rules in
    let to : option_map (λ to. to.items) c.self.inside.to ≡ range.to = search rules in
    let low : is_ge (slice_cmp nat_cmp range.from next) ≡ false =
    sym (c.is_ge.ensures ∙ ap is_ge (c.cmp.ensures ∙ λ i. slice_cmp nat_cmp (from i) (end i))) ∙ c.if-is_ge.false in
    ap (λ (end : Option (List ℕ)). is_ge (slice_cmp nat_cmp w next) && ends_before end w) to
    ∙ past_further w prefix next range.from (ends_before range.to w) some low
