use Rattle.std.proofs.Common.{rules, ◌≡◌, ◌+◌, ◌-◌, ◌<◌, ◌++◌, ◌∷◌, [], take, get_or, Some, ap, sym, ◌∙◌}
use Rattle.key_ranges.proofs.SpanLemmas.{one_raised}
use Rattle.key_ranges.proofs.prefix.behind_prefix.Goals as goal

pub returns : goal.returns
returns g c =
    let prefix = c.args.prefix.now in
    let len = c.len_that_counts-len.result in
    let some : 0 < len = search rules in
    let low : get_or prefix (len - 1) 0 < 255 = search rules in
    let front : c.in_ok-to.to.items ≡ take (len - 1) prefix = c.in_ok-to.ensures.items in
    let items : c.push.new.self.items ≡ c.in_ok-to.to.items ++ (get_or prefix (len - 1) 0 + 1) ∷ [] = c.in_ok-push.ensures.items in
    ap Some (items ∙ ap (λ z. z ++ (get_or prefix (len - 1) 0 + 1) ∷ []) front)
    ∙ sym (one_raised len prefix some c.len_that_counts-len.ensures.within low)
    ∙ c.len_that_counts-len.ensures.same
