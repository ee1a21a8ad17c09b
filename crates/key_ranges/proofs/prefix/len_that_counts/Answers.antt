use Rattle.std.proofs.Common.{rules, ◌≡◌, ◌-◌, ◌<◌, ◌≤◌, length, get_or, ◌∙◌, arith}
use Rattle.key_ranges.proofs.SpanLemmas.{one_less}
use Rattle.key_ranges.proofs.prefix.len_that_counts.Goals as goal

pub loop-len-preserved : goal.loop-len-preserved
loop-len-preserved c =
    let len = c.loop-len.len in
    let prefix = c.args.prefix.now in
    let some : 0 < len = search rules in
    let within : len ≤ length prefix = c.loop-len.invariant.0 in
    let highest : get_or prefix (len - 1) 0 ≡ 255 = search rules in
    (omega (arith, within), one_less len prefix some within highest ∙ c.loop-len.invariant.1)
