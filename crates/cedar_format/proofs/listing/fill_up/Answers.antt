use Rattle.std.proofs.Common.{arith, ◌≡◌, ◌-◌, ◌++◌, ◌∙◌, ap, length, replicate, vec_len}
use Rattle.cedar_format.proofs.listing.fill_up.Goals as goal

pub returns : goal.returns
returns g c =
    let loop = c.loop-blank in
    let old = c.args.records.now in
    let known = old.ok.0 in
    let all : vec_len loop.records - vec_len old ≡ c.args.len - length old.items = omega (arith, loop.invariant.most, loop.invariant.more) in
    loop.invariant.items ∙ ap (λ k. old.items ++ replicate k c.args.blank) all
