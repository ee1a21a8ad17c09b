use Rattle.std.proofs.Common.{◌≡◌, ◌∙◌, ◌++◌, ◌+◌, ◌-◌, List, ℕ, take, drop, ap, subst, sym, arith}
use Rattle.crc32c.specs.Sums.{crc32c}
use Rattle.cedar_c.proofs.GroupLemmas.{summed_framed}
use Rattle.cedar_c.proofs.grouped.frame_summed.Goals as goal

pub returns : goal.returns
returns c =
    let n = c.args.size in
    let b = c.args.buffer.now in
    let part = take (10 + n - 10) (drop 10 b) in
    let start = c.copy_from_slice-2.new.self in
    let copied : start ≡ c.group_start-start.result = c.copy_from_slice-2.ensures.after in
    summed_framed n c.crc32c_joined-sum.result b c.copy_from_slice.new.self start part c.requires.room (copied ∙ c.group_start-start.ensures)
    (ap (λ k. take k (drop 10 b)) (omega arith)) (c.crc32c_joined-sum.ensures ∙ ap (λ (l : List ℕ). crc32c (l ++ part)) (sym copied))
    (c.copy_from_slice.ensures.after ∙ c.digits.ensures)
