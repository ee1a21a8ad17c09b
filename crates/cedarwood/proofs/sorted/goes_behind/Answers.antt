use Rattle.std.proofs.Common.{◌<◌, arith, get_or, length}
use Rattle.cedarwood.proofs.SortedInputLemmas.{less_at}
use Rattle.cedarwood.proofs.sorted.goes_behind.Goals.{else-shared-before-via-then-shared-before+else-key-shared, else-shared-before-via-else-shared-before}
use Rattle.cedarwood.proofs.sorted.goes_behind.Goals as goal

pub returns-clause-above : goal.returns-clause-above
returns-clause-above c = λ t.
    let front = c.shared_front-shared.ensures in
    let n = c.shared_front-shared.result in
    let before = c.args.before.now in
    let key = c.args.key.now in
    let lower : n < length before → get_or before n 0 < get_or key n 0 = λ h.
    elim c.else-shared-before.branch [
      | else-shared-before-via-then-shared-before+else-key-shared w ↦ omega (arith, w.if-key-shared.false)
      | else-shared-before-via-else-shared-before w ↦ absurd (omega (arith, h, w.if-shared-before.false))
    ] in
    less_at before key n front.same front.in_before (omega (arith, front.in_key, c.if-shared-key.false)) lower
