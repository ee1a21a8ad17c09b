use Rattle.std.proofs.Common.{◌≡◌, ◌∙◌, ◌+◌, ◌++◌, [], ap, arith, length}
use Rattle.cedar_scan.specs.Suffixes.{held_suffix, overlapping, all_ending}
use Rattle.cedar_scan.proofs.StreamLemmas.{join_pieces}
use Rattle.cedar_scan.proofs.laws.pieces_join.Goals as goal

pub returns-clause-two : goal.returns-clause-two
returns-clause-two c = λ tree first second.
    let place : 0 + length first ≡ length first = omega arith in
    join_pieces tree first second [] 0 ∙ ap (λ n. overlapping tree first ++ all_ending tree (held_suffix tree first) n second) place

pub returns-clause-any : goal.returns-clause-any
returns-clause-any c = λ tree read place piece next. join_pieces tree piece next read place
