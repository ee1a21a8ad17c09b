use Rattle.std.proofs.Common.{◌≡◌, ◌+◌, take, option_map}
use Rattle.std.specs.List.{range_with_len, filter_map}
use Rattle.cedar_tree.specs.Tree.{number_at}
use Rattle.plain_tree.proofs.tree.PlainTree.front.Given as goal

abbrev pub invariant-loop-last : goal.invariant-loop-last
invariant-loop-last g l =
    l.found.items ≡ filter_map (λ n. option_map (λ v. (v, n)) (number_at l.self (take (n + 1) l.query))) (range_with_len 0 l.last)
