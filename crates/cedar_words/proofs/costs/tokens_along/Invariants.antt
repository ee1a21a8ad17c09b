use Rattle.std.proofs.Common.{◌≡◌, ◌-◌, ◌≤◌, ◌++◌, length}
use Rattle.cedar_words.specs.Steps.{cut_along, step_at}
use Rattle.cedar_words.proofs.costs.tokens_along.Given as goal

-- the tokens so far, and then those from here on, are all
abbrev pub invariant-loop-place : goal.invariant-loop-place
invariant-loop-place g l =
    (l.place ≤ length l.text)
    × (l.tokens.items ++ cut_along (step_at (g.T.FirstStep.tree l.trie) (g.P.BytePrice.price_at l.unknown l.text) l.text l.costs) 0 l.place (length l.text - l.place)
    ≡ cut_along (step_at (g.T.FirstStep.tree l.trie) (g.P.BytePrice.price_at l.unknown l.text) l.text l.costs) 0 0 (length l.text))

abbrev pub decreases-loop-place : goal.decreases-loop-place
decreases-loop-place g l = length l.text - l.place
