use Rattle.std.proofs.Common.{◌≡◌, drop}
use Rattle.cedar_words.specs.Ranked.{put_ways, step_ways}
use Rattle.cedar_words.proofs.ranked.put_step.Given as goal

-- those so far, and then those that are still to come, make the best of all
abbrev pub invariant-loop-rank : goal.invariant-loop-rank
invariant-loop-rank g l = put_ways l.most l.ways.items (step_ways l.price l.len l.value l.rank (drop l.rank l.behind)) ≡ put_ways l.most l.fn.ways.items (step_ways l.price l.len l.value 0 l.behind)
