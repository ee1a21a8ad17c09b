use Rattle.std.proofs.Common.{◌≡◌, ◌-◌, ◌≤◌, length}
use Rattle.cedar_words.specs.Spots.{spots_left}
use Rattle.cedar_words.specs.Steps.{AreWithin}
use Rattle.cedar_words.proofs.spots.next_match.Given as goal

-- no key is passed
abbrev pub invariant-loop-place : goal.invariant-loop-place
invariant-loop-place g l =
    (spots_left (g.T.Fronts.fronts_of l.fn.trie) l.text l.place l.walk.rest ≡ spots_left (g.T.Fronts.fronts_of l.fn.trie) l.fn.text l.fn.place l.fn.walk.rest)
    × (l.place ≤ length l.text) × AreWithin (length l.text - l.place) l.walk.rest

abbrev pub decreases-loop-place : goal.decreases-loop-place
decreases-loop-place g l = length l.text - l.place
