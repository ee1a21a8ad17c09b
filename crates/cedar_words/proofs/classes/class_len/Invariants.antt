use Rattle.std.proofs.Common.{◌≡◌, ◌+◌, ◌-◌, ◌<◌, ◌≤◌, drop, length}
use Rattle.cedar_words.specs.Runs.{class_rest}
use Rattle.cedar_words.proofs.classes.class_len.Given as goal

-- the bytes so far belong to the run, and then so many of those that are left do
abbrev pub invariant-loop-more : goal.invariant-loop-more
invariant-loop-more g l =
    (l.place < l.end) × (l.end ≤ length l.text)
    × (class_rest (g.C.CharacterClasses.alike l.classes) l.first (l.most - 1) (drop (l.place + 1) l.text)
    ≡ l.end - (l.place + 1) + class_rest (g.C.CharacterClasses.alike l.classes) l.first l.left (drop l.end l.text))

abbrev pub decreases-loop-more : goal.decreases-loop-more
decreases-loop-more g l = length l.text - l.end
