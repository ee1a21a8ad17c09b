use Rattle.std.proofs.Common.{◌≡◌, ◌+◌, ◌-◌, ◌<◌, ◌≤◌, drop, length}
use Rattle.cedar_words.specs.Runs.{character_rest}
use Rattle.cedar_words.proofs.classes.character_len.Given as goal

-- the bytes so far continue the character, and then those that are left do
abbrev pub invariant-loop-end : goal.invariant-loop-end
invariant-loop-end l =
    (l.place < l.end) × (l.end ≤ length l.text) × (character_rest (drop (l.place + 1) l.text) ≡ l.end - (l.place + 1) + character_rest (drop l.end l.text))

abbrev pub decreases-loop-end : goal.decreases-loop-end
decreases-loop-end l = length l.text - l.end
