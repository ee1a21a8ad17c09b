use Rattle.std.proofs.Common.{◌≡◌, ◌≤◌, take}
use Rattle.word_lists.specs.Texts.{characters}
use Rattle.word_lists.proofs.parts.characters.Given as goal

-- the characters of the bytes so far are counted
abbrev pub invariant-loop-byte : goal.invariant-loop-byte
invariant-loop-byte l = (l.count ≡ characters (take l.byte-index l.bytes)) × (l.count ≤ l.byte-index)
