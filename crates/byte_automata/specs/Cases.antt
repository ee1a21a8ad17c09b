-- Letters in lower case.
use Rattle.std.specs.Prelude.{ℕ, ◌+◌, ◌&&◌, nat_le, if◌then◌else◌}

-- a letter A to Z as one of a to z, and each other byte as it is
abbrev pub lower_of : ℕ → ℕ
lower_of byte = if nat_le 65 byte && nat_le byte 90 then byte + 32 else byte

-- the state of an automaton over lower case after a byte of any case
abbrev pub lower_after : {S : Type 0} → (S → ℕ → S) → S → ℕ → S
lower_after after state byte = after state (lower_of byte)
