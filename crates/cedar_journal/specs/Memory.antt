-- What a caller sees of a file in memory.
use Rattle.std.specs.Prelude.{ℕ, List}
use Rattle.cedar_journal.specs.declared.memory.Memory.{Memory}

-- the bytes of a file in memory
abbrev pub memory_bytes : {A : Type 0} → Memory A → List ℕ
memory_bytes m = m.bytes.items
