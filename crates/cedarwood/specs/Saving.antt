-- What a save by path fails with, and what is saved.
use Rattle.std.specs.Prelude.{◌≡◌, ◌≤◌, ◌⊎◌, ℕ, None}
use Rattle.cedar_model.specs.Table.Layouts.{LayoutKind, layout_byte}
use Rattle.cedar_model.specs.Table.TableFields.{Fields}
use Rattle.cedar_format.specs.Format.{header_answer, need}
use Rattle.cedar_format.specs.Tables.{header_of, table_bytes}
use Rattle.cedar_format.specs.declared.error.CedarPersistenceError.{CedarPersistenceError}
use Rattle.cedar_format.specs.declared.error.CedarPersistenceError.TheVariants.{AllocationFailed}
use Rattle.cedar_format.specs.Reading.{IsIo}

-- a call on a file failed, or no new file could be named; or there was no memory for the buffer of 8192 bytes
abbrev pub FailsToWrite : CedarPersistenceError → Type 0
FailsToWrite e = IsIo e ⊎ (e ≡ AllocationFailed 8192)

-- a table's own file in this version passes all steps of a load but those on memory, under a limit of at least its
-- need
abbrev pub PassesAgain : LayoutKind → ℕ → ℕ → Fields → Type 0
PassesAgain kind slots version T = (limit : ℕ) → need (header_of version T) ≤ limit → header_answer (layout_byte kind) slots limit (table_bytes version T) ≡ None
