-- The laws of the format.
use Rattle.std.specs.Prelude.{◌≡◌, ◌≤◌, ℕ, None}
use Rattle.cedar_model.specs.Table.Layouts.{layout_byte}
use Rattle.cedar_model.specs.Table.TableFields.{Fields}
use Rattle.cedar_model.specs.Meaning.WellFormed.{IsWellFormed}
use Rattle.cedar_format.specs.declared.header.Header.{Header}
use Rattle.cedar_format.specs.Format.{header_answer, header_at, header_bytes, need}
use Rattle.cedar_format.specs.Format.{FitsHeader, IsVersion}
use Rattle.cedar_format.specs.Tables.{header_of, table_bytes, FitsTable}

-- two well-formed tables with the same bytes in any of the versions are one, field by field, and the version is the same
abbrev pub OneTable : Type 0
OneTable = (slots v w : ℕ) (T U : Fields) → IsWellFormed slots T → IsWellFormed slots U → FitsTable v T → FitsTable w U → table_bytes v T ≡ table_bytes w U → (T ≡ U) × (v ≡ w)

-- the file of a well-formed table passes all steps of a load but those on memory, under a limit of at least its need
abbrev pub TablesPass : Type 0
TablesPass = (version slots limit : ℕ) (T : Fields) → IsVersion version → IsWellFormed slots T → FitsTable version T → need (header_of version T) ≤ limit
    → header_answer (layout_byte T.layout) slots limit (table_bytes version T) ≡ None

-- the fields of a header that was written are read from its bytes again
abbrev pub HeadersAreReadAgain : Type 0
HeadersAreReadAgain = (layout : ℕ) (h : Header) → FitsHeader h → header_at (header_bytes layout h) ≡ h
