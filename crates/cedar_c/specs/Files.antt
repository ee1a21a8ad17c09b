-- What a file's bytes are of, and the numbers that are returned for a refused one.
use Rattle.std.specs.Prelude.{◌≡◌, ◌⊎◌, ℕ, Bool, true, false, List, [], ◌∷◌, take, Option}
use Rattle.cedarwood.specs.TableFields.{Fields}
use Rattle.cedarwood.specs.Format.{header_at, header_refusal, size_refusal}
use Rattle.cedarwood.specs.Tables.{IsTableFile, table_bytes}
use Rattle.cedarwood.specs.Limits.{most_slots}
use Rattle.cedar_c.specs.Layouts.{inner_dictionary}
pub use Rattle.either_layout.specs.Loads.{file_layout, names_reduced_layout}
use Rattle.either_layout.specs.declared.any.AnyCedar.{AnyCedar}
use Rattle.cedar_c.specs.declared.status.TheConstants.{MEMORY, FILE_TRUNCATED, FILE_MAGIC}
use Rattle.cedar_c.specs.declared.status.TheConstants.{FILE_VERSION, FILE_BYTE_ORDER, FILE_LAYOUT}
use Rattle.cedar_c.specs.declared.status.TheConstants.{FILE_HEADER, FILE_MEMORY_LIMIT, FILE_CORRUPT}
use Rattle.cedar_c.specs.declared.status.TheConstants.{FILE_TRAILING, FILE_UNREAD}
use Rattle.cedarwood.specs.Refusal.{Refusal, first_refusal, Truncated, InvalidMagic}
use Rattle.cedarwood.specs.Refusal.{UnsupportedVersion, UnsupportedByteOrder, LayoutMismatch}
use Rattle.cedarwood.specs.Refusal.{InvalidHeader, AllocationLimitExceeded, AllocationFailed}
use Rattle.cedarwood.specs.Refusal.{CorruptData, TrailingData, Failed}

-- the bytes are those of the well-formed table T, in a version that is read
abbrev pub IsFileOf : Fields → List ℕ → Type 0
IsFileOf T bytes = (version : ℕ) × IsTableFile version most_slots T bytes

-- the bytes are those of no well-formed table that may have `slots` slots, in no version
abbrev pub IsOfNoTable : ℕ → List ℕ → Type 0
IsOfNoTable slots bytes = (version : ℕ) (T : Fields) → IsTableFile version slots T bytes → ⊥

-- the number of a file's refusal
abbrev pub file_status : Refusal → ℕ
file_status Truncated = FILE_TRUNCATED
file_status InvalidMagic = FILE_MAGIC
file_status (UnsupportedVersion major minor) = FILE_VERSION
file_status (UnsupportedByteOrder order) = FILE_BYTE_ORDER
file_status (LayoutMismatch expected found) = FILE_LAYOUT
file_status (InvalidHeader field value) = FILE_HEADER
file_status (AllocationLimitExceeded requested limit) = FILE_MEMORY_LIMIT
file_status (AllocationFailed requested) = MEMORY
file_status CorruptData = FILE_CORRUPT
file_status TrailingData = FILE_TRAILING
file_status Failed = FILE_UNREAD

-- the first refusal of the header itself and of its sizes, before memory is allocated
abbrev pub early_refusal : ℕ → ℕ → ℕ → List ℕ → Option Refusal
early_refusal layout slots limit bytes = first_refusal (header_refusal layout (take 88 bytes) ∷ size_refusal slots limit (header_at (take 88 bytes)) ∷ [])

-- what is returned if the header is refused: the number of that refusal, or of want of memory
abbrev pub TellsHeader : Refusal → ℕ → Type 0
TellsHeader r status = (status ≡ file_status r) ⊎ (status ≡ MEMORY)

-- just the number of a refusal is returned
abbrev pub TellsJust : Refusal → ℕ → Type 0
TellsJust r status = status ≡ file_status r

-- what is returned behind a header that passes: the number of want of memory; or that of corrupt data, and then the
-- bytes are of no well-formed table
abbrev pub LacksOrCorrupt : ℕ → List ℕ → ℕ → Type 0
LacksOrCorrupt slots bytes status = (status ≡ MEMORY) ⊎ ((status ≡ FILE_CORRUPT) × IsOfNoTable slots bytes)

-- the same as `LacksOrCorrupt`, of tables with the greatest limit of slots
abbrev pub TellsNoTable : List ℕ → ℕ → Type 0
TellsNoTable bytes status = LacksOrCorrupt most_slots bytes status

-- the version that a save writes: 0, which lists all slots and blocks, or 1
abbrev pub minor_of : Bool → ℕ
minor_of true = 0
minor_of false = 1

-- the bytes of a dictionary's file, in the version that a save writes (`minor_of`)
abbrev pub file_in : Bool → AnyCedar → List ℕ
file_in is_full a = table_bytes (minor_of is_full) (inner_dictionary a).table
