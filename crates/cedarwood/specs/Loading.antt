-- What a load of a dictionary returns: of a table, as `cedar_file` says it, and what is a dictionary's own.
use Rattle.std.specs.Prelude.{◌≡◌, ◌≤◌, ◌⊎◌, ℕ, Bool, false, List, None, Option, Result, Ok, IsErrAnd}
use Rattle.std.specs.Result.{IsOkAnd}
use Rattle.cedar_model.specs.Table.Layouts.{LayoutKind, layout_byte}
use Rattle.cedar_model.specs.Table.TableFields.{Fields}
use Rattle.cedar_format.specs.declared.error.CedarPersistenceError.{CedarPersistenceError}
use Rattle.cedar_format.specs.declared.error.CedarPersistenceError.TheVariants.{AllocationFailed}
use Rattle.cedar_format.specs.Format.{need, Passes}
use Rattle.cedar_format.specs.Reading.{IsIo, LacksNoMore}
use Rattle.whole_files.specs.OpenedFiles.{OfFileAt}
use Rattle.cedar_format.specs.Tables.{header_of, table_bytes, IsTableFile}
use Rattle.cedarwood.specs.Dictionary.{Dictionary}
pub use Rattle.cedar_file.specs.Loading.{IsDecided, LacksMemory, LoadAnswers, LoadsBy}

-- if a load by path was refused memory, it was for the buffer of 8192 bytes, or for one of the four lists of a header
-- that has passed
abbrev pub LacksByPath : ℕ → ℕ → ℕ → CedarPersistenceError → Type 0
LacksByPath layout slots limit e = (e ≡ AllocationFailed 8192) ⊎ LacksNoMore (Passes layout slots limit None) e

-- what a load promises of an open file that had `before` left: there was no memory for the buffer of 8192 bytes, or the
-- file couldn't be read, and the result is `Io`; or it is what a load promises of a reader (`LoadsBy`) whose reads have
-- returned no end of the input as a fault, so that the file's bytes decide it (`decided`)
abbrev pub LoadsOpened : {X : Type 0} → (X → Fields) → LayoutKind → ℕ → ℕ → Option (List ℕ) → Result X CedarPersistenceError → Type 0
LoadsOpened table kind slots limit before result =
    IsErrAnd result (λ e. e ≡ AllocationFailed 8192)
    ⊎ (IsErrAnd result IsIo ⊎ ((after : Option (List ℕ)) × (failed : Bool) × LoadsBy table kind slots limit before after failed false result))

-- what a load by path promises: the system hasn't opened the file, or a file was opened at this path among the files F, and
-- the load does with what was left in it what it promises of an open file (`LoadsOpened`)
abbrev pub LoadsFrom : {T X : Type 0} → (F : Type 0) → (X → Fields) → LayoutKind → ℕ → ℕ → (T → Option (List ℕ)) → List ℕ → Result X CedarPersistenceError → Type 0
LoadsFrom F table kind slots limit remaining path result = IsErrAnd result IsIo ⊎ OfFileAt F remaining path (λ left. LoadsOpened table kind slots limit left result)

-- a load of a table's own file in any version, under a limit of at least its need, gives that table again, or a list found no room
abbrev pub OwnFilesLoad : Type 0
OwnFilesLoad = (version slots limit : ℕ) (T : Fields) (answer : Result Dictionary CedarPersistenceError) → IsTableFile version slots T (table_bytes version T) → need (header_of version T) ≤ limit
    → LoadAnswers (λ d. d.table) T.layout slots limit (table_bytes version T) answer
    → LacksMemory (layout_byte T.layout) slots limit (table_bytes version T) answer ⊎ IsOkAnd answer (λ d. d.table ≡ T)

-- what was loaded from some bytes has these as the bytes of its table in one of the versions, so that a save in it
-- gives them back
abbrev pub LoadedFilesSaveAgain : Type 0
LoadedFilesSaveAgain = (kind : LayoutKind) (slots limit : ℕ) (bytes : List ℕ) (d : Dictionary) → LoadAnswers (λ x. x.table) kind slots limit bytes (Ok d)
    → (version : ℕ) × IsTableFile version slots d.table bytes × (table_bytes version d.table ≡ bytes)
