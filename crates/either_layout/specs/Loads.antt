-- Which layout a file names, and what a load of a file of either layout returns and lacks.
use Rattle.std.specs.Prelude.{◌≡◌, ◌⊎◌, ◌==◌, ℕ, Bool, false, List, Option, None, Some, slice_get}
use Rattle.std.specs.Prelude.{IfOk, IfSome, IsErrAnd, Result}
use Rattle.whole_files.specs.OpenedFiles.{OfFileAt}
use Rattle.cedarwood.specs.Layouts.{LayoutKind, default_layout, layout_byte, reduced_layout}
use Rattle.cedarwood.specs.Loading.{LacksByPath, LoadsBy}
use Rattle.cedarwood.specs.Limits.{most_slots}
use Rattle.cedarwood.specs.TableFields.{Fields}
use Rattle.cedarwood.specs.CedarPersistenceError.{CedarPersistenceError}
use Rattle.cedarwood.specs.Words.{AllocationFailed, IsIo}
use Rattle.either_layout.specs.Layouts.{inner_dictionary, inner_layout, layout_for}
use Rattle.either_layout.specs.declared.any.AnyCedar.{AnyCedar}

-- whether the byte of the layout is there in a file, and names the reduced one
abbrev pub names_reduced_layout : Option ℕ → Bool
names_reduced_layout None = false
names_reduced_layout (Some byte) = byte == 1

-- the layout that a file names: the default one, unless its byte names the reduced one
abbrev pub file_layout : List ℕ → LayoutKind
file_layout bytes = layout_for (names_reduced_layout (slice_get bytes 13))

-- the table that a dictionary of either layout is kept in
abbrev pub table_in : AnyCedar → Fields
table_in a = (inner_dictionary a).table

-- where a load by path was refused memory, it was as a load of one of the layouts is
abbrev pub LacksInEither : ℕ → CedarPersistenceError → Type 0
LacksInEither limit e = LacksByPath (layout_byte default_layout) most_slots limit e ⊎ LacksByPath (layout_byte reduced_layout) most_slots limit e

-- these bytes, if they are known, name this layout (`file_layout`)
abbrev pub NamesLayout : LayoutKind → Option (List ℕ) → Type 0
NamesLayout kind known = IfSome known (λ bytes. kind ≡ file_layout bytes)

-- what a load of either layout promises of an open file that had `before` left: there was no memory for the buffer of
-- 8192 bytes, or the file couldn't be read, and the result is `Io`; or it is what a load of one layout promises of a reader
-- (`LoadsBy`), of the layout that these bytes name (`NamesLayout`), and what was loaded is of that layout. No read has
-- returned an end of the input as a fault then, so that the file's bytes decide it (`decided`)
abbrev pub LoadsAnyOpened : ℕ → Option (List ℕ) → Result AnyCedar CedarPersistenceError → Type 0
LoadsAnyOpened limit before result =
    IsErrAnd result (λ e. e ≡ AllocationFailed 8192) ⊎ (IsErrAnd result IsIo
    ⊎ ((kind : LayoutKind) × NamesLayout kind before × IfOk result (λ a. inner_layout a ≡ kind)
    × ((after : Option (List ℕ)) × (failed : Bool) × LoadsBy table_in kind most_slots limit before after failed false result)))

-- what a load of either layout by path promises: the system hasn't opened the file, or a file was opened at this path among
-- the files F, and the load does with what was left in it what it promises of an open file (`LoadsAnyOpened`)
abbrev pub LoadsAnyFrom : {T : Type 0} → (F : Type 0) → ℕ → (T → Option (List ℕ)) → List ℕ → Result AnyCedar CedarPersistenceError → Type 0
LoadsAnyFrom F limit remaining path result = IsErrAnd result IsIo ⊎ OfFileAt F remaining path (λ left. LoadsAnyOpened limit left result)
