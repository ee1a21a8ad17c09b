-- What was saved is loaded again, and what was loaded is saved again.
use Rattle.std.proofs.Common.{◌≡◌, ◌⊎◌, ◌∙◌, ℕ, ◌≤◌, Bool, false, List, [], ◌∷◌, Option, Some, None, Result, Ok, Err, IfErr, ap, inl, inr, refl, sym, subst}
use Rattle.std.specs.Prelude.{◌==◌, if◌then◌else◌, IfOk, IsErrAnd, MatchOption}
use Rattle.std.specs.Io.KnownBytes.{prepend_known}
use Rattle.std.specs.Io.Buffered.{reader_buffer, reader_capacity, reader_inner, reader_remaining}
use Rattle.std.specs.declared.io.buffered.BufReader.{BufReader}
use Rattle.std.specs.Result.{IsOkAnd}
use Rattle.whole_files.specs.OpenedFiles.{file_to_read, read_calls}
use Rattle.whole_files.specs.Openings.{opened_to_read}
use Rattle.whole_files.specs.declared.opening.FileToRead.{FileToRead}
use Rattle.cedar_model.specs.Table.Layouts.{LayoutKind, layout_byte}
use Rattle.cedar_model.specs.Table.TableFields.{Fields}
use Rattle.cedar_model.specs.Meaning.WellFormed.{IsWellFormed}
use Rattle.cedar_format.specs.declared.error.CedarPersistenceError.{CedarPersistenceError}
use Rattle.cedar_format.specs.declared.error.CedarPersistenceError.TheVariants as errors
use Rattle.cedar_format.specs.declared.header.Header.{Header}
use Rattle.cedar_format.specs.Format.{header_answer, need, Passes}
use Rattle.cedar_format.specs.Reading.{IsIo, LacksNoMore}
use Rattle.cedar_format.specs.Refusal.{Refusal, refusal}
use Rattle.cedar_format.specs.Tables.{header_of, table_bytes, IsTableFile}
use Rattle.cedar_format.proofs.OneTable.{formed_is_listed, one_table}
use Rattle.cedar_format.proofs.Passing.{tables_pass}
use Rattle.cedarwood.specs.Dictionary.{Dictionary}
use Rattle.cedarwood.specs.Loading.{IsDecided, LacksByPath, LacksMemory, LoadAnswers, LoadsBy, LoadsFrom, LoadsOpened}

abbrev table_in : Dictionary → Fields
table_in d = d.table

-- ---- a table's own file

own_decided : (version slots : ℕ) (T : Fields) (answer : Result Dictionary CedarPersistenceError) → IsTableFile version slots T (table_bytes version T) → IsDecided table_in slots (table_bytes version T) answer
    → IsOkAnd answer (λ d. d.table ≡ T)
own_decided version slots T (Ok d) file decided =
    let other = decided.1 in
    sym (one_table version decided.0 T d.table (formed_is_listed slots version T file.formed) (formed_is_listed slots decided.0 d.table other.formed) file.fits other.fits other.spelled).0
own_decided version slots T (Err e) file decided = absurd (decided.1 version T file)

pub own_file_loads : (version slots limit : ℕ) (T : Fields) (answer : Result Dictionary CedarPersistenceError) → IsTableFile version slots T (table_bytes version T) → need (header_of version T) ≤ limit
    → LoadAnswers table_in T.layout slots limit (table_bytes version T) answer → LacksMemory (layout_byte T.layout) slots limit (table_bytes version T) answer ⊎ IsOkAnd answer (λ d. d.table ≡ T)
own_file_loads version slots limit T answer file within (inl lacks) = inl lacks
own_file_loads version slots limit T answer file within (inr told) =
    let bytes = table_bytes version T in
    let passes : header_answer (layout_byte T.layout) slots limit bytes ≡ None = tables_pass version slots limit T file.known file.formed file.fits within in
    let decided : IsDecided table_in slots bytes answer = subst (λ o. MatchOption o (IsDecided table_in slots bytes answer) (λ r. refusal answer ≡ Some r)) passes told in
    inr (own_decided version slots T answer file decided)

-- ---- what was loaded is saved as the same bytes

pub loaded_saves_again : (kind : LayoutKind) (slots limit : ℕ) (bytes : List ℕ) (d : Dictionary) → LoadAnswers table_in kind slots limit bytes (Ok d)
    → (version : ℕ) × IsTableFile version slots d.table bytes × (table_bytes version d.table ≡ bytes)
loaded_saves_again kind slots limit bytes d (inl lacks) = absurd lacks.0
loaded_saves_again kind slots limit bytes d (inr told) = decided (header_answer (layout_byte kind) slots limit bytes) told
  where
    decided : (o : Option Refusal) → MatchOption o (IsDecided table_in slots bytes (Ok d)) (λ r. ◌≡◌ {A = Option Refusal} None (Some r))
        → (version : ℕ) × IsTableFile version slots d.table bytes × (table_bytes version d.table ≡ bytes)
    decided None file = (file.0, file.1, sym file.1.spelled)
    decided (Some r) none = absurd cc

-- ---- a load by path

not_told : (layout slots limit : ℕ) (old : Option (List ℕ)) (h : Header) → Passes layout slots limit old h → Passes layout slots limit None h
not_told layout slots limit old h passes = record { front = passes.front; is = passes.is; sizes = passes.sizes; first = tt }

pub lacks_by_path : (layout slots limit : ℕ) (old : Option (List ℕ)) (e : CedarPersistenceError) → LacksNoMore (Passes layout slots limit old) e → LacksByPath layout slots limit e
lacks_by_path layout slots limit old (errors.Io cause) lacks = inr tt
lacks_by_path layout slots limit old errors.Truncated lacks = inr tt
lacks_by_path layout slots limit old errors.InvalidMagic lacks = inr tt
lacks_by_path layout slots limit old errors.TrailingData lacks = inr tt
lacks_by_path layout slots limit old (errors.UnsupportedVersion a b) lacks = inr tt
lacks_by_path layout slots limit old (errors.UnsupportedByteOrder a) lacks = inr tt
lacks_by_path layout slots limit old (errors.LayoutMismatch a b) lacks = inr tt
lacks_by_path layout slots limit old (errors.InvalidHeader a b) lacks = inr tt
lacks_by_path layout slots limit old (errors.AllocationLimitExceeded a b) lacks = inr tt
lacks_by_path layout slots limit old (errors.AllocationFailed n) lacks = inr (lacks.0, not_told layout slots limit old lacks.0 lacks.1, lacks.2)
lacks_by_path layout slots limit old (errors.CorruptData a b i) lacks = inr tt

-- a new buffer has nothing, so what is left behind it is what the file has left
left_behind_buffer : (capacity : ℕ) (held : List ℕ) (left : Option (List ℕ)) → capacity ≡ 8192 → held ≡ [] → (if capacity == 0 then None else prepend_known held left) ≡ left
left_behind_buffer capacity held None full empty = rw full refl
left_behind_buffer capacity held (Some bytes) full empty = rw (full, empty) refl

pub file_left : {T A : Type 0} (remaining : T → Option (List ℕ)) (reader buffered : BufReader T A) (file : T) → reader ≡ buffered → reader_inner buffered ≡ file → reader_buffer buffered ≡ []
    → reader_capacity buffered ≡ 8192 → reader_remaining remaining reader ≡ remaining file
file_left remaining reader buffered file same inner empty full =
    ap (reader_remaining remaining) same
    ∙ left_behind_buffer (reader_capacity buffered) (reader_buffer buffered) (remaining (reader_inner buffered)) full empty
    ∙ ap remaining inner

-- a load behind a buffer is one of the file
pub loads_opened : (kind : LayoutKind) (slots limit : ℕ) (before left after : Option (List ℕ)) (failed cut : Bool) (result : Result Dictionary CedarPersistenceError) → before ≡ left → cut ≡ false
    → LoadsBy table_in kind slots limit before after failed cut result → LoadsOpened table_in kind slots limit left result
loads_opened kind slots limit before left after failed cut result same uncut loads =
    inr (inr (after, failed, subst (λ b. LoadsBy table_in kind slots limit left after failed b result) uncut (subst (λ o. LoadsBy table_in kind slots limit o after failed cut result) same loads)))

-- a load by path is one of the file that was opened
pub loads_from : {F T : Type 0} (kind : LayoutKind) (slots limit : ℕ) (remaining : T → Option (List ℕ)) (path : List ℕ) (opened : FileToRead F T) (file : T) (result : Result Dictionary CedarPersistenceError)
    → read_calls opened ≡ opened_to_read path ∷ [] → file ≡ file_to_read opened → LoadsOpened table_in kind slots limit (remaining file) result → LoadsFrom F table_in kind slots limit remaining path result
loads_from kind slots limit remaining path opened file result noted same loads =
    inr (opened, noted, subst (λ f. LoadsOpened table_in kind slots limit (remaining f) result) same loads)

-- and of none, if the system hasn't opened it
pub unopened : {F T : Type 0} (kind : LayoutKind) (slots limit : ℕ) (remaining : T → Option (List ℕ)) (path : List ℕ) (result : Result Dictionary CedarPersistenceError) (gives : CedarPersistenceError)
    → IsErrAnd result (λ e. e ≡ gives) → IsIo gives → LoadsFrom F table_in kind slots limit remaining path result
unopened kind slots limit remaining path (Ok d) gives told io = absurd told
unopened kind slots limit remaining path (Err e) gives told io = inl (subst IsIo (sym told) io)

pub opened_formed : (kind : LayoutKind) (slots limit : ℕ) (left : Option (List ℕ)) (result : Result Dictionary CedarPersistenceError) → LoadsOpened table_in kind slots limit left result
    → IfOk result (λ d. IsWellFormed slots d.table)
opened_formed kind slots limit left (Ok d) (inl lacks) = absurd lacks
opened_formed kind slots limit left (Ok d) (inr (inl io)) = absurd io
opened_formed kind slots limit left (Ok d) (inr (inr loads)) = loads.2.formed
opened_formed kind slots limit left (Err e) loads = tt

-- `Io` is no want of memory
pub io_lacks : (layout slots limit : ℕ) (e : CedarPersistenceError) → IsIo e → LacksByPath layout slots limit e
io_lacks layout slots limit (errors.Io cause) io = inr tt
io_lacks layout slots limit errors.Truncated io = absurd io
io_lacks layout slots limit errors.InvalidMagic io = absurd io
io_lacks layout slots limit errors.TrailingData io = absurd io
io_lacks layout slots limit (errors.UnsupportedVersion a b) io = absurd io
io_lacks layout slots limit (errors.UnsupportedByteOrder a) io = absurd io
io_lacks layout slots limit (errors.LayoutMismatch a b) io = absurd io
io_lacks layout slots limit (errors.InvalidHeader a b) io = absurd io
io_lacks layout slots limit (errors.AllocationLimitExceeded a b) io = absurd io
io_lacks layout slots limit (errors.AllocationFailed n) io = absurd io
io_lacks layout slots limit (errors.CorruptData a b i) io = absurd io

pub opened_lacks : (kind : LayoutKind) (slots limit : ℕ) (left : Option (List ℕ)) (result : Result Dictionary CedarPersistenceError) → LoadsOpened table_in kind slots limit left result
    → IfErr result (LacksByPath (layout_byte kind) slots limit)
opened_lacks kind slots limit left (Ok d) loads = tt
opened_lacks kind slots limit left (Err e) (inl lacks) = inl lacks
opened_lacks kind slots limit left (Err e) (inr (inl io)) = io_lacks (layout_byte kind) slots limit e io
opened_lacks kind slots limit left (Err e) (inr (inr loads)) = lacks_by_path (layout_byte kind) slots limit left e loads.2.lacks
