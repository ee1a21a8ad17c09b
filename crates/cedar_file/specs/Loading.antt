-- What a load returns.
use Rattle.std.specs.Prelude.{◌≡◌, ◌⊎◌, ℕ, Bool, true, false, List, take, Option, Some, None}
use Rattle.std.specs.Prelude.{MatchOption, Result, Ok, Err, IfErr, IfOk, IfSome, IsErrAnd}
use Rattle.std.specs.Io.KnownBytes.{Consumes}
use Rattle.cedar_model.specs.Meaning.WellFormed.{IsWellFormed}
use Rattle.cedar_model.specs.Table.Layouts.{LayoutKind, layout_byte}
use Rattle.cedar_model.specs.Table.TableFields.{Fields}
use Rattle.cedar_format.specs.declared.error.CedarPersistenceError.{CedarPersistenceError}
use Rattle.cedar_format.specs.Format.{header_answer, header_at, header_refusal}
use Rattle.cedar_format.specs.Format.{size_refusal, IsVersion, Passes}
use Rattle.cedar_format.specs.Reading.{IsIo, LacksNoMore, LacksTable}
use Rattle.cedar_format.specs.Refusal.{CorruptData, refusal, refusal_of}
use Rattle.cedar_format.specs.Tables.{table_bytes, IsTableFile}

-- what the bytes behind a header that passes decide: the table that was loaded is well-formed, and these are its
-- bytes in one of the versions; or they are those of no well-formed table in any version, and the data is corrupt
abbrev pub IsDecided : {X : Type 0} → (X → Fields) → ℕ → List ℕ → Result X CedarPersistenceError → Type 0
IsDecided table slots bytes (Ok x) = (version : ℕ) × IsTableFile version slots (table x) bytes
IsDecided table slots bytes (Err e) = (refusal_of e ≡ CorruptData) × ((version : ℕ) (T : Fields) → IsTableFile version slots T bytes → ⊥)

-- one of the four lists found no room after the header had passed
abbrev pub LacksMemory : {X : Type 0} → ℕ → ℕ → ℕ → List ℕ → Result X CedarPersistenceError → Type 0
LacksMemory layout slots limit bytes answer =
    let h = header_at (take 88 bytes) in
    IsErrAnd answer (LacksTable h) × (header_refusal layout (take 88 bytes) ≡ None) × (size_refusal slots limit h ≡ None)

-- a load returns the first refusal of `header_answer`; without one, what the bytes decide (`IsDecided`), or that a
-- list found no room after the header had passed (`LacksMemory`)
abbrev pub LoadAnswers : {X : Type 0} → (X → Fields) → LayoutKind → ℕ → ℕ → List ℕ → Result X CedarPersistenceError → Type 0
LoadAnswers table kind slots limit bytes answer =
    LacksMemory (layout_byte kind) slots limit bytes answer
    ⊎ MatchOption (header_answer (layout_byte kind) slots limit bytes) (IsDecided table slots bytes answer) (λ r. refusal answer ≡ Some r)

-- all that a load promises of a source that had `before` left and has `after` now. Whatever is loaded has the fields
-- that `table` says. `failed` is whether a read of the source has failed so far, `cut` whether one has
-- returned the input's end as a fault
pub record LoadsBy {X : Type 0} (table : X → Fields) (kind : LayoutKind) (slots limit : ℕ) (before after : Option (List ℕ)) (failed cut : Bool) (result : Result X CedarPersistenceError) : Type 0 where
  -- whatever the source does, a table comes only with exactly its bytes, and it is well-formed
  pub bytes : IfOk result (λ x. (version : ℕ) × IsVersion version × Consumes before after (table_bytes version (table x)))
  pub formed : IfOk result (λ x. IsWellFormed slots (table x))
  -- a source that reports its bytes and doesn't fail, as bytes in memory, gets the result that they decide
  pub answer : IfSome before (λ bytes. failed ≡ false → LoadAnswers table kind slots limit bytes result)
  -- so does one that fails, unless the result is `Io`: what was read in between is as it was
  pub decided : (IsErrAnd result IsIo → ⊥) → IfSome before (λ bytes. cut ≡ false → LoadAnswers table kind slots limit bytes result)
  pub io : IfErr result (λ e. IsIo e → failed ≡ true)
  pub lacks : IfErr result (LacksNoMore (Passes (layout_byte kind) slots limit before))
