-- What was saved is the file of a well-formed table, and all of it.
use Rattle.std.proofs.Common.{◌≡◌, ℕ, ◌≤◌, ◌∙◌, List, [], ◌++◌, ap, append-nil, drop, get_or, length, None, Option, refl, Some, subst, sym, take}
use Rattle.std.proofs.Math.Seq.{take-append_seam}
use Rattle.std.proofs.lemmas.List.{append_cancel_left}
use Rattle.std.specs.Io.Buffered.{writer_buffer, writer_contents, writer_inner}
use Rattle.std.specs.Io.KnownBytes.{append_known, Appends, Keeps}
use Rattle.std.specs.declared.io.buffered.BufWriter.{BufWriter}
use Rattle.whole_files.specs.Words.{address}
use Rattle.cedar_model.specs.Table.Layouts.{LayoutKind, layout_byte}
use Rattle.cedar_model.specs.Table.TableFields.{Fields}
use Rattle.cedar_model.specs.Meaning.WellFormed.{IsWellFormed}
use Rattle.cedar_format.specs.Format.{header_answer, need, IsVersion}
use Rattle.cedar_format.specs.Tables.{header_of, table_bytes, FitsTable, IsTableFile}
use Rattle.cedar_format.proofs.Passing.{tables_pass}

-- the table is seen through the dictionary's value
pub is_file : (version slots : ℕ) (T U : Fields) → IsVersion version → T ≡ U → IsWellFormed slots T → FitsTable version T → IsTableFile version slots U (table_bytes version U)
is_file version slots T U known same formed fits = subst (λ V. IsTableFile version slots V (table_bytes version V)) same (record { known = known; formed = formed; fits = fits; spelled = refl })

pub file_passes : (version : ℕ) (kind : LayoutKind) (slots : ℕ) (T U : Fields) → IsVersion version → T ≡ U → T.layout ≡ kind → IsWellFormed slots T → FitsTable version T
    → (limit : ℕ) → need (header_of version U) ≤ limit → header_answer (layout_byte kind) slots limit (table_bytes version U) ≡ None
file_passes version kind slots T U known same layout formed fits =
    subst (λ V. (limit : ℕ) → need (header_of version V) ≤ limit → header_answer (layout_byte kind) slots limit (table_bytes version V) ≡ None) same
    (subst (λ k. (limit : ℕ) → need (header_of version T) ≤ limit → header_answer (layout_byte k) slots limit (table_bytes version T) ≡ None) layout
    (λ limit within. tables_pass version slots limit T known formed fits within))

-- what was written through a buffer that had nothing at first, once it has nothing any more
buffered_appends : (bytes held filed rest : List ℕ) (before between after : Option (List ℕ)) → held ≡ [] → Appends (append_known before held) (append_known between filed) bytes
    → Keeps (append_known between filed) (append_known after rest) → rest ≡ [] → Appends before after bytes
buffered_appends bytes held filed rest None between after unused grown same empty = tt
buffered_appends bytes held filed rest (Some xs) None after unused grown same empty = absurd grown
buffered_appends bytes held filed rest (Some xs) (Some ys) None unused grown same empty = absurd same
buffered_appends bytes held filed rest (Some xs) (Some ys) (Some zs) unused grown same empty =
    sym (append-nil zs)
    ∙ ap (λ (l : List ℕ). zs ++ l) (sym empty)
    ∙ same
    ∙ grown
    ∙ ap (λ (l : List ℕ). (xs ++ l) ++ bytes) unused
    ∙ ap (λ (l : List ℕ). l ++ bytes) (append-nil xs)

-- a writer that was buffered, and is taken out of its buffer again
pub written_through : {W A : Type 0} (contents : W → Option (List ℕ)) (bytes : List ℕ) (before after : W) (made filled flushed : BufWriter W A) → writer_inner made ≡ before → writer_buffer made ≡ []
    → Appends (writer_contents contents made) (writer_contents contents filled) bytes → Keeps (writer_contents contents filled) (writer_contents contents flushed) → writer_buffer flushed ≡ []
    → after ≡ writer_inner flushed → Appends (contents before) (contents after) bytes
written_through contents bytes before after made filled flushed inner unused grown same empty out =
    let whole : Appends (contents (writer_inner made)) (contents (writer_inner flushed)) bytes =
    buffered_appends bytes (writer_buffer made) (writer_buffer filled) (writer_buffer flushed) (contents (writer_inner made)) (contents (writer_inner filled)) (contents (writer_inner flushed)) unused grown same empty in
    subst (λ w. Appends (contents w) (contents after) bytes) inner (subst (λ w. Appends (contents (writer_inner made)) (contents w) bytes) (sym out) whole)

-- ---- where it was written

-- a path and what follows, kept apart
told_apart : (p q b c : List ℕ) → address p ++ b ≡ address q ++ c → (p ≡ q) × (b ≡ c)
told_apart p q b c is =
    let long : length p ≡ length q = ap (λ (l : List ℕ). get_or l 0 0) is in
    let rest : p ++ b ≡ q ++ c = ap (λ (l : List ℕ). drop 1 l) is in
    let same : p ≡ q = sym (take-append_seam p b) ∙ ap (λ n. take n (p ++ b)) long ∙ ap (λ l. take (length q) l) rest ∙ take-append_seam q c in
    (same, append_cancel_left q b c (ap (λ l. l ++ b) (sym same) ∙ rest))

-- what was written behind a path, where nothing was before
pub lands : (path whole p b q c : List ℕ) → p ≡ path → b ≡ [] → address q ++ c ≡ (address p ++ b) ++ whole → (q ≡ path) × (c ≡ whole)
lands path whole p b q c is empty grown =
    told_apart q path c whole
    (grown ∙ ap (λ l. (address p ++ l) ++ whole) empty ∙ ap (λ l. l ++ whole) (append-nil (address p)) ∙ ap (λ l. address l ++ whole) is)
