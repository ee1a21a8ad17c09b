-- What a load reports of a file.
use Rattle.std.proofs.Common.{arith, ◌≡◌, ◌≢◌, ℕ, inl, inr, List, [], ◌∷◌, take, Option, None, Some, IfSome, MatchOption, Ok, Err, refl, ap, sym, subst, ◌∙◌}
use Rattle.std.specs.Prelude.{◌⊎◌}
use Rattle.std.proofs.lemmas.Option.{none-some}
use Rattle.cedarwood.specs.Layouts.{LayoutKind, layout_byte}
use Rattle.cedarwood.specs.TableFields.{Fields}
use Rattle.cedarwood.specs.CedarPersistenceError.{CedarPersistenceError}
use Rattle.cedarwood.specs.CedarPersistenceError.TheVariants as errors
use Rattle.cedarwood.specs.Format.{body_refusal, header_answer, header_at, header_refusal, size_refusal, trial_refusal}
use Rattle.cedarwood.specs.Header.{Header}
use Rattle.cedarwood.specs.Reading.{IsIo, LacksTable}
use Rattle.cedarwood.specs.Refusal.{Refusal, first_refusal, refusal_of}
use Rattle.cedarwood.specs.Loading.{IsDecided, LoadAnswers}
use Rattle.cedarwood.specs.Tables.{IsTableFile}
use Rattle.cedar_c.specs.Files.{early_refusal, file_status, IsOfNoTable, TellsHeader}

-- whatever holds of each refusal
pub always : {X : Type 0} (o : Option X) (P : X → Type 0) → ((x : X) → P x) → IfSome o P
always None P h = tt
always (Some x) P h = h x

module _ {X : Type 0} (table : X → Fields) (kind : LayoutKind) (slots limit : ℕ) (bytes : List ℕ) where
  abbrev pub IsFile : X → Type 0
  IsFile x = (version : ℕ) × IsTableFile version slots (table x) bytes

  -- a file that was loaded is that of the table
  pub loaded_bytes : (x : X) → LoadAnswers table kind slots limit bytes (Ok x) → IsFile x
  loaded_bytes x (inl lacks) = absurd lacks.0
  loaded_bytes x (inr told) = of (header_answer (layout_byte kind) slots limit bytes) told
    where
      of : (o : Option Refusal) → MatchOption o (IsFile x) (λ r. ◌≡◌ {A = Option Refusal} None (Some r)) → IsFile x
      of None file = file
      of (Some r) is = absurd (none-some r is)

  -- and its header isn't refused
  pub loaded_header : (P : Refusal → Type 0) (x : X) → LoadAnswers table kind slots limit bytes (Ok x) → IfSome (header_answer (layout_byte kind) slots limit bytes) P
  loaded_header P x (inl lacks) = absurd lacks.0
  loaded_header P x (inr told) = of (header_answer (layout_byte kind) slots limit bytes) told
    where
      of : (o : Option Refusal) → MatchOption o (IsFile x) (λ r. ◌≡◌ {A = Option Refusal} None (Some r)) → IfSome o P
      of None file = tt
      of (Some r) is = absurd (none-some r is)

  lack_is_memory : (h : Header) (e : CedarPersistenceError) → LacksTable h e → file_status (refusal_of e) ≡ 2
  lack_is_memory h (errors.AllocationFailed n) lacks = refl
  lack_is_memory h (errors.Io cause) lacks = absurd lacks
  lack_is_memory h errors.Truncated lacks = absurd lacks
  lack_is_memory h errors.InvalidMagic lacks = absurd lacks
  lack_is_memory h (errors.UnsupportedVersion major minor) lacks = absurd lacks
  lack_is_memory h (errors.UnsupportedByteOrder order) lacks = absurd lacks
  lack_is_memory h (errors.LayoutMismatch expected found) lacks = absurd lacks
  lack_is_memory h (errors.InvalidHeader field value) lacks = absurd lacks
  lack_is_memory h (errors.AllocationLimitExceeded requested limit) lacks = absurd lacks
  lack_is_memory h (errors.CorruptData section index reason) lacks = absurd lacks
  lack_is_memory h errors.TrailingData lacks = absurd lacks

  -- a refused header is reported by its number, unless memory was wanted
  pub refused_header : (e : CedarPersistenceError) → LoadAnswers table kind slots limit bytes (Err e)
      → IfSome (header_answer (layout_byte kind) slots limit bytes) (λ r. (file_status (refusal_of e) ≡ file_status r) ⊎ (file_status (refusal_of e) ≡ 2))
  refused_header e (inl lacks) = always (header_answer (layout_byte kind) slots limit bytes) (λ r. (file_status (refusal_of e) ≡ file_status r) ⊎ (file_status (refusal_of e) ≡ 2)) (λ r. inr (lack_is_memory (header_at (take 88 bytes)) e lacks.0))
  refused_header e (inr told) = of (header_answer (layout_byte kind) slots limit bytes) told
    where
      of : (o : Option Refusal) → MatchOption o (IsDecided table slots bytes (Err e)) (λ r. ◌≡◌ {A = Option Refusal} (Some (refusal_of e)) (Some r)) → IfSome o (λ r. (file_status (refusal_of e) ≡ file_status r) ⊎ (file_status (refusal_of e) ≡ 2))
      of None decided = tt
      of (Some r) is = let same : refusal_of e ≡ r = cc in inl (ap file_status same)

  early_first : (a b c d : Option Refusal) (r : Refusal) → first_refusal (a ∷ b ∷ []) ≡ Some r → first_refusal (first_refusal (a ∷ b ∷ c ∷ []) ∷ d ∷ []) ≡ Some r
  early_first (Some x) b c d r h = h
  early_first None (Some y) c d r h = h
  early_first None None c d r h = absurd cc

  early_answer : (r : Refusal) → early_refusal (layout_byte kind) slots limit bytes ≡ Some r → header_answer (layout_byte kind) slots limit bytes ≡ Some r
  early_answer r h =
      early_first (header_refusal (layout_byte kind) (take 88 bytes)) (size_refusal slots limit (header_at (take 88 bytes))) (body_refusal (header_at (take 88 bytes)) bytes) (trial_refusal (header_at (take 88 bytes))) r h

  -- before memory is asked for, the refusal is reported
  pub refused_at_once : (e : CedarPersistenceError) → LoadAnswers table kind slots limit bytes (Err e) → IfSome (early_refusal (layout_byte kind) slots limit bytes) (λ r. file_status (refusal_of e) ≡ file_status r)
  refused_at_once e told = each (early_refusal (layout_byte kind) slots limit bytes) refl
    where
      here : (r : Refusal) → early_refusal (layout_byte kind) slots limit bytes ≡ Some r → LoadAnswers table kind slots limit bytes (Err e) → file_status (refusal_of e) ≡ file_status r
      here r h (inl lacks) =
          let none : early_refusal (layout_byte kind) slots limit bytes ≡ None =
          ap (λ a. first_refusal (a ∷ size_refusal slots limit (header_at (take 88 bytes)) ∷ [])) lacks.1 ∙ ap (λ b. first_refusal (None ∷ b ∷ [])) lacks.2 in
          absurd (none-some r (sym none ∙ h))
      here r h (inr told) =
          let is : ◌≡◌ {A = Option Refusal} (Some (refusal_of e)) (Some r) =
          subst (λ (o : Option Refusal). MatchOption o (IsDecided table slots bytes (Err e)) (λ r. ◌≡◌ {A = Option Refusal} (Some (refusal_of e)) (Some r))) (early_answer r h) told in
          let same : refusal_of e ≡ r = cc in ap file_status same

      each : (o : Option Refusal) → early_refusal (layout_byte kind) slots limit bytes ≡ o → IfSome o (λ r. file_status (refusal_of e) ≡ file_status r)
      each None h = tt
      each (Some r) h = here r h told

  -- and nothing is loaded
  pub loaded_early : (P : Refusal → Type 0) (x : X) → LoadAnswers table kind slots limit bytes (Ok x) → IfSome (early_refusal (layout_byte kind) slots limit bytes) P
  loaded_early P x told = each (early_refusal (layout_byte kind) slots limit bytes) refl
    where
      each : (o : Option Refusal) → early_refusal (layout_byte kind) slots limit bytes ≡ o → IfSome o P
      each None h = tt
      each (Some r) h = absurd (subst (λ (o : Option Refusal). IfSome o (λ _. ⊥)) (early_answer r h) (loaded_header (λ _. ⊥) x told))

  -- behind a header that passes, memory was wanted, or the bytes are of no table
  pub refused_behind : (e : CedarPersistenceError) → LoadAnswers table kind slots limit bytes (Err e) → header_answer (layout_byte kind) slots limit bytes ≡ None
      → (file_status (refusal_of e) ≡ 2) ⊎ ((file_status (refusal_of e) ≡ 27) × IsOfNoTable slots bytes)
  refused_behind e (inl lacks) none = inl (lack_is_memory (header_at (take 88 bytes)) e lacks.0)
  refused_behind e (inr told) none =
      let decided : IsDecided table slots bytes (Err e) = subst (λ (o : Option Refusal). MatchOption o (IsDecided table slots bytes (Err e)) (λ r. ◌≡◌ {A = Option Refusal} (Some (refusal_of e)) (Some r))) none told in
      inr (ap file_status decided.0, decided.1)

-- an early refusal's number is what is reported
pub told_early : (o : Option Refusal) (e : CedarPersistenceError) (n : ℕ) → n ≡ file_status (refusal_of e) → IfSome o (λ r. file_status (refusal_of e) ≡ file_status r) → IfSome o (λ r. n ≡ file_status r)
told_early None e n is h = tt
told_early (Some r) e n is h = is ∙ h

-- the number that is reported once a header has passed
pub told_behind : (slots : ℕ) (bytes : List ℕ) (e : CedarPersistenceError) (n : ℕ) → n ≡ file_status (refusal_of e)
    → (file_status (refusal_of e) ≡ 2) ⊎ ((file_status (refusal_of e) ≡ 27) × IsOfNoTable slots bytes) → (n ≡ 2) ⊎ ((n ≡ 27) × IsOfNoTable slots bytes)
told_behind slots bytes e n is (inl two) = inl (is ∙ two)
told_behind slots bytes e n is (inr none) = inr (is ∙ none.0, none.1)

-- a refused header's number is what is reported
pub told_status : (o : Option Refusal) (e : CedarPersistenceError) (n : ℕ) → n ≡ file_status (refusal_of e)
    → IfSome o (λ r. (file_status (refusal_of e) ≡ file_status r) ⊎ (file_status (refusal_of e) ≡ 2)) → IfSome o (λ r. TellsHeader r n)
told_status None e n is h = tt
told_status (Some r) e n is (inl same) = inl (is ∙ same)
told_status (Some r) e n is (inr two) = inr (is ∙ two)

-- where a refusal can't be, there is none
pub none_refused : {X : Type 0} (o : Option X) (P : X → Type 0) → IfSome o (λ _. ⊥) → IfSome o P
none_refused None P h = tt
none_refused (Some x) P h = absurd h

-- only a fault of the reading has the number 29
pub read_status : (e : CedarPersistenceError) → (IsIo e → ⊥) → file_status (refusal_of e) ≢ 29
read_status (errors.Io cause) fine = absurd (fine tt)
read_status errors.Truncated fine = λ h. omega (arith, h)
read_status errors.InvalidMagic fine = λ h. omega (arith, h)
read_status (errors.UnsupportedVersion major minor) fine = λ h. omega (arith, h)
read_status (errors.UnsupportedByteOrder order) fine = λ h. omega (arith, h)
read_status (errors.LayoutMismatch expected found) fine = λ h. omega (arith, h)
read_status (errors.InvalidHeader field value) fine = λ h. omega (arith, h)
read_status (errors.AllocationLimitExceeded requested limit) fine = λ h. omega (arith, h)
read_status (errors.AllocationFailed n) fine = λ h. omega (arith, h)
read_status (errors.CorruptData section index reason) fine = λ h. omega (arith, h)
read_status errors.TrailingData fine = λ h. omega (arith, h)
