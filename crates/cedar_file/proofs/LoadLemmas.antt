-- Each exit of a load is the result that the bytes decide.
use Rattle.std.proofs.Common.{◌≡◌, ℕ, ℤ, pos, length, ◌+◌, ◌*◌, ◌/◌, ◌^◌, ◌≤◌, ◌≤ℤ◌, arith, rules, Bool, true, false, List, [], ◌∷◌, ◌++◌, take, Option, Some, None, Ok, Err, inl, inr, refl, sym, ap, ◌∙◌, subst, append-nil, append_assoc, take_at}
use Rattle.std.specs.Prelude.{IfSome, MatchOption, int_lt}
use Rattle.std.specs.Io.KnownBytes.{Consumes, IsAtEnd}
use Rattle.cedar_slots.specs.declared.records.NodeRecord.{NodeRecord}
use Rattle.cedar_slots.specs.declared.records.NInfoRecord.{NInfoRecord}
use Rattle.cedar_slots.specs.declared.records.BlockRecord.{BlockRecord}
use Rattle.cedar_model.specs.Table.Layouts.{LayoutKind, layout_byte}
use Rattle.cedar_slots.specs.Places.{IsPowerOfTwo}
use Rattle.cedar_model.specs.Table.TableFields.{Fields, capacity_of}
use Rattle.cedar_model.specs.Meaning.WellFormed.{IsWellFormed}
use Rattle.cedar_format.specs.declared.error.CedarPersistenceError.{CedarPersistenceError}
use Rattle.cedar_format.specs.declared.header.Header.{Header}
use Rattle.cedar_format.specs.Format.{decode_refusal, header_answer, header_at, listed_bytes, listed_in, trial_refusal, CountsWithin, DecodeAnswers, IsFile, IsHeader, IsVersion, Passes}
use Rattle.cedar_format.specs.Refusal.{Refusal, CorruptData, first_refusal, refusal_of, unless}
use Rattle.cedar_format.specs.Tables.{file_fields, table_bytes, FitsTable, IsListed, IsTableFile}
use Rattle.cedar_format.proofs.FileTable.{file_fits, file_header, file_is_listed, file_spelled}
use Rattle.cedar_format.proofs.OneTable.{formed_is_listed, one_table}
use Rattle.cedar_format.proofs.Sizes.{has_sizes}
use Rattle.cedar_format.specs.Reading.{IsIo, LacksNoMore}
use Rattle.cedar_file.specs.Loading.{IsDecided, LoadAnswers, LoadsBy}

first_of_two : (x y : Option Refusal) (r : Refusal) → Some r ≡ x → first_refusal (x ∷ y ∷ []) ≡ Some r
first_of_two None y r e = absurd cc
first_of_two (Some s) y r e = sym e

second_of_two : (x y z : Option Refusal) → None ≡ x → z ≡ y → first_refusal (x ∷ y ∷ []) ≡ z
second_of_two None None z p q = sym q
second_of_two None (Some r) z p q = sym q
second_of_two (Some r) y z p q = absurd cc

some_trials : (z : ℤ) (r : Refusal) → None ≡ unless (int_lt (pos 0) z) r → pos 1 ≤ℤ z
some_trials z r e =
    let some : int_lt (pos 0) z ≡ true = passed (int_lt (pos 0) z) e in
    search (rules, arith)
  where
    passed : (b : Bool) → None ≡ unless b r → b ≡ true
    passed true e = refl
    passed false e = absurd cc

-- a refusal has no table, whatever would have had one
abbrev no_table : Fields → Fields
no_table T = T

-- a refusal keeps what a load promises
pub refuses : {X : Type 0} (table_in : X → Fields) (kind : LayoutKind) (slots limit : ℕ) (before after : Option (List ℕ)) (failed cut : Bool) (e : CedarPersistenceError)
    → IfSome before (λ bytes. failed ≡ false → LoadAnswers no_table kind slots limit bytes (Err e)) → ((IsIo e → ⊥) → IfSome before (λ bytes. cut ≡ false → LoadAnswers no_table kind slots limit bytes (Err e)))
    → (IsIo e → failed ≡ true) → LacksNoMore (Passes (layout_byte kind) slots limit before) e
    → LoadsBy table_in kind slots limit before after failed cut (Err e)
refuses table_in kind slots limit before after failed cut e answer decided io lacks = record { bytes = tt; formed = tt; answer = answer; decided = decided; io = io; lacks = lacks }

-- what was loaded is part of something else now, which has the same table
pub stands_in : {X Y : Type 0} (table_in : X → Fields) (shown_in : Y → Fields) (kind : LayoutKind) (slots limit : ℕ) (before after : Option (List ℕ)) (failed cut : Bool) (x : X) (y : Y)
    → table_in x ≡ shown_in y → LoadsBy table_in kind slots limit before after failed cut (Ok x) → LoadsBy shown_in kind slots limit before after failed cut (Ok y)
stands_in table_in shown_in kind slots limit before after failed cut x y same loads = record {
  bytes = (loads.bytes.0, loads.bytes.1, subst (λ T. Consumes before after (table_bytes loads.bytes.0 T)) same loads.bytes.2);
  formed = subst (IsWellFormed slots) same loads.formed;
  answer = answered failed before loads.answer;
  decided = λ no_io. answered cut before (loads.decided no_io);
  io = tt;
  lacks = tt;
}
  where
    answered : (flag : Bool) (old : Option (List ℕ)) → IfSome old (λ bytes. flag ≡ false → LoadAnswers table_in kind slots limit bytes (Ok x)) → IfSome old (λ bytes. flag ≡ false → LoadAnswers shown_in kind slots limit bytes (Ok y))
    answered flag None told = tt
    answered flag (Some bytes) told = λ fine. subst (λ T. LoadAnswers (λ (one : Unit {0}). T) kind slots limit bytes (Ok tt)) same (told fine)

-- a refusal is one whatever would have been loaded
pub stays_refused : {X Y : Type 0} (table_in : X → Fields) (shown_in : Y → Fields) (kind : LayoutKind) (slots limit : ℕ) (before after : Option (List ℕ)) (failed cut : Bool) (e : CedarPersistenceError)
    → LoadsBy table_in kind slots limit before after failed cut (Err e) → LoadsBy shown_in kind slots limit before after failed cut (Err e)
stays_refused table_in shown_in kind slots limit before after failed cut e loads = record { bytes = tt; formed = tt; answer = loads.answer; decided = loads.decided; io = loads.io; lacks = loads.lacks }

module _ (kind : LayoutKind) (slots limit : ℕ) where
  -- what is refused before the table was made
  pub refused_early : (old : Option (List ℕ)) (failed : Bool) (e : CedarPersistenceError)
      → IfSome old (λ bytes. failed ≡ false → DecodeAnswers {X = ℕ} (layout_byte kind) slots limit bytes (Err e))
      → IfSome old (λ bytes. failed ≡ false → LoadAnswers no_table kind slots limit bytes (Err e))
  refused_early None failed e decoded = tt
  refused_early (Some bytes) failed e decoded = λ fine. elim (decoded fine) [
    | inl known ↦
        let answer : header_answer (layout_byte kind) slots limit bytes ≡ Some (refusal_of e) =
        first_of_two (decode_refusal (layout_byte kind) slots limit bytes) (trial_refusal (header_at (take 88 bytes))) (refusal_of e) known in
        inr (subst (λ o. MatchOption o (IsDecided no_table slots bytes (Err e)) (λ r. ◌≡◌ {A = Option Refusal} (Some (refusal_of e)) (Some r))) (sym answer) refl)
    | inr lacks ↦ inl lacks
  ]

  module _ (h : Header) (nodes : List NodeRecord) (infos : List NInfoRecord) (blocks : List BlockRecord) (reject : List ℤ) (file : IsFile slots limit h nodes infos blocks reject)
      (front : List ℕ) (is : IsHeader (layout_byte kind) front h) (T : Fields) (made : T ≡ file_fields kind h nodes infos blocks reject) where
    abbrev body : List ℕ
    body = listed_bytes (listed_in h) nodes infos blocks reject

    spelled : front ++ body ≡ table_bytes h.minor T
    spelled = file_spelled kind slots limit h nodes infos blocks reject file front is ∙ ap (table_bytes h.minor) (sym made)

    fits : FitsTable h.minor T
    fits = subst (FitsTable h.minor) (sym made) (file_fits kind slots limit h nodes infos blocks reject file is.fits)

    whole_table : slots ≤ 2 ^ 30 → IsListed h.minor T
    whole_table most = subst (IsListed h.minor) (sym made) (file_is_listed kind slots limit h nodes infos blocks reject file most)

    -- the bytes that were read are those of the table in the header's version
    pub read_bytes : (old new : Option (List ℕ)) → Consumes old new (front ++ body) → (version : ℕ) × IsVersion version × Consumes old new (table_bytes version T)
    read_bytes old new took = (h.minor, is.known, subst (Consumes old new) spelled took)

    same_header : (bytes rest : List ℕ) → bytes ≡ (front ++ body) ++ rest → header_at (take 88 bytes) ≡ h
    same_header bytes rest e =
        let whole : bytes ≡ front ++ (body ++ rest) = e ∙ append_assoc front body rest in
        ap header_at (ap (take 88) whole ∙ take_at front (body ++ rest) 88 is.len) ∙ sym is.fields

    all_bytes : (bytes rest : List ℕ) → bytes ≡ (front ++ body) ++ rest → rest ≡ [] → bytes ≡ table_bytes h.minor T
    all_bytes bytes rest e end = e ∙ ap (λ l. (front ++ body) ++ l) end ∙ append-nil (front ++ body) ∙ spelled

    -- the number of trials was refused
    trials : (bytes rest : List ℕ) (answer : Option Refusal) → bytes ≡ (front ++ body) ++ rest → DecodeAnswers {X = ℕ} (layout_byte kind) slots limit bytes (Ok 0)
        → answer ≡ trial_refusal h → header_answer (layout_byte kind) slots limit bytes ≡ answer
    trials bytes rest answer e (inl known) trial =
        second_of_two (decode_refusal (layout_byte kind) slots limit bytes) (trial_refusal (header_at (take 88 bytes))) answer known (trial ∙ ap trial_refusal (sym (same_header bytes rest e)))
    trials bytes rest answer e (inr lacks) trial = absurd lacks.0

    pub refused_trials : (old new : Option (List ℕ)) (failed : Bool) (e : CedarPersistenceError) → Consumes old new (front ++ body)
        → IfSome old (λ bytes. failed ≡ false → DecodeAnswers {X = ℕ} (layout_byte kind) slots limit bytes (Ok 0)) → Some (refusal_of e) ≡ trial_refusal h
        → IfSome old (λ bytes. failed ≡ false → LoadAnswers no_table kind slots limit bytes (Err e))
    refused_trials None new failed e took decoded trial = tt
    refused_trials (Some bytes) None failed e took decoded trial = absurd took
    refused_trials (Some bytes) (Some rest) failed e took decoded trial = λ fine.
        let answer = trials bytes rest (Some (refusal_of e)) took (decoded fine) trial in
        inr (subst (λ o. MatchOption o (IsDecided no_table slots bytes (Err e)) (λ r. ◌≡◌ {A = Option Refusal} (Some (refusal_of e)) (Some r))) (sym answer) refl)

    pub refused_table : (old new : Option (List ℕ)) (failed : Bool) (e : CedarPersistenceError) → Consumes old new (front ++ body) → (failed ≡ false → IsAtEnd new)
        → IfSome old (λ bytes. failed ≡ false → DecodeAnswers {X = ℕ} (layout_byte kind) slots limit bytes (Ok 0)) → None ≡ trial_refusal h
        → refusal_of e ≡ CorruptData → (IsWellFormed slots T → ⊥) → slots ≤ 2 ^ 30
        → IfSome old (λ bytes. failed ≡ false → LoadAnswers no_table kind slots limit bytes (Err e))
    refused_table None new failed e took ended decoded trial corrupt broken most = tt
    refused_table (Some bytes) None failed e took ended decoded trial corrupt broken most = absurd took
    refused_table (Some bytes) (Some rest) failed e took ended decoded trial corrupt broken most = λ fine.
        let answer = trials bytes rest None took (decoded fine) trial in
        let whole = all_bytes bytes rest took (ended fine) in
        let decided : IsDecided no_table slots bytes (Err e) = (
          corrupt,
          λ (version : ℕ) (U : Fields) (other : IsTableFile version slots U bytes).
              let same = one_table h.minor version T U (whole_table most) (formed_is_listed slots version U other.formed) fits other.fits (sym whole ∙ other.spelled) in
              broken (subst (IsWellFormed slots) (sym same.0) other.formed),
        ) in
        inr (subst (λ o. MatchOption o (IsDecided no_table slots bytes (Err e)) (λ r. ◌≡◌ {A = Option Refusal} (Some (refusal_of e)) (Some r))) (sym answer) decided)

    pub accepted : {X : Type 0} (table_in : X → Fields) (old new : Option (List ℕ)) (failed : Bool) (x : X) → table_in x ≡ T → Consumes old new (front ++ body) → (failed ≡ false → IsAtEnd new)
        → IfSome old (λ bytes. failed ≡ false → DecodeAnswers {X = ℕ} (layout_byte kind) slots limit bytes (Ok 0)) → None ≡ trial_refusal h → IsWellFormed slots T
        → IfSome old (λ bytes. failed ≡ false → LoadAnswers table_in kind slots limit bytes (Ok x))
    accepted table_in None new failed x holds took ended decoded trial formed = tt
    accepted table_in (Some bytes) None failed x holds took ended decoded trial formed = absurd took
    accepted table_in (Some bytes) (Some rest) failed x holds took ended decoded trial formed = λ fine.
        let answer = trials bytes rest None took (decoded fine) trial in
        let whole = all_bytes bytes rest took (ended fine) in
        let file_of_T : IsTableFile h.minor slots T bytes = record { known = is.known; formed = formed; fits = fits; spelled = whole } in
        let decided : IsDecided table_in slots bytes (Ok x) = (h.minor, subst (λ U. IsTableFile h.minor slots U bytes) (sym holds) file_of_T) in
        inr (subst (λ o. MatchOption o (IsDecided table_in slots bytes (Ok x)) (λ r. ◌≡◌ {A = Option Refusal} None (Some r))) (sym answer) decided)

    same_capacity : capacity_of T ≡ h.capacity
    same_capacity = ap capacity_of made ∙ ap (λ k. k.capacity) (file_header kind slots limit h nodes infos blocks reject file)

    -- the sizes and the number of trials are as the test of a table asks
    pub can_be_tested : None ≡ trial_refusal h → IsPowerOfTwo (length T.places.blocks.records) × (capacity_of T ≤ slots) × (pos 1 ≤ℤ T.places.blocks.max_trial)
    can_be_tested passed =
        let sizes = has_sizes slots limit h file.sizes in
        let records : length T.places.blocks.records ≡ h.capacity / 256 = ap (λ U. length U.places.blocks.records) made ∙ file.blocks_len in (
          subst IsPowerOfTwo (sym records) sizes.doubled,
          omega (arith, same_capacity, sizes.capacity),
          subst (λ z. pos 1 ≤ℤ z) (sym (ap (λ U. U.places.blocks.max_trial) made)) (some_trials h.max_trial _ passed),
        )

    -- the records that were read for the test
    pub reads_within : (old : Option (List ℕ)) (before after : ℕ) → Passes (layout_byte kind) slots limit old h → after ≤ before + 16 * capacity_of T + 1024
        → CountsWithin (layout_byte kind) slots limit old (λ k. 16 * k.capacity + 1024) before after
    reads_within old before after passes most =
        let capacity = same_capacity in
        inr (h, passes, omega arith)
