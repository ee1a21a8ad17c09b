-- The first bytes of the input are those that came.
use Rattle.std.proofs.Common.{◌≡◌, ◌⊎◌, ℕ, ◌+◌, ◌≤◌, ◌<◌, Bool, true, false, List, ◌++◌, length, take, Option, Some, None, Result, Ok, Err, inl, inr, refl, arith, sym, ap, ◌∙◌, take_all, append-nil, subst, length-take-le}
use Rattle.std.specs.Prelude.{◌-◌, IfSome, IfNone, IfOk, IsErrAnd, OnOk, OnSome}
use Rattle.std.proofs.lemmas.Bool.{cases_lt}
use Rattle.std.proofs.lemmas.Option.{IfSome_then}
use Rattle.std.proofs.lemmas.List.{take_at}
use lib.Seq.{take-append-add}
use Rattle.std.specs.IoError.{error_kind}
use Rattle.std.specs.declared.io.Error.{Error}
use Rattle.std.specs.declared.io.ErrorKind.TheVariants.{UnexpectedEof}
use Rattle.cedar_format.specs.declared.error.CedarPersistenceError.{CedarPersistenceError}
use Rattle.cedar_format.specs.declared.error.CedarPersistenceError.TheVariants as errors
use Rattle.cedar_format.specs.declared.header.Header.{Header}
use Rattle.cedar_format.specs.Format.{header_at, header_bytes, header_refusal, FitsHeader, IsHeader, IsVersion}
use Rattle.cedar_format.specs.Reading.{IsIo}
use Rattle.cedar_format.specs.Refusal.{Refusal, Truncated, refusal}
use Rattle.cedar_format.proofs.HeaderPrefix.{header_stays}
use Rattle.std.specs.Io.KnownBytes.{Consumes, IsAtEnd}

for_each : {X : Type 0} {P : X → Type 0} (o : Option X) → ((x : X) → P x) → IfSome o P
for_each None h = tt
for_each (Some x) h = h x

pub front_that_came : (old new : Option (List ℕ)) (buf : List ℕ) (size count : ℕ) → length buf ≡ size → count ≤ size → Consumes old new (take count buf) → (count < size → IsAtEnd new)
    → IfSome old (λ bytes. take size bytes ≡ take count buf)
front_that_came None new buf size count len within took ended = tt
front_that_came (Some bytes) None buf size count len within took ended = absurd took
front_that_came (Some bytes) (Some rest) buf size count len within took ended =
    let short : length (take count buf) ≡ count = length-take-le count buf (omega arith) in
    elim (cases_lt count size) [
      | inl fewer ↦
          let whole : bytes ≡ take count buf = took ∙ ap (λ l. take count buf ++ l) (ended fewer) ∙ append-nil (take count buf) in
          ap (take size) whole ∙ take_all size (take count buf) (omega arith)
      | inr all ↦
          let same : count ≡ size = omega arith in
          ap (take size) took ∙ take_at (take count buf) rest size (short ∙ same)
    ]

-- without a fault the result is that of the bytes that came
pub answer_known : {X F : Type 0} (old new : Option (List ℕ)) (buf : List ℕ) (size count : ℕ) (failed : Bool) (fault : Option F) (answer result : Result X CedarPersistenceError) (expected : List ℕ → Option Refusal)
    → length buf ≡ size → count ≤ size → Consumes old new (take count buf) → IfNone fault (count < size → IsAtEnd new)
    → OnSome fault (failed ≡ true) → IfNone fault (result ≡ answer) → refusal answer ≡ expected (take count buf)
    → IfSome old (λ bytes. failed ≡ false → refusal result ≡ expected (take size bytes))
answer_known old new buf size count failed None answer result expected len within took ended faulty same known =
    IfSome_then old (front_that_came old new buf size count len within took ended) (λ bytes came fine. ap refusal same ∙ known ∙ ap expected (sym came))
answer_known old new buf size count failed (Some error) answer result expected len within took ended faulty same known =
    for_each old (λ bytes fine. absurd cc)

-- the first bytes of the input begin with those that came
front_within : (old new : Option (List ℕ)) (came : List ℕ) (size : ℕ) → length came ≤ size → Consumes old new came → IfSome old (λ bytes. (rest : List ℕ) × (take size bytes ≡ came ++ rest))
front_within None new came size within took = tt
front_within (Some bytes) None came size within took = absurd took
front_within (Some bytes) (Some rest) came size within took =
    let split : size ≡ length came + (size - length came) = omega arith in
    (take (size - length came) rest, ap (take size) took ∙ ap (λ n. take n (came ++ rest)) split ∙ take-append-add came rest (size - length came))

true_not_false : (b : Bool) → b ≡ true → b ≡ false → ⊥
true_not_false b is is_not = absurd cc

-- whether too few bytes were there
is_truncated : {X : Type 0} (answer : Result X CedarPersistenceError) → (answer ≡ Err errors.Truncated) ⊎ ((answer ≡ Err errors.Truncated → ⊥) × (refusal answer ≡ Some Truncated → ⊥))
is_truncated (Ok x) = inr (λ e. absurd cc, λ e. absurd cc)
is_truncated (Err errors.Truncated) = inl refl
is_truncated (Err (errors.Io cause)) = inr (λ e. absurd cc, λ e. absurd cc)
is_truncated (Err errors.InvalidMagic) = inr (λ e. absurd cc, λ e. absurd cc)
is_truncated (Err errors.TrailingData) = inr (λ e. absurd cc, λ e. absurd cc)
is_truncated (Err (errors.UnsupportedVersion a b)) = inr (λ e. absurd cc, λ e. absurd cc)
is_truncated (Err (errors.UnsupportedByteOrder a)) = inr (λ e. absurd cc, λ e. absurd cc)
is_truncated (Err (errors.LayoutMismatch a b)) = inr (λ e. absurd cc, λ e. absurd cc)
is_truncated (Err (errors.InvalidHeader a b)) = inr (λ e. absurd cc, λ e. absurd cc)
is_truncated (Err (errors.AllocationLimitExceeded a b)) = inr (λ e. absurd cc, λ e. absurd cc)
is_truncated (Err (errors.AllocationFailed a)) = inr (λ e. absurd cc, λ e. absurd cc)
is_truncated (Err (errors.CorruptData a b i)) = inr (λ e. absurd cc, λ e. absurd cc)

-- a fault that isn't told has come behind the bytes that decide, unless a read returned the input's end as a fault
after_fault : {X : Type 0} (layout : ℕ) (front rest bytes : List ℕ) (answer result : Result X CedarPersistenceError) (ends : Type 0) (cause : Error) → take 88 bytes ≡ front ++ rest
    → (ends → ⊥) → ((answer ≡ Err errors.Truncated → ⊥) → result ≡ answer) → (answer ≡ Err errors.Truncated → (ends → ⊥) → result ≡ Err (errors.Io cause))
    → refusal answer ≡ header_refusal layout front → (IsErrAnd result IsIo → ⊥) → refusal result ≡ header_refusal layout (take 88 bytes)
after_fault layout front rest bytes answer result ends cause whole goes_on other told known no_io = elim (is_truncated answer) [
  | inl short ↦ absurd (no_io (rw (told short goes_on) tt))
  | inr not_short ↦ elim (header_stays front rest layout) [
    | inl lacks ↦ absurd (not_short.1 (known ∙ lacks))
    | inr stays ↦ ap refusal (other not_short.0) ∙ known ∙ sym stays ∙ ap (header_refusal layout) (sym whole)
  ]
]

-- whatever failed, the first bytes decide, unless a fault is told, or a read returned the input's end as one
pub answer_decided : {X : Type 0} (layout : ℕ) (old new : Option (List ℕ)) (buf : List ℕ) (count : ℕ) (cut : Bool) (fault : Option Error) (answer result : Result X CedarPersistenceError)
    → length buf ≡ 88 → count ≤ 88 → Consumes old new (take count buf) → IfNone fault (count < 88 → IsAtEnd new)
    → IfSome fault (λ e. error_kind e ≡ UnexpectedEof → cut ≡ true) → IfNone fault (result ≡ answer) → ((answer ≡ Err errors.Truncated → ⊥) → result ≡ answer)
    → IfSome fault (λ e. answer ≡ Err errors.Truncated → (error_kind e ≡ UnexpectedEof → ⊥) → result ≡ Err (errors.Io e)) → refusal answer ≡ header_refusal layout (take count buf)
    → (IsErrAnd result IsIo → ⊥) → IfSome old (λ bytes. cut ≡ false → refusal result ≡ header_refusal layout (take 88 bytes))
answer_decided layout old new buf count cut None answer result len within took ended cuts same other told known no_io =
    IfSome_then old (front_that_came old new buf 88 count len within took ended) (λ bytes came fine. ap refusal same ∙ known ∙ ap (header_refusal layout) (sym came))
answer_decided layout old new buf count cut (Some error) answer result len within took ended cuts same other told known no_io =
    let short : length (take count buf) ≡ count = length-take-le count buf (omega arith) in
    IfSome_then old (front_within old new (take count buf) 88 (omega arith) took) (λ bytes front fine.
    after_fault layout (take count buf) front.0 bytes answer result (error_kind error ≡ UnexpectedEof) error front.1 (λ ends. true_not_false cut (cuts ends) fine) other told known no_io)

-- an accepted header is what was read
pub accepted_header : (old new : Option (List ℕ)) (front : List ℕ) (layout : ℕ) (answer result : Result Header CedarPersistenceError)
    → IfOk result (λ h. answer ≡ Ok h) → IfOk answer (λ h. h ≡ header_at front) → OnOk answer (88 ≤ length front)
    → IfOk answer (λ h. take 88 front ≡ header_bytes layout h) → IfOk answer FitsHeader → IfOk answer (λ h. IsVersion h.minor)
    → refusal answer ≡ header_refusal layout front → Consumes old new front → length front ≤ 88
    → IfOk result (λ h. (bytes : List ℕ) × Consumes old new bytes × IsHeader layout bytes h)
accepted_header old new front layout answer (Err e) same fields whole spelled fits version known took within = tt
accepted_header old new front layout (Err e) (Ok h) same fields whole spelled fits version known took within = absurd cc
accepted_header old new front layout (Ok k) (Ok h) same fields whole spelled fits version known took within =
    let e : k ≡ h = cc in
    let all : take 88 front ≡ front = take_all 88 front within in (
      front,
      took,
      record {
        len = omega arith;
        accepted = sym known;
        fields = sym e ∙ fields;
        known = subst (λ j. IsVersion j.minor) e version;
        spelled = sym all ∙ spelled ∙ ap (header_bytes layout) e;
        fits = subst FitsHeader e fits;
      },
    )
