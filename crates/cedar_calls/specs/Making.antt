-- How a further dictionary is made: a new one and a sorted build as `cedarwood` says, a load and a copy.
use Rattle.std.specs.Prelude.{◌≡◌, ℕ, List, [], ◌∷◌, ◌++◌, IfOk, MatchResult, Result, Ok, Err}
use Rattle.cedarwood.specs.declared.error.CedarError.{CedarError}
use Rattle.cedarwood.specs.declared.error.CedarError.TheVariants.{Memory}
use Rattle.cedarwood.specs.Layouts.{LayoutKind}
use Rattle.cedarwood.specs.CedarPersistenceError.{CedarPersistenceError}
use Rattle.cedarwood.specs.Dictionary.{Dictionary}
use Rattle.cedarwood.specs.Loading.{LoadAnswers}
use Rattle.cedarwood.specs.OnTable.{IsOnTable}

-- what a load of some bytes makes: the table whose bytes they are and the dictionary that is kept in it; or the
-- refusal that they call for
abbrev pub IsLoad : LayoutKind → ℕ → ℕ → List ℕ → Result Dictionary CedarPersistenceError → Type 0
IsLoad layout slots limit bytes made = LoadAnswers (λ d. d.table) layout slots limit bytes made × IfOk made (IsOnTable slots)

-- an equal dictionary was made, or there was no memory for it
abbrev pub IsCopy : Dictionary → Result Dictionary CedarError → Type 0
IsCopy d made = MatchResult made (λ copy. copy ≡ d) (λ e. e ≡ Memory)

-- the dictionary that was made comes after the others; or none was, and its error is the answer
abbrev pub Joins : {E : Type 0} → List Dictionary → Result Dictionary E → Result (Unit {0}) E → List Dictionary → Type 0
Joins before (Ok d) result after = (result ≡ Ok tt) × (after ≡ before ++ d ∷ [])
Joins before (Err e) result after = (result ≡ Err e) × (after ≡ before)

-- a further dictionary was made as P says, and comes after the others; or none was, and the error is the answer
abbrev pub Makes : {E : Type 0} → (Result Dictionary E → Type 0) → List Dictionary → Result (Unit {0}) E → List Dictionary → Type 0
Makes {E} P before result after = (made : Result Dictionary E) × P made × Joins before made result after
