-- What keeps pairs from being stored, and what a build of them returns and leaves.
use Rattle.std.specs.Prelude.{◌≡◌, ◌<◌, ◌⊎◌, ℕ, zero, suc, List, [], ◌∷◌, fold, length}
use Rattle.std.specs.Prelude.{take, Option, None, Result, Ok, Err}
use Rattle.cedar_tree.specs.Queries.{Entry}
use Rattle.cedar_tree.specs.State.{after_put, State}
use Rattle.cedar_tree.specs.Tree.{number_at}
use Rattle.cedarwood.specs.declared.error.CedarError.{CedarError}
use Rattle.cedarwood.specs.declared.error.CedarError.TheVariants.{Memory, SlotLimit}
use Rattle.cedar_model.specs.Table.Layouts.{LayoutKind}
use Rattle.cedarwood.specs.Dictionary.{Dictionary}
use Rattle.cedarwood.specs.Fault.{fault, IsShortage, or_else}
use Rattle.cedarwood.specs.Updates.{IsUpdate}

-- the fault of the first pair that has one
abbrev pub first_fault : List Entry → Option CedarError
first_fault [] = None
first_fault (e ∷ es) = or_else (fault e.0 e.1) (first_fault es)

-- the state with the pairs put one after another
abbrev pub all_stored : State → List Entry → State
all_stored s entries = fold (λ t entry. after_put t entry.0 entry.1) s entries

-- the pairs are stored by updates one after another, each of the dictionary that the one before it left; one that is refused is
-- the last
abbrev pub IsBuild : LayoutKind → ℕ → Dictionary → List Entry → Result (Unit {0}) CedarError → Dictionary → Type 0
IsBuild layout slots before [] result after = (result ≡ Ok tt) × (after ≡ before)
IsBuild layout slots before (e ∷ es) result after =
    ((between : Dictionary) × IsUpdate layout slots before between e.0 e.1 (Ok tt) × IsBuild layout slots between es result after)
    ⊎ ((refusal : CedarError) × (result ≡ Err refusal) × IsUpdate layout slots before after e.0 e.1 result)

-- the key of the pair at an index of some pairs
abbrev pub path_at : List Entry → ℕ → List ℕ
path_at [] i = []
path_at (e ∷ es) zero = e.0
path_at (e ∷ es) (suc i) = path_at es i

-- the refusal is a shortage, and the pairs before one whose key isn't held then are stored. Memory was wanted if all
-- slots were in use and there might be more, and slots if there might not
pub record IsRefusedBuild (slots : ℕ) (before after : Dictionary) (entries : List Entry) (refusal : CedarError) : Type 0 where
  pub shortage : IsShortage refusal
  pub front : (m : ℕ) × (m < length entries) × (after.state ≡ all_stored before.state (take m entries)) × (number_at after.state.tree (path_at entries m) ≡ None)
  pub memory : refusal ≡ Memory → (after.size ≡ after.capacity) × (after.capacity < slots)
  pub limit : refusal ≡ SlotLimit → after.size ≡ slots

-- whether a call succeeded, without its result
abbrev pub outcome : {X : Type 0} → Result X CedarError → Result (Unit {0}) CedarError
outcome (Ok x) = Ok tt
outcome (Err e) = Err e
