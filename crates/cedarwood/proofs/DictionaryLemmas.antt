-- A dictionary's value follows from its table.
use Rattle.std.proofs.Common.{◌≡◌, ℕ, ℤ, Bool, false, List, length, Option, Some, None, IfSome, IfOk, Result, Ok, Err, option_map, true, cond, inl, inr, refl, ap, subst, sym, arith}
use Rattle.std.proofs.lemmas.Bool.Decides.{eqb_tells}
use Rattle.cedar_tree.specs.Tree.{Tree, IsSound}
use Rattle.cedar_tree.specs.Queries.{exact}
use Rattle.cedar_tree.specs.Tree.{number_at}
use Rattle.cedar_tree.proofs.TreeLemmas.{all-number_at}
use Rattle.cedar_slots.specs.Places.{IsSlotLimit}
use Rattle.cedar_model.specs.Table.TableFields.{Fields}
use Rattle.cedar_model.specs.Meaning.WellFormed.{IsWellFormed, tree_of, is_value}
use Rattle.cedar_model.proofs.MeaningLemmas.TreeOf.{tree_of_is}
use Rattle.cedarwood.specs.declared.error.CedarError.{CedarError}
use Rattle.cedarwood.specs.declared.error.CedarError.TheVariants.{InvalidValue}
use Rattle.cedarwood.specs.Limits.{IsLimit}
use Rattle.cedarwood.specs.Fault.{value_fault}
use Rattle.cedarwood.proofs.FaultLemmas.{some_or_none}

-- there may be 2^30 slots
pub default_limit : IsSlotLimit 1073741824
default_limit = record { power = (22, refl); most = omega arith }

-- so a limit that a call takes is one that a table takes
pub limit_of : (slots : ℕ) → IsLimit slots → IsSlotLimit slots
limit_of slots allowed = elim (eqb_tells slots 1073741824) [
  | inl same ↦ subst IsSlotLimit (sym same.1) default_limit
  | inr other ↦ allowed other.1
]

pub no_number : (slots : ℕ) (T : Fields) → IsWellFormed slots T → (tree_of T).number ≡ None
no_number slots T w = ap (λ (t : Tree). t.number) (tree_of_is T (tree_of T).children w.stands)

pub is_sound : (slots : ℕ) (T : Fields) → IsWellFormed slots T → IsSound (tree_of T)
is_sound slots T w = (no_number slots T w, w.sound)

pub no_value_fault : (v : ℤ) → is_value v ≡ true → value_fault v ≡ None
no_value_fault v h = ap (λ b. cond b None (Some (InvalidValue v))) h

pub is_value_of : (v : ℤ) → value_fault v ≡ None → is_value v ≡ true
is_value_of v h = tested (is_value v) (InvalidValue v) h
  where
    tested : (b : Bool) (e : CedarError) → cond b None (Some e) ≡ None → b ≡ true
    tested true e h = refl
    tested false e h = absurd (some_or_none e h)

all_found : (o : Option ℤ) (n : ℕ) → IfSome o (λ v. is_value v ≡ true) → IfSome {T = ℤ × ℕ} (option_map (λ v. (v, n)) o) (λ found. value_fault found.0 ≡ None)
all_found None n h = tt
all_found (Some v) n h = no_value_fault v h

-- each value that is found is one that can be stored
pub found_in_range : (slots : ℕ) (T : Fields) (key : List ℕ) → IsWellFormed slots T → IfSome (exact (tree_of T) key) (λ found. value_fault found.0 ≡ None)
found_in_range slots T key w =
    all_found (number_at (tree_of T) key) (length key)
    (all-number_at (λ v. is_value v ≡ true) (tree_of T) key (no_number slots T w) w.values)

-- and so is each number that is held
pub held_in_range : (slots : ℕ) (T : Fields) (key : List ℕ) → IsWellFormed slots T → IfSome (number_at (tree_of T) key) (λ v. value_fault v ≡ None)
held_in_range slots T key w =
    by_number (number_at (tree_of T) key) (all-number_at (λ v. is_value v ≡ true) (tree_of T) key (no_number slots T w) w.values)
  where
    by_number : (o : Option ℤ) → IfSome o (λ v. is_value v ≡ true) → IfSome o (λ v. value_fault v ≡ None)
    by_number None h = tt
    by_number (Some v) h = no_value_fault v h

pub if_ok_always : {X E : Type 0} (P : Type 0) (r : Result X E) → P → IfOk r (λ _. P)
if_ok_always P (Ok x) p = p
if_ok_always P (Err e) p = tt
