-- What a pair without a fault is.
use Rattle.std.proofs.Common.{◌≡◌, ℕ, ◌<◌, ◌==◌, List, [], ◌∷◌, length, get_or, ℤ, Option, Some, None, IfSome, Result, Ok, Err, position, option_map, refl, arith}
use Rattle.cedar_tree.specs.Tree.{IsKey}
use Rattle.cedar_tree.proofs.EntryLemmas.Keys.{path_without_nul}
use Rattle.cedar_tree.proofs.GeneralLemmas.{position-None}
use Rattle.cedarwood.specs.declared.error.CedarError.{CedarError}
use Rattle.cedarwood.specs.declared.error.CedarError.TheVariants.{EmptyKey, NulByte}
use Rattle.cedarwood.specs.Fault.{key_fault, value_fault, fault, or_else, IsInRange}

ok_or_err : {T : Type 0} (r : Result T CedarError) (x : T) (e : CedarError) → r ≡ Ok x → r ≡ Err e → ⊥
ok_or_err r x e p q = cc

pub some_or_none : {T : Type 0} (x : T) → ◌≡◌ {A = Option T} (Some x) None → ⊥
some_or_none x h = cc

-- what was not refused has no fault
pub no_fault : {T : Type 0} (f : Option CedarError) (r : Result T CedarError) (x : T) → IfSome f (λ e. r ≡ Err e) → r ≡ Ok x → f ≡ None
no_fault None r x h ok = refl
no_fault (Some e) r x h ok = absurd (ok_or_err r x e ok h)

-- a call that was obeyed met none
pub fault_free : {T : Type 0} (f : Option CedarError) (x : T) → IfSome f (λ e. ◌≡◌ {A = Result T CedarError} (Ok x) (Err e)) → f ≡ None
fault_free f x h = no_fault f (Ok x) x h refl

pub key_part : (a b : Option CedarError) → or_else a b ≡ None → (a ≡ None) × (b ≡ None)
key_part None b h = (refl, h)
key_part (Some e) b h = absurd (some_or_none e h)

pub in_range_of : (key : List ℕ) (v : ℤ) → fault key v ≡ None → IsInRange v
in_range_of key v h = (key_part (key_fault key) (value_fault v) h).1

not_mapped : (f : ℕ → CedarError) (o : Option ℕ) → option_map f o ≡ None → o ≡ None
not_mapped f None h = refl
not_mapped f (Some n) h = absurd (some_or_none (f n) h)

-- bytes without a fault are a key
pub key_of : (key : List ℕ) (v : ℤ) → fault key v ≡ None → ((i : ℕ) → get_or key i 0 < 256) → IsKey key
key_of [] v h bytes = absurd (some_or_none EmptyKey (key_part (key_fault []) (value_fault v) h).0)
key_of (b ∷ key) v h bytes =
    path_without_nul (b ∷ key) (position-None (λ c. c == 0) (b ∷ key) (not_mapped NulByte (position (λ c. c == 0) (b ∷ key)) (key_part (key_fault (b ∷ key)) (value_fault v) h).0)) bytes

-- and have one byte at least
pub key_without_fault : (key : List ℕ) (v : ℤ) → fault key v ≡ None → 0 < length key
key_without_fault [] v h = absurd (some_or_none EmptyKey h)
key_without_fault (b ∷ key) v h = omega arith
