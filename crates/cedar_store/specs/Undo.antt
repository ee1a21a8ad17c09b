-- A put that can be taken back.
use Rattle.std.specs.Prelude.{◌≡◌, ℤ, List, ℕ, Option, None, IfSome}
use Rattle.cedarwood.specs.State.{after_put, State}
use Rattle.cedarwood.specs.Tree.{IsSound, number_at}
use Rattle.cedarwood.specs.Fault.{key_fault, value_fault}

-- the state `after` is `before` after a put of v at a key, which held this number
pub record IsPutOf (before : State) (key : List ℕ) (held : Option ℤ) (after : State) : Type 0 where
  pub put : (v : ℤ) × (after ≡ after_put before key v)
  pub was : held ≡ number_at before.tree key
  pub sound : IsSound before.tree
  pub key_sound : key_fault key ≡ None
  pub in_range : IfSome held (λ v. value_fault v ≡ None)
