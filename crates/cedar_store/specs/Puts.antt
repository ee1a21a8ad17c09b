-- What a put returns, and what it leaves.
use Rattle.std.specs.Prelude.{◌≡◌, ℕ, ℤ, List, None, IfSome, IfErr, OnOk, OnErr, Result, Err}
use Rattle.cedarwood.specs.Tree.{number_at}
use Rattle.cedarwood.specs.State.{after_put, State}
use Rattle.cedarwood.specs.declared.error.CedarError.{CedarError}
use Rattle.cedarwood.specs.Fault.{fault, IsShortage}

-- what a put of the value v at a key returns, and what it leaves
pub record IsPut (before after : State) (key : List ℕ) (v : ℤ) (result : Result (Unit {0}) CedarError) : Type 0 where
  pub faulty : IfSome (fault key v) (λ e. result ≡ Err e)
  pub ok : OnOk result (after ≡ after_put before key v)
  pub err : OnErr result (after ≡ before)
  pub refused : fault key v ≡ None → IfErr result (λ e. IsShortage e × (number_at before.tree key ≡ None))
