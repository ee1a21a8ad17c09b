-- A put is taken back.
use Rattle.std.specs.Prelude.{ℤ, Option, Some, None, Result, Ok, Err, OnOk, IfErr}
use Rattle.std.proofs.Common.{◌≡◌, ℕ, List, sym, ◌∙◌, ap}
use Rattle.cedarwood.specs.Tree.{Tree, number_at}
use Rattle.cedarwood.specs.State.{State, after_put, after_erase}
use Rattle.cedarwood.proofs.TreeLemmas.{cut-put, put-put, put_held, number_at-put_same}
use Rattle.cedarwood.specs.declared.error.CedarError.{CedarError}
use Rattle.cedarwood.specs.Fault.{fault, or_else, IsShortage}
use Rattle.cedar_store.specs.Undo.{IsPutOf}
use Rattle.std.proofs.lemmas.Option.{none-some}

abbrev with_tree : (s : State) → Tree → State
with_tree s t = record { tree = t; ordered = s.ordered }

pub by_erasure : (s t : State) (key : List ℕ) → IsPutOf s key None t → after_erase t key ≡ s
by_erasure s t key p =
    ap (λ u. after_erase u key) p.put.1
    ∙ ap (with_tree s) (cut-put s.tree s.ordered key p.put.0 p.sound.1 (sym p.was))

pub by_update : (s t : State) (key : List ℕ) (v : ℤ) → IsPutOf s key (Some v) t → after_put t key v ≡ s
by_update s t key v p =
    ap (λ u. after_put u key v) p.put.1
    ∙ ap (with_tree s) (put-put s.tree s.ordered key p.put.0 v ∙ put_held s.tree s.ordered key v (sym p.was))

pub no_fault : (s t : State) (key : List ℕ) (v : ℤ) → IsPutOf s key (Some v) t → fault key v ≡ None
no_fault s t key v p = (λ i. or_else (p.key_sound i) (p.in_range i))

is_held : (s t : State) (key : List ℕ) (v : ℤ) (p : IsPutOf s key (Some v) t) → number_at t.tree key ≡ Some p.put.0
is_held s t key v p = ap (λ u. number_at u.tree key) p.put.1 ∙ number_at-put_same s.tree s.ordered key p.put.0

-- an update of a key that is held isn't refused
granted : (r : Result (Unit {0}) CedarError) (o : Option ℤ) (w : ℤ) (P : Type 0) → o ≡ Some w → IfErr r (λ e. IsShortage e × (o ≡ None)) → OnOk r P → P
granted (Ok x) o w P held refused ok = ok
granted (Err e) o w P held refused ok = absurd (none-some w (sym refused.1 ∙ held))

pub put_back : (s t u : State) (key : List ℕ) (v w : ℤ) (r : Result (Unit {0}) CedarError) → w ≡ v → IsPutOf s key (Some v) t
    → (fault key w ≡ None → IfErr r (λ e. IsShortage e × (number_at t.tree key ≡ None))) → OnOk r (u ≡ after_put t key w) → u ≡ s
put_back s t u key v w r same p refused ok =
    granted r (number_at t.tree key) p.put.0 (u ≡ after_put t key w) (is_held s t key v p) (refused (ap (fault key) same ∙ no_fault s t key v p)) ok
    ∙ ap (after_put t key) same
    ∙ by_update s t key v p
