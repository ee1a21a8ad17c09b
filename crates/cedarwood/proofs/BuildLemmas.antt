-- What a build leaves, by the updates that it is made of.
use Rattle.std.proofs.Common.{◌≡◌, ℕ, suc, ◌+◌, ◌<◌, ◌≤◌, ℤ, inl, inr, List, [], ◌∷◌, length, map, take, drop, get_or, Option, Some, None, IfSome, IsSome, Result, Ok, Err, OnOk, IfErr, refl, sym, ap, subst, ◌∙◌, arith, false, true}
use Rattle.std.proofs.lemmas.List.{drop_all, drop_more}
use Rattle.cedar_tree.specs.Tree.{number_at}
use Rattle.cedar_tree.specs.Queries.{Entry}
use Rattle.cedar_tree.specs.State.{State}
use Rattle.cedarwood.specs.declared.error.CedarError.{CedarError}
use Rattle.cedarwood.specs.Builds.{all_stored, first_fault, IsBuild, IsRefusedBuild}
use Rattle.cedar_model.specs.Table.Layouts.{LayoutKind}
use Rattle.cedarwood.specs.Dictionary.{Dictionary}
use Rattle.cedarwood.specs.Fault.{fault}
use Rattle.cedarwood.specs.Updates.{IsUpdate}
use Rattle.cedarwood.proofs.FaultLemmas.{key_part}

ok_no_err : {X : Type 0} (x : X) (e : CedarError) → ◌≡◌ {A = Result X CedarError} (Ok x) (Err e) → ⊥
ok_no_err x e h = cc

-- ---- the updates

-- an update of the pair at an index
pub update_at : {X : Type 0} (f : X → Entry) (ps : List X) (i : ℕ) (d : X) (layout : LayoutKind) (slots : ℕ) (s t : Dictionary) (key : List ℕ) (v : ℤ) (r r' : Result (Unit {0}) CedarError) → d ≡ get_or ps i d
    → key ≡ (f d).0 → v ≡ (f d).1 → r ≡ r' → IsUpdate layout slots s t key v r → IsUpdate layout slots s t (f (get_or ps i d)).0 (f (get_or ps i d)).1 r'
update_at {X} f ps i d layout slots s t key v r r' item keys values results u =
    subst (λ (x : X). IsUpdate layout slots s t (f x).0 (f x).1 r') item
    (subst (λ k. IsUpdate layout slots s t k (f d).1 r') keys
    (subst (λ (w : ℤ). IsUpdate layout slots s t key w r') values
    (subst (λ (x : Result (Unit {0}) CedarError). IsUpdate layout slots s t key v x) results u)))

-- none is left
pub none_left : {X : Type 0} (f : X → Entry) (ps : List X) (i : ℕ) (layout : LayoutKind) (slots : ℕ) (s : Dictionary) → length ps ≤ i → IsBuild layout slots s (map f (drop i ps)) (Ok tt) s
none_left {X} f ps i layout slots s h = subst (λ (xs : List X). IsBuild layout slots s (map f xs) (Ok tt) s) (sym (drop_all i ps h)) (refl, refl)

-- one pair more is stored
pub stored_more : {X : Type 0} (f : X → Entry) (ps : List X) (i : ℕ) (d : X) (layout : LayoutKind) (slots : ℕ) (s t : Dictionary) (r : Result (Unit {0}) CedarError) (a : Dictionary) → i < length ps
    → IsUpdate layout slots s t (f (get_or ps i d)).0 (f (get_or ps i d)).1 (Ok tt) → IsBuild layout slots t (map f (drop (i + 1) ps)) r a → IsBuild layout slots s (map f (drop i ps)) r a
stored_more {X} f ps i d layout slots s t r a h u rest =
    subst (λ (xs : List X). IsBuild layout slots s (map f xs) r a) (sym (drop_more ps i d h)) (inl (t, u, rest))

-- the pair at an index is refused
pub refused_here : {X : Type 0} (f : X → Entry) (ps : List X) (i : ℕ) (d : X) (layout : LayoutKind) (slots : ℕ) (s t : Dictionary) (r : Result (Unit {0}) CedarError) (e : CedarError) → i < length ps → r ≡ Err e
    → IsUpdate layout slots s t (f (get_or ps i d)).0 (f (get_or ps i d)).1 r → IsBuild layout slots s (map f (drop i ps)) r t
refused_here {X} f ps i d layout slots s t r e h is u =
    subst (λ (xs : List X). IsBuild layout slots s (map f xs) r t) (sym (drop_more ps i d h)) (inr (e, is, u))

-- ---- what they leave

pub built : (layout : LayoutKind) (slots : ℕ) (s : Dictionary) (es : List Entry) (r : Result (Unit {0}) CedarError) (a : Dictionary) → IsBuild layout slots s es r a → OnOk r (a.state ≡ all_stored s.state es)
built layout slots s es (Err x) a h = tt
built layout slots s [] (Ok u) a h = ap (λ (d : Dictionary). d.state) h.1
built layout slots s (e ∷ es) (Ok u) a h = elim h [
  | inl m ↦ built layout slots m.0 es (Ok u) a m.2 ∙ ap (λ (t : State). all_stored t es) m.1.ok
  | inr x ↦ absurd (ok_no_err u x.0 x.1)
]

stopped : (layout : LayoutKind) (slots : ℕ) (s : Dictionary) (es : List Entry) (x : CedarError) (a : Dictionary) → first_fault es ≡ None → IsBuild layout slots s es (Err x) a → IsRefusedBuild slots s a es x
stopped layout slots s [] x a fine h = absurd (ok_no_err tt x (sym h.0))
stopped layout slots s (e ∷ es) x a fine h =
    let parts = key_part (fault e.0 e.1) (first_fault es) fine in
    elim h [
      | inl m ↦ let k = stopped layout slots m.0 es x a parts.1 m.2 in record {
        shortage = k.shortage;
        front = (
          suc k.front.0,
          omega (arith, k.front.1),
          k.front.2 ∙ ap (λ (t : State). all_stored t (take k.front.0 es)) m.1.ok,
          k.front.3,
        );
        memory = k.memory;
        limit = k.limit;
      }
      | inr y ↦ let u : IsUpdate layout slots s a e.0 e.1 (Err x) = y.2 in let refused = u.refused parts.0 in record {
        shortage = refused.0;
        front = (
          0,
          omega arith,
          u.err,
          subst (λ (t : State). number_at t.tree e.0 ≡ None) (sym u.err) refused.1,
        );
        memory = λ is. u.memory (ap Err is);
        limit = λ is. u.limit (ap Err is);
      }
    ]

pub kept : (layout : LayoutKind) (slots : ℕ) (s : Dictionary) (es : List Entry) (r : Result (Unit {0}) CedarError) (a : Dictionary) → IsBuild layout slots s es r a → a.max_trial ≡ s.max_trial
kept layout slots s [] r a h = ap (λ (d : Dictionary). d.max_trial) h.1
kept layout slots s (e ∷ es) r a h = elim h [
  | inl m ↦ kept layout slots m.0 es r a m.2 ∙ m.1.max_trial
  | inr y ↦ y.2.max_trial
]

pub limit_kept : (layout : LayoutKind) (slots : ℕ) (s : Dictionary) (es : List Entry) (r : Result (Unit {0}) CedarError) (a : Dictionary) → IsBuild layout slots s es r a → a.search_limit ≡ s.search_limit
limit_kept layout slots s [] r a h = ap (λ (d : Dictionary). d.search_limit) h.1
limit_kept layout slots s (e ∷ es) r a h = elim h [
  | inl m ↦ limit_kept layout slots m.0 es r a m.2 ∙ m.1.search_limit
  | inr y ↦ y.2.search_limit
]

-- ---- in the words of a build's clauses

pub none_is_some : {X : Type 0} (o : Option X) → o ≡ None → IsSome o → ⊥
none_is_some {X} o none some = let apart : false ≡ true = subst (λ (x : Option X). IsSome x) none some in cc

-- pairs that passed the test have no fault
pub fine_has_fault : {T : Type 0} (f : Option CedarError) → f ≡ None → IsSome f → T
fine_has_fault {T} f fine some = absurd (none_is_some f fine some)

err_ok : (P : Type 0) (r : Result (Unit {0}) CedarError) (e : CedarError) → r ≡ Err e → OnOk r P
err_ok P r e is = subst (λ (x : Result (Unit {0}) CedarError). OnOk x P) (sym is) tt

by_fault : (f : Option CedarError) (layout : LayoutKind) (slots : ℕ) (s : Dictionary) (es : List Entry) (r : Result (Unit {0}) CedarError) (a : Dictionary) → IfSome f (λ e. r ≡ Err e)
    → (f ≡ None → IsBuild layout slots s es r a) → OnOk r (a.state ≡ all_stored s.state es)
by_fault None layout slots s es r a faulty h = built layout slots s es r a (h refl)
by_fault (Some e) layout slots s es r a faulty h = err_ok (a.state ≡ all_stored s.state es) r e faulty

pub all_are_stored : (layout : LayoutKind) (slots : ℕ) (s : Dictionary) (es : List Entry) (r : Result (Unit {0}) CedarError) (a : Dictionary) → IfSome (first_fault es) (λ e. r ≡ Err e)
    → (first_fault es ≡ None → IsBuild layout slots s es r a) → OnOk r (a.state ≡ all_stored s.state es)
all_are_stored layout slots s es r a faulty h = by_fault (first_fault es) layout slots s es r a faulty h

pub front_is_stored : (layout : LayoutKind) (slots : ℕ) (s : Dictionary) (es : List Entry) (r : Result (Unit {0}) CedarError) (a : Dictionary) → first_fault es ≡ None
    → (first_fault es ≡ None → IsBuild layout slots s es r a) → IfErr r (IsRefusedBuild slots s a es)
front_is_stored layout slots s es (Ok u) a fine h = tt
front_is_stored layout slots s es (Err x) a fine h = stopped layout slots s es x a fine (h fine)

trial_by_fault : (f : Option CedarError) (layout : LayoutKind) (slots : ℕ) (s : Dictionary) (es : List Entry) (r : Result (Unit {0}) CedarError) (a : Dictionary) → (IsSome f → a ≡ s)
    → (f ≡ None → IsBuild layout slots s es r a) → a.max_trial ≡ s.max_trial
trial_by_fault None layout slots s es r a unchanged h = kept layout slots s es r a (h refl)
trial_by_fault (Some e) layout slots s es r a unchanged h = ap (λ (d : Dictionary). d.max_trial) (unchanged refl)

pub trial_is_kept : (layout : LayoutKind) (slots : ℕ) (s : Dictionary) (es : List Entry) (r : Result (Unit {0}) CedarError) (a : Dictionary) → (IsSome (first_fault es) → a ≡ s)
    → (first_fault es ≡ None → IsBuild layout slots s es r a) → a.max_trial ≡ s.max_trial
trial_is_kept layout slots s es r a unchanged h = trial_by_fault (first_fault es) layout slots s es r a unchanged h

limit_by_fault : (f : Option CedarError) (layout : LayoutKind) (slots : ℕ) (s : Dictionary) (es : List Entry) (r : Result (Unit {0}) CedarError) (a : Dictionary) → (IsSome f → a ≡ s)
    → (f ≡ None → IsBuild layout slots s es r a) → a.search_limit ≡ s.search_limit
limit_by_fault None layout slots s es r a unchanged h = limit_kept layout slots s es r a (h refl)
limit_by_fault (Some e) layout slots s es r a unchanged h = ap (λ (d : Dictionary). d.search_limit) (unchanged refl)

pub limit_is_kept : (layout : LayoutKind) (slots : ℕ) (s : Dictionary) (es : List Entry) (r : Result (Unit {0}) CedarError) (a : Dictionary) → (IsSome (first_fault es) → a ≡ s)
    → (first_fault es ≡ None → IsBuild layout slots s es r a) → a.search_limit ≡ s.search_limit
limit_is_kept layout slots s es r a unchanged h = limit_by_fault (first_fault es) layout slots s es r a unchanged h
