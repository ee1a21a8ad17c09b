-- The first entry of a walk and the last one.
use Rattle.std.proofs.Common.{◌≡◌, ◌<◌, ◌∙◌, ap, arith, ℕ, ℤ, List, [], ◌∷◌, ◌++◌, length, IfErr, IfOk, MatchOption, None, Some, Option, Ok, Err, Result, refl, subst, sym}
use Rattle.std.specs.Prelude.{IfSome, OnErr, slice_get}
use Rattle.std.specs.List.{last_or}
use Rattle.std.proofs.lemmas.List.{length-append}
use Rattle.cedar_tree.specs.Tree.{Tree}
use Rattle.cedar_tree.specs.Queries.{Entry, walk}
use Rattle.cedar_tree.proofs.PredictLemmas.{filter-every}
use Rattle.cedar_walk.specs.Keys.{KeyOutgrows}
use Rattle.cedar_walk.specs.Ranges.{entries_with}
use Rattle.cedarwood.specs.Ends.{first_entry, last_entry}
use Rattle.cedarwood.specs.declared.error.CedarError.{CedarError}
use Rattle.cedarwood.specs.declared.error.CedarError.TheVariants.{Memory}

pub entries_with_empty : (t : Tree) → entries_with t [] ≡ walk t
entries_with_empty t = filter-every (walk t)

-- what a walk over all entries gives first is the first entry
module _ (t : Tree) (old new : List Entry) (all : old ≡ entries_with t []) (key : List ℕ) where
  pub first_found : (r : Result (Option ℤ) CedarError) → IfOk r (λ found. MatchOption found ((old ≡ []) × (new ≡ [])) (λ value. old ≡ (key, value) ∷ new))
      → IfOk r (λ found. MatchOption found (walk t ≡ []) (λ value. first_entry t ≡ Some (key, value)))
  first_found (Ok None) h = sym (entries_with_empty t) ∙ sym all ∙ h.0
  first_found (Ok (Some v)) h = ap (λ (es : List Entry). slice_get es 0) (sym (entries_with_empty t) ∙ sym all ∙ h)
  first_found (Err e) h = tt

  pub first_refused : (r : Result (Option ℤ) CedarError) → IfErr r (λ e. (e ≡ Memory) × (new ≡ old) × (0 < length old)) → IfErr r (λ e. (e ≡ Memory) × (0 < length (walk t)))
  first_refused (Ok found) h = tt
  first_refused (Err e) h = (h.0, let long = ap length (sym (entries_with_empty t) ∙ sym all) in omega (arith, long, h.2))

  pub first_full : (room : ℕ) (r : Result (Option ℤ) CedarError) → OnErr r (KeyOutgrows room old) → OnErr r (KeyOutgrows room (walk t))
  first_full room (Ok found) h = tt
  first_full room (Err e) h = subst (KeyOutgrows room) (all ∙ entries_with_empty t) h

last_behind : (o : Option Entry) (before : List Entry) (e : Entry) → last_or o (before ++ e ∷ []) ≡ Some e
last_behind o [] e = refl
last_behind o (x ∷ before) e = last_behind (Some x) before e

pub last_of_walk : (t : Tree) (before : List Entry) (e : Entry) → walk t ≡ before ++ e ∷ [] → last_entry t ≡ Some e
last_of_walk t before e same = ap (last_or None) same ∙ last_behind None before e

pub some_in_walk : (t : Tree) (before : List Entry) (e : Entry) → walk t ≡ before ++ e ∷ [] → 0 < length (walk t)
some_in_walk t before e same = let long = ap length same in omega (arith, long, length-append before (e ∷ []))

-- a key that is too long for some room is that of the last entry
pub last_outgrows : (room : ℕ) (t : Tree) (e : Entry) → last_entry t ≡ Some e → room < length e.0 → IfSome (last_entry t) (λ (x : Entry). room < length x.0)
last_outgrows room t e is long = subst (λ (o : Option Entry). IfSome o (λ (x : Entry). room < length x.0)) (sym is) long
