-- Pairs of C's as the dictionary's own calls take them.
use Rattle.std.proofs.Common.{◌≡◌, ◌⊎◌, inl, inr, ℕ, ◌<◌, ◌≤◌, List, [], ◌∷◌, length, map, take, Option, Some, None, IsSome, IfSome, IfErr, OnOk, OnErr, Result, Ok, Err, refl, sym, subst, ap, ◌∙◌, arith}
use Rattle.std.proofs.lemmas.List.{take_all}
use Rattle.cedarwood.specs.Queries.{Entry}
use Rattle.cedarwood.specs.declared.error.CedarError.{CedarError}
use Rattle.cedarwood.specs.declared.error.CedarError.TheVariants.{Memory, SlotLimit}
use Rattle.cedarwood.specs.Sorted.{entries_of}
use Rattle.cedarwood.specs.Tree.{number_at}
use Rattle.cedarwood.specs.Builds.{all_stored, first_fault, path_at, IsRefusedBuild}
use Rattle.cedarwood.specs.Dictionary.{Dictionary}
use Rattle.cedarwood.specs.Fault.{fault, or_else, IsShortage}
use Rattle.cedarwood.proofs.UpdateLemmas.{fault_no_shortage}
use Rattle.cedar_c.specs.Pairs.{entries_in, taken_pair}
use Rattle.cedar_c.specs.declared.pairs.Pair.{Pair}

pub entries_taken : (pairs : List Pair) → entries_of (map taken_pair pairs) ≡ entries_in pairs
entries_taken [] = refl
entries_taken (p ∷ ps) = ap (λ es. (p.key.now, p.value) ∷ es) (entries_taken ps)

err_same : (e f : CedarError) → ◌≡◌ {A = Result (Unit {0}) CedarError} (Err e) (Err f) → e ≡ f
err_same e f h = cc

chosen : (x : Entry) (later : Option CedarError) → ((e : CedarError) → later ≡ Some e → IsShortage e → ⊥) → (o : Option CedarError) → fault x.0 x.1 ≡ o
    → (e : CedarError) → or_else o later ≡ Some e → IsShortage e → ⊥
chosen x later fair (Some f) is e same = let f_is : f ≡ e = cc in fault_no_shortage x.0 x.1 e (is ∙ ap (λ (y : CedarError). Some y) f_is)
chosen x later fair None is e same = fair e same

-- the first fault of some pairs is no want of memory or slots
pub first_no_shortage : (es : List Entry) (e : CedarError) → first_fault es ≡ Some e → IsShortage e → ⊥
first_no_shortage [] e h = absurd cc
first_no_shortage (x ∷ es) e h = chosen x (first_fault es) (first_no_shortage es) (fault x.0 x.1) refl e h

module _ (slots : ℕ) (before after : Dictionary) (es : List Entry) where
  -- a front of the pairs is stored
  pub front_stored : (o : Option CedarError) (result : Result (Unit {0}) CedarError)
      → (IsSome o → after ≡ before) → OnOk result (after.state ≡ all_stored before.state es) → (o ≡ None → IfErr result (IsRefusedBuild slots before after es))
      → (m : ℕ) × (m ≤ length es) × (after.state ≡ all_stored before.state (take m es))
  front_stored (Some f) result same ok err = (0, omega arith, ap (λ (d : Dictionary). d.state) (same refl))
  front_stored None (Ok x) same ok err =
      let whole : length es ≤ length es = omega arith in (length es, whole, ok ∙ ap (all_stored before.state) (sym (take_all (length es) es whole)))
  front_stored None (Err e) same ok err = let front = (err refl).front in let below = front.1 in (front.0, omega (arith, below), front.2)

  -- slots are wanted only where all are in use
  pub all_in_use : (o : Option CedarError) → ((e : CedarError) → o ≡ Some e → IsShortage e → ⊥) → (result : Result (Unit {0}) CedarError)
      → IfSome o (λ e. result ≡ Err e) → (o ≡ None → IfErr result (IsRefusedBuild slots before after es)) → result ≡ Err SlotLimit → after.size ≡ slots
  all_in_use (Some f) fair result is err limit = let same : f ≡ SlotLimit = err_same f SlotLimit (sym is ∙ limit) in absurd (fair f refl (subst IsShortage (sym same) tt))
  all_in_use None fair (Ok x) is err limit = absurd cc
  all_in_use None fair (Err e) is err limit = (err refl).limit (err_same e SlotLimit limit)

  -- after an error nothing has changed, or the pairs before one whose key isn't held are stored
  pub part_stored : (o : Option CedarError) (result : Result (Unit {0}) CedarError) → (IsSome o → after ≡ before) → (o ≡ None → IfErr result (IsRefusedBuild slots before after es))
      → OnErr result ((after ≡ before) ⊎ ((m : ℕ) × (m < length es) × (after.state ≡ all_stored before.state (take m es)) × (number_at after.state.tree (path_at es m) ≡ None)))
  part_stored o (Ok x) same err = tt
  part_stored (Some f) (Err e) same err = inl (same refl)
  part_stored None (Err e) same err = inr (err refl).front

  -- a fault keeps all from being stored
  pub faulty_keeps : (o : Option CedarError) (result : Result (Unit {0}) CedarError)
      → (IsSome o → after ≡ before) → IfSome o (λ e. result ≡ Err e)
      → IfSome o (λ e. ((result ≡ Err e) ⊎ (result ≡ Err Memory)) × (after ≡ before))
  faulty_keeps None result same is = tt
  faulty_keeps (Some f) result same is = (inl is, same refl)

  pub refused_shortage : (result : Result (Unit {0}) CedarError) → IfErr result (IsRefusedBuild slots before after es) → IfErr result IsShortage
  refused_shortage (Ok x) h = tt
  refused_shortage (Err e) h = h.shortage

-- a fault is returned, or want of memory for the list
pub fault_answered : {T : Type 0} (o : Option CedarError) (result : Result T CedarError) → IfSome o (λ e. result ≡ Err e)
    → IfSome o (λ e. (result ≡ Err e) ⊎ (result ≡ Err Memory))
fault_answered None result h = tt
fault_answered (Some e) result h = inl h
