-- The state that the records of a file make, one after another.
use Rattle.std.specs.Prelude.{◌||◌, not, is_some, option_map, option_and_then, Option, Some, None}
use Rattle.std.proofs.Common.{◌≡◌, inl, inr, ⊎_elim, ℕ, true, List, [], ◌∷◌, ◌++◌, refl, sym, ◌∙◌, ap}
use Rattle.std.proofs.lemmas.Bool.{false≢true}
use Rattle.cedar_journal.specs.Files.{file_payloads, with_payload}
use Rattle.cedar_journal.specs.Journal.{IsBeforeOrAfter}
use Rattle.cedarwood.specs.State.{State, new_state}
use Rattle.cedar_store.specs.Changes.{Change, changes_of, all_changed, after, after_payloads}
use Rattle.cedar_store.specs.Files.{state_of, has_no_change, IsCorrupt, IsEither}

pub none_is : {A : Type 0} {a : A} → None ≡ Some a → ⊥
none_is e = absurd (false≢true (ap is_some e))

-- ---- a record more

no_step : (o : Option State) → option_and_then (λ t. Some t) o ≡ o
no_step None = refl
no_step (Some t) = refl

one_step : (ps : List (List ℕ)) (p : List ℕ) → ((t : State) → after_payloads t (ps ++ p ∷ []) ≡ option_and_then (λ u. after u p) (after_payloads t ps))
    → (o : Option State) → option_and_then (λ t. after_payloads t (ps ++ p ∷ [])) o ≡ option_and_then (λ u. after u p) (option_and_then (λ t. after_payloads t ps) o)
one_step ps p ih None = refl
one_step ps p ih (Some t) = ih t

pub replayed_more : (ps : List (List ℕ)) (p : List ℕ) (s : State) → after_payloads s (ps ++ p ∷ []) ≡ option_and_then (λ u. after u p) (after_payloads s ps)
replayed_more [] p s = no_step (after s p)
replayed_more (q ∷ ps) p s = one_step ps p (replayed_more ps p) (after s q)

with_one : (r : Option (List (List ℕ))) (p : List ℕ) (s : State) → option_and_then (after_payloads new_state) r ≡ Some s
    → option_and_then (after_payloads new_state) (with_payload p r) ≡ after s p
with_one None p s is = absurd (none_is is)
with_one (Some ps) p s is = replayed_more ps p new_state ∙ ap (option_and_then (λ u. after u p)) is

pub state_added : (file c payload : List ℕ) (s t : State) → state_of file ≡ Some s → after s payload ≡ Some t → file_payloads c ≡ with_payload payload (file_payloads file) → state_of c ≡ Some t
state_added file c payload s t is told more = ap (option_and_then (after_payloads new_state)) more ∙ with_one (file_payloads file) payload s is ∙ told

-- what a crash leaves of the records represents the state from before, or the one after the change
pub either : (file c payload : List ℕ) (s t : State) → state_of file ≡ Some s → after s payload ≡ Some t → IsBeforeOrAfter (file_payloads file) payload c → IsEither s t c
either file c payload s t is told outcome = ⊎_elim
    (λ before. inl (ap (option_and_then (after_payloads new_state)) before ∙ is))
    (λ more. inr (state_added file c payload s t is told more))
    outcome

-- ---- a record that is no change

lacks : (ps : List (List ℕ)) → ((t : State) → after_payloads t ps ≡ None → has_no_change ps ≡ true)
    → (s : State) (o : Option (List Change)) → option_and_then (λ t. after_payloads t ps) (option_map (all_changed s) o) ≡ None → (not (is_some o) || has_no_change ps) ≡ true
lacks ps ih s None e = refl
lacks ps ih s (Some changes) e = ih (all_changed s changes) e

pub lacks_change : (ps : List (List ℕ)) (s : State) → after_payloads s ps ≡ None → has_no_change ps ≡ true
lacks_change [] s e = absurd (none_is (sym e))
lacks_change (p ∷ ps) s e = lacks ps (lacks_change ps) s (changes_of p) e

has : (ps : List (List ℕ)) → ((t : State) → has_no_change ps ≡ true → after_payloads t ps ≡ None)
    → (s : State) (o : Option (List Change)) → (not (is_some o) || has_no_change ps) ≡ true → option_and_then (λ t. after_payloads t ps) (option_map (all_changed s) o) ≡ None
has ps ih s None e = refl
has ps ih s (Some changes) e = ih (all_changed s changes) e

pub stops : (ps : List (List ℕ)) (s : State) → has_no_change ps ≡ true → after_payloads s ps ≡ None
stops [] s e = absurd (false≢true e)
stops (p ∷ ps) s e = has ps (stops ps) s (changes_of p) e

-- a corrupt file represents no dictionary
pub stands_for_none : (file : List ℕ) → IsCorrupt file → state_of file ≡ None
stands_for_none file bad = ap (option_and_then (after_payloads new_state)) bad.1 ∙ stops bad.0 new_state bad.2

pub not_corrupt : (file : List ℕ) (s : State) → state_of file ≡ Some s → IsCorrupt file → ⊥
not_corrupt file s is bad = none_is (sym (stands_for_none file bad) ∙ is)
