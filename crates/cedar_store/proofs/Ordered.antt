-- The dictionary of a file is one whose labels ascend: a new one is, and no change makes another one of it.
use Rattle.std.specs.Prelude.{option_and_then, option_map, Option, Some, None}
use Rattle.std.proofs.Common.{◌≡◌, ℕ, true, List, [], ◌∷◌, refl, ◌∙◌, subst}
use Rattle.cedar_journal.specs.Files.{file_payloads}
use Rattle.cedarwood.specs.State.{State, new_state}
use Rattle.cedar_store.specs.Changes.{Change, put_at, erase_at, after_change, all_changed, changes_of, after_payloads}
use Rattle.cedar_store.specs.Files.{state_of}

-- a state, if there is one, is ordered if the first one is
abbrev Keeps : State → Option State → Type 0
Keeps s None = Unit {0}
Keeps s (Some t) = t.ordered ≡ s.ordered

changed_keeps : (s : State) (c : Change) → (after_change s c).ordered ≡ s.ordered
changed_keeps s (put_at key v) = refl
changed_keeps s (erase_at key) = refl

all_changed_keeps : (changes : List Change) (s : State) → (all_changed s changes).ordered ≡ s.ordered
all_changed_keeps [] s = refl
all_changed_keeps (c ∷ changes) s = all_changed_keeps changes (after_change s c) ∙ changed_keeps s c

further : (s t : State) (o : Option State) → t.ordered ≡ s.ordered → Keeps t o → Keeps s o
further s t None same keeps = tt
further s t (Some u) same keeps = keeps ∙ same

keeps_behind : (ps : List (List ℕ)) → ((t : State) → Keeps t (after_payloads t ps)) → (s : State) (o : Option (List Change))
    → Keeps s (option_and_then (λ t. after_payloads t ps) (option_map (all_changed s) o))
keeps_behind ps ih s None = tt
keeps_behind ps ih s (Some changes) = further s (all_changed s changes) (after_payloads (all_changed s changes) ps) (all_changed_keeps changes s) (ih (all_changed s changes))

replayed_keeps : (ps : List (List ℕ)) (s : State) → Keeps s (after_payloads s ps)
replayed_keeps [] s = refl
replayed_keeps (p ∷ ps) s = keeps_behind ps (replayed_keeps ps) s (changes_of p)

file_keeps : (o : Option (List (List ℕ))) → Keeps new_state (option_and_then (after_payloads new_state) o)
file_keeps None = tt
file_keeps (Some ps) = replayed_keeps ps new_state

pub is_ordered : (file : List ℕ) (s : State) → state_of file ≡ Some s → s.ordered ≡ true
is_ordered file s is = subst (Keeps new_state) is (file_keeps (file_payloads file))

-- no change of some makes another one of it
pub stays_ordered : (changes : List Change) (s : State) → s.ordered ≡ true → (all_changed s changes).ordered ≡ true
stays_ordered changes s is = all_changed_keeps changes s ∙ is
