-- A file that has one record for each entry of a dictionary.
use Rattle.std.specs.Prelude.{◌&&◌, ◌-◌, ◌*◌, fold, int_le, max, nat_lt, pos, Bool, false, IfErr, IsErrAnd, IsErrOf, OnErr, OnOk, Result, Ok, Err, option_and_then, option_map, Option, Some, None, IfSome}
use Rattle.std.proofs.Common.{◌≡◌, ◌⊎◌, inl, inr, ⊎_elim, ◌<◌, ℕ, ◌+◌, ℤ, true, List, [], ◌∷◌, ◌++◌, drop, take, refl, sym, ◌∙◌, ap, subst, arith}
use Rattle.std.proofs.lemmas.Bool.{false≢true}
use Rattle.std.proofs.lemmas.Bool.Decides.{nat_tests}
use Rattle.std.specs.List.{AllByRecursion}
use Rattle.cedar_journal.specs.declared.device.DeviceError.{DeviceError}
use Rattle.cedar_journal.specs.declared.replace.ReplaceError.{ReplaceError}
use Rattle.cedar_journal.specs.declared.replace.ReplaceError.TheVariants as replace
use Rattle.cedar_journal.specs.declared.format.Format.{Format}
use Rattle.cedar_journal.specs.declared.format.Format.TheVariants.{Summed}
use Rattle.cedar_journal.specs.Files.{file_payloads, IsWholeFront, with_payload}
use Rattle.cedar_journal.specs.Formats.{AreWhole, payloads_read, records_read}
use Rattle.cedar_journal.specs.Images.{image_of, records_of}
use Rattle.cedar_journal.specs.Journal.{IsSettled}
use Rattle.cedar_journal.specs.Replacing.{IfKept}
use Rattle.cedar_journal.proofs.Images.{image_stands}
use Rattle.cedarwood.specs.Queries.{Entry, walk}
use Rattle.cedarwood.specs.State.{State, new_state}
use Rattle.cedarwood.specs.Tree.{AllNumbers, IsAscending, IsKey, IsSound, Tree, number_at, put}
use Rattle.cedarwood.proofs.EntryLemmas.Keys.{asc-walk, held_key, all_contained}
use Rattle.cedarwood.proofs.MemberLemmas.{held_from_walk}
use Rattle.cedarwood.proofs.TreeLemmas.{all-number_at}
use Rattle.cedarwood.specs.Builds.{all_stored}
use Rattle.cedarwood.specs.Fault.{fault, key_fault, or_else, value_fault}
use Rattle.cedarwood.proofs.DictionaryLemmas.{no_value_fault}
use Rattle.cedarwood.proofs.SortedInputLemmas.{clean_key, path_clean}
use Rattle.cedar_store.specs.Changes.{Change, after, all_changed, changes_of, put_at, after_payloads}
use Rattle.cedar_store.specs.declared.compaction.Compaction.{Compaction}
use Rattle.cedar_store.specs.declared.compaction.Compaction.TheVariants.{Never, Beyond}
use Rattle.cedar_store.specs.declared.compaction.CompactError.{CompactError}
use Rattle.cedar_store.specs.declared.compaction.CompactError.TheVariants as error
use Rattle.cedar_store.specs.Compactions.{CompactCause, is_beyond, IsBeforeReplacing, LeavesFile, replace_error}
use Rattle.cedar_store.specs.Files.{AddsRecord, StandsFor, state_of}
use Rattle.cedar_store.specs.Store.{IsConsistent, IsReady}
use Rattle.cedar_store.proofs.States.{replayed_more}

-- ---- no entry of a dictionary has a fault

-- a number that can be stored
abbrev is_value : ℤ → Bool
is_value v = int_le (pos 0) v && int_le v (pos 2147483645)

key_is_clean : (key : List ℕ) → IsKey key → key_fault key ≡ None
key_is_clean [] none = absurd none
key_is_clean (b ∷ key) path = clean_key (b ∷ key) (path_clean (b ∷ key) path) (omega arith)

entry_is_sound : (t : Tree) → IsSound t → AllNumbers (λ v. is_value v ≡ true) t.children → (e : Entry) → number_at t e.0 ≡ Some e.1 → fault e.0 e.1 ≡ None
entry_is_sound t sound values e held =
    let value : is_value e.1 ≡ true = subst (λ (o : Option ℤ). IfSome o (λ v. is_value v ≡ true)) held (all-number_at (λ v. is_value v ≡ true) t e.0 sound.0 values) in
    ap (λ f. or_else f (value_fault e.1)) (key_is_clean e.0 (held_key t e.0 e.1 sound held)) ∙ no_value_fault e.1 value

pub entries_are_sound : (t : Tree) → IsSound t → AllNumbers (λ v. is_value v ≡ true) t.children → AllByRecursion (λ (e : Entry). fault e.0 e.1 ≡ None) (walk t)
entries_are_sound t sound values =
    all_contained (λ (e : Entry). fault e.0 e.1 ≡ None) (walk t) (λ e there. entry_is_sound t sound values e (held_from_walk t e.0 e.1 sound.1 there))

-- ---- they make it again

ascending_stored : (pairs : List Entry) (t : Tree) → all_stored (record { tree = t; ordered = true }) pairs ≡ record { tree = fold (λ u pair. put u true pair.0 pair.1) t pairs; ordered = true }
ascending_stored [] t = refl
ascending_stored (e ∷ pairs) t = ascending_stored pairs (put t true e.0 e.1)

pub made_again : (s : State) → IsSound s.tree → IsAscending s.tree.children → s.ordered ≡ true → all_stored new_state (walk s.tree) ≡ s
made_again s sound ascending is =
    ascending_stored (walk s.tree) new_state.tree ∙ (λ i. record { tree = asc-walk s.tree sound ascending i; ordered = sym is i })

-- ---- one record more

stepped : (later : List Entry) (p key : List ℕ) (v : ℤ) → changes_of p ≡ Some (put_at key v ∷ []) → (o : Option State)
    → option_map (λ s. all_stored s later) (option_and_then (λ u. after u p) o) ≡ option_map (λ s. all_stored s ((key, v) ∷ later)) o
stepped later p key v is None = refl
stepped later p key v is (Some s) = ap (λ (c : Option (List Change)). option_map (λ t. all_stored t later) (option_map (all_changed s) c)) is

pub one_put : (ps more : List (List ℕ)) (p key : List ℕ) (v : ℤ) (later : List Entry) → more ≡ ps ++ p ∷ [] → changes_of p ≡ Some (put_at key v ∷ [])
    → option_map (λ s. all_stored s later) (after_payloads new_state more) ≡ option_map (λ s. all_stored s ((key, v) ∷ later)) (after_payloads new_state ps)
one_put ps more p key v later behind is =
    ap (λ (l : List (List ℕ)). option_map (λ s. all_stored s later) (after_payloads new_state l)) behind
    ∙ ap (option_map (λ s. all_stored s later)) (replayed_more ps p new_state)
    ∙ stepped later p key v is (after_payloads new_state ps)

pub none_left : (o : Option State) → option_map (λ s. all_stored s []) o ≡ o
none_left None = refl
none_left (Some s) = refl

-- ---- what the file represents

-- a record more, of a file that represents any state or none
pub state_more : (file c p : List ℕ) → file_payloads c ≡ with_payload p (file_payloads file) → state_of c ≡ option_and_then (λ s. after s p) (state_of file)
state_more file c p more = ap (option_and_then (after_payloads new_state)) more ∙ with_one (file_payloads file)
  where
    with_one : (r : Option (List (List ℕ))) → option_and_then (after_payloads new_state) (with_payload p r) ≡ option_and_then (λ s. after s p) (option_and_then (after_payloads new_state) r)
    with_one None = refl
    with_one (Some ps) = replayed_more ps p new_state

-- ---- the rule

nothing_past : (n more spare : ℕ) → nat_lt (n + more + spare) n ≡ false
nothing_past n more spare = grind (arith, nat_tests)

-- no file is too long for itself
pub never_itself : (rule : Compaction) (n : ℕ) → is_beyond rule n n ≡ false
never_itself Never n = refl
never_itself (Beyond factor spare) n = nothing_past n (n * (max factor 2 - 1)) spare

-- so one that was just looked at isn't
pub just_looked_at : {X E : Type 0} (r : Result X E) (failed : Bool) (rule : Compaction) (base end : ℕ) → OnOk r ((failed ≡ false) × (base ≡ end)) → OnOk r (is_beyond rule base end ≡ false)
just_looked_at (Ok x) failed rule base end done = ap (λ n. is_beyond rule n end) done.1 ∙ never_itself rule end
just_looked_at (Err e) failed rule base end done = tt

pub still_usable : {X E : Type 0} (r : Result X E) (failed : Bool) (base end : ℕ) → OnOk r ((failed ≡ false) × (base ≡ end)) → OnOk r (failed ≡ false)
still_usable (Ok x) failed base end done = done.0
still_usable (Err e) failed base end done = tt

-- the change of a record that was given for any state
pub change_of_one : (o : Option State) (s t : State) (p : List ℕ) → option_and_then (λ u. after u p) o ≡ Some t → o ≡ Some s → after s p ≡ Some t
change_of_one o s t p stands is = sym (ap (option_and_then (λ u. after u p)) is) ∙ stands

-- ---- why a file wasn't compacted, and what that leaves

pub handed_over : {X E : Type 0} (r : Result X E) (e : E) (P : E → Type 0) → IsErrAnd r (λ x. x ≡ e) → P e → IfErr r P
handed_over (Ok x) e P is holds = tt
handed_over (Err x) e P is holds = subst P (sym is) holds

pub before_cause : (before now : ℕ) (lost : Type 0) (e : CompactError) → IsBeforeReplacing e → CompactCause before now lost e
before_cause before now lost error.Memory cause = cause
before_cause before now lost error.TooLong cause = cause
before_cause before now lost (error.Kept e) cause = absurd cause
before_cause before now lost error.Failed cause = absurd cause

pub before_leaves : (e : CompactError) (fails keeps stays : Type 0) → IsBeforeReplacing e → stays → LeavesFile e fails keeps stays
before_leaves error.Memory fails keeps stays cause holds = holds
before_leaves error.TooLong fails keeps stays cause holds = holds
before_leaves (error.Kept e) fails keeps stays cause holds = absurd cause
before_leaves error.Failed fails keeps stays cause holds = absurd cause

pub replaced_cause : (before now : ℕ) (lost : Type 0) (e : ReplaceError) (r : Result (Unit {0}) ReplaceError) → r ≡ Err e → OnErr r (before < now)
    → (IsErrOf r replace.Failed → lost) → CompactCause before now lost (replace_error e)
replaced_cause before now lost replace.Failed r is failed unknown = (subst (λ q. OnErr q (before < now)) is failed, unknown is)
replaced_cause before now lost (replace.Kept d) r is failed unknown = subst (λ q. OnErr q (before < now)) is failed

pub replaced_leaves : (e : ReplaceError) (r : Result (Unit {0}) ReplaceError) (fails keeps stays : Type 0) → r ≡ Err e → (IsErrOf r replace.Failed → fails) → IfKept r keeps
    → LeavesFile (replace_error e) fails keeps stays
replaced_leaves replace.Failed r fails keeps stays is failed kept = failed is
replaced_leaves (replace.Kept d) r fails keeps stays is failed kept = subst (λ q. IfKept q keeps) is kept

pub at_kept : (P : Type 0) (e : ReplaceError) (d : DeviceError) → e ≡ replace.Kept d → IfKept {T = Unit {0}} (Err e) P → P
at_kept P e d is holds = subst (λ x. IfKept {T = Unit {0}} (Err x) P) is holds

-- ---- the file that is there

pub stands_of_image : (bytes f : List ℕ) (s : State) → bytes ≡ image_of (records_of bytes) → AreWhole Summed (records_of bytes)
    → after_payloads new_state (payloads_read (records_read Summed (records_of bytes))) ≡ Some s → f ≡ bytes → state_of f ≡ Some s
stands_of_image bytes f s shape whole made is = ap (option_and_then (after_payloads new_state)) (ap file_payloads (is ∙ shape) ∙ image_stands (records_of bytes) whole) ∙ made

-- what is left of a file that was to be replaced by these bytes, as they are shown
pub image_or_before : (before : List ℕ → Type 0) (bytes shown : List ℕ) (s : State) → bytes ≡ image_of (records_of bytes) → AreWhole Summed (records_of bytes)
    → after_payloads new_state (payloads_read (records_read Summed (records_of bytes))) ≡ Some s → shown ≡ bytes → (f : List ℕ) → before f ⊎ (f ≡ shown) → before f ⊎ StandsFor s f
image_or_before before bytes shown s shape whole made same f = ⊎_elim (λ was. inl was) (λ is. inr (stands_of_image bytes f s shape whole made (is ∙ same)))

module _ {D : Type 0} (seen : D → List ℕ) (may_leave : D → List ℕ → Type 0) where
  -- a crash leaves nothing else of a file that is consistent
  pub only_state : (d : D) (f : Format) (end : ℕ) (s : State) → IsConsistent seen may_leave d f end s → (c : List ℕ) → may_leave d c ⊎ StandsFor s c → StandsFor s c
  only_state d f end s is c = ⊎_elim (λ left. ap state_of (is.settled.durable c left) ∙ is.same) (λ stands. stands)

  kept_settled : (old new : D) (format : Format) (end : ℕ) → seen new ≡ seen old → ((c : List ℕ) → may_leave new c → may_leave old c)
      → IsSettled seen may_leave old format end → IsSettled seen may_leave new format end
  kept_settled old new format end same fewer is = record {
    split = subst (λ (f : List ℕ). f ≡ take end f ++ 0 ∷ drop (end + 1) f) (sym same) is.split;
    front = subst (λ (f : List ℕ). IsWholeFront format (take end f)) (sym same) is.front;
    durable = λ c left. is.durable c (fewer c left) ∙ sym same;
  }

  -- what the device has kept is as ready as it was
  pub kept_ready : (old new : D) (format : Format) (end n : ℕ) (s t : State) (failed now : Bool) → seen new ≡ seen old → ((c : List ℕ) → may_leave new c → may_leave old c) → n ≡ end → t ≡ s
      → now ≡ failed → IsReady seen may_leave old format end s failed → IsReady seen may_leave new format n t now
  kept_ready old new format end n s t failed now same fewer ends is still ready = record {
    ordered = ap (λ u. u.ordered) is ∙ ready.ordered;
    consistent = λ usable.
        let before = ready.consistent (sym still ∙ usable) in
        subst (λ m. IsConsistent seen may_leave new format m t) (sym ends)
        (record { settled = kept_settled old new format end same fewer before.settled; same = ap state_of same ∙ before.same ∙ ap (λ u. Some u) (sym is) });
  }

  -- nothing is said of the file of a store that has failed
  pub failed_ready : (d : D) (format : Format) (end : ℕ) (s : State) (failed : Bool) → failed ≡ true → s.ordered ≡ true → IsReady seen may_leave d format end s failed
  failed_ready d format end s failed is ordered = record { ordered = ordered; consistent = λ usable. absurd (false≢true (sym usable ∙ is)) }

-- ---- what an acknowledged change has done to the file

pub on_err : {X E : Type 0} {P Q : E → Type 0} (r : Result X E) → ((e : E) → P e → Q e) → IfErr r P → IfErr r Q
on_err (Ok x) so holds = tt
on_err (Err e) so holds = so e holds

-- what holds of an error, and what of all
pub on_err_too : {X E : Type 0} {P Q : E → Type 0} {S : Type 0} (r : Result X E) → ((e : E) → P e → S → Q e) → IfErr r P → OnErr r S → IfErr r Q
on_err_too (Ok x) so holds too = tt
on_err_too (Err e) so holds too = so e holds too

-- what holds of each error
pub on_each_err : {X E : Type 0} {P : E → Type 0} (r : Result X E) → ((e : E) → P e) → IfErr r P
on_each_err (Ok x) so = tt
on_each_err (Err e) so = so e

-- a file that has one record more, and was looked at
pub still_more : {S : Type 0} (before between after payload : List ℕ) → file_payloads between ≡ with_payload payload (file_payloads before) → (after ≡ between) ⊎ S
    → (file_payloads after ≡ with_payload payload (file_payloads before)) ⊎ S
still_more before between after payload more = ⊎_elim (λ same. inl (ap file_payloads same ∙ more)) (λ short. inr short)

-- that record has these changes
pub recorded_in : {S : Type 0} (before after payload : List ℕ) (changes : List Change) → changes_of payload ≡ Some changes
    → (file_payloads after ≡ with_payload payload (file_payloads before)) ⊎ S → AddsRecord changes before after ⊎ S
recorded_in before after payload changes told = ⊎_elim (λ more. inl (record { payload = payload; behind = more; change = told })) (λ short. inr short)
