-- The records of a batch, read one after another.
use Rattle.std.specs.Prelude.{option_map, option_and_then, Option, Some, None, Bool, cond}
use Rattle.std.proofs.Common.{◌≡◌, ◌≢◌, ℕ, ◌+◌, true, false, List, [], ◌∷◌, length, drop, refl, sym, ◌∙◌, ap}
use Rattle.std.proofs.lemmas.Bool.{cond-true, cond-false, eq-eqb, ne_eqb}
use Rattle.std.proofs.lemmas.List.{drop-drop}
use Rattle.cedar_journal.specs.Records.{has_record, payload, behind_record, payloads_in}
use Rattle.cedar_journal.proofs.Reading.{payloads_first, payloads_none}
use Rattle.cedarwood.specs.State.{State}
use Rattle.cedar_store.specs.declared.error.DurableError.{DurableError}
use Rattle.cedar_store.specs.declared.error.DurableError.TheVariants as error
use Rattle.cedar_store.specs.Causes.{ReplayCause}
use Rattle.cedar_store.specs.Changes.{Change, change_of, after_change, all_changed, each_change, records_length, batch_of}
use Rattle.std.proofs.lemmas.Option.{none-some}

-- the state after the changes of some payloads of a batch
abbrev pub each_after : State → List (List ℕ) → Option State
each_after s payloads = option_map (all_changed s) (each_change payloads)

step_one : (s t : State) (o : Option Change) (r : Option (List Change)) → option_map (after_change s) o ≡ Some t
    → option_map (all_changed t) r ≡ option_map (all_changed s) (option_and_then (λ c. option_map (λ changes. c ∷ changes) r) o)
step_one s t None r told = absurd (none-some t told)
step_one s t (Some c) None told = refl
step_one s t (Some c) (Some changes) told = ap (option_map (λ u. all_changed u changes)) (sym told)

no_step : (s : State) (o : Option Change) (r : Option (List Change)) → option_map (after_change s) o ≡ None
    → option_map (all_changed s) (option_and_then (λ c. option_map (λ changes. c ∷ changes) r) o) ≡ None
no_step s None r told = refl
no_step s (Some c) r told = absurd (none-some (after_change s c) (sym told))

unless : (s : State) (b : Bool) (o : Option (List Change)) → option_map (all_changed s) o ≡ None → option_map (all_changed s) (cond b o None) ≡ None
unless s true o stops = stops
unless s false o stops = refl

no_batch : (s : State) (bytes : List ℕ) → each_after s (payloads_in bytes) ≡ None → option_map (all_changed s) (batch_of bytes) ≡ None
unfolding batch_of
no_batch s bytes stops = unless s _ (each_change (payloads_in bytes)) stops

-- ---- a record at a position of some bytes, and its payload p

module _ (bytes b p : List ℕ) (at : ℕ) (here : b ≡ drop at bytes) (there : has_record b ≡ true) (is : p ≡ payload b) (next : drop (5 + length p) b ≡ behind_record b) where
  further : drop (at + (5 + length p)) bytes ≡ behind_record b
  further = sym (drop-drop (5 + length p) at bytes) ∙ ap (drop (5 + length p)) (sym here) ∙ next

  split : payloads_in (drop at bytes) ≡ p ∷ payloads_in (drop (at + (5 + length p)) bytes)
  split = ap payloads_in (sym here) ∙ payloads_first b there ∙ (λ i. sym is i ∷ payloads_in (sym further i))

  pub one_turn : (s t : State) → option_map (after_change s) (change_of p) ≡ Some t
      → each_after t (payloads_in (drop (at + (5 + length p)) bytes)) ≡ each_after s (payloads_in (drop at bytes))
  one_turn s t told = step_one s t (change_of p) (each_change (payloads_in (drop (at + (5 + length p)) bytes))) told ∙ ap (each_after s) (sym split)

  pub one_longer : records_length (payloads_in (drop at bytes)) ≡ 5 + length p + records_length (payloads_in (drop (at + (5 + length p)) bytes))
  one_longer = ap records_length split

  pub stopped : (first s : State) (e : DurableError) → each_after s (payloads_in (drop at bytes)) ≡ each_after first (payloads_in bytes)
      → ReplayCause (option_map (after_change s) (change_of p)) e → ReplayCause (option_map (all_changed first) (batch_of bytes)) e
  stopped first s error.Corrupt same stops =
      no_batch first bytes (sym same ∙ ap (each_after s) split ∙ no_step s (change_of p) (each_change (payloads_in (drop (at + (5 + length p)) bytes))) stops)
  stopped first s (error.Refused e) same wants = wants
  stopped first s (error.RefusedAt index e) same none = none
  stopped first s error.Foreign same none = none
  stopped first s (error.Damaged place) same none = none
  stopped first s error.TooLong same none = none
  stopped first s error.Full same none = none
  stopped first s error.NoRoom same none = none
  stopped first s (error.Device e) same none = none
  stopped first s error.Failed same none = none

-- ---- behind the last record

pub ended : (bytes b : List ℕ) (at : ℕ) → b ≡ drop at bytes → has_record b ≡ false → payloads_in (drop at bytes) ≡ []
ended bytes b at here lacks = ap payloads_in (sym here) ∙ payloads_none b lacks

pub whole_batch : (bytes : List ℕ) → records_length (payloads_in bytes) ≡ length bytes → batch_of bytes ≡ each_change (payloads_in bytes)
unfolding batch_of
whole_batch bytes whole = cond-true _ _ _ (eq-eqb (records_length (payloads_in bytes)) (length bytes) whole)

pub cut_batch : (bytes : List ℕ) → records_length (payloads_in bytes) ≢ length bytes → batch_of bytes ≡ None
unfolding batch_of
cut_batch bytes short = cond-false _ _ _ (ne_eqb (records_length (payloads_in bytes)) (length bytes) short)
