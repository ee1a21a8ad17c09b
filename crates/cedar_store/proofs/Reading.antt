-- The records of a file, read one after another.
use Rattle.std.specs.Prelude.{option_and_then, Option, Some, IsSome, IfErr, Result, Ok, Err}
use Rattle.std.proofs.Common.{◌≡◌, ℕ, ◌+◌, List, [], ◌∷◌, drop, refl, sym, ◌∙◌, ap, subst}
use Rattle.std.proofs.lemmas.List.{drop-drop}
use Rattle.cedar_journal.specs.declared.format.Format.{Format}
use Rattle.cedar_journal.specs.Files.{HasRecords, IsNewFile}
use Rattle.cedar_journal.specs.Formats.{AreUndamaged, Reading, read_behind, damaged, payloads_read, records_read, stands}
use Rattle.cedarwood.specs.State.{State, new_state}
use Rattle.cedar_store.specs.declared.error.DurableError.{DurableError}
use Rattle.cedar_store.specs.declared.error.DurableError.TheVariants as error
use Rattle.cedar_store.specs.Causes.{ReplayCause, LoadCause}
use Rattle.cedar_store.specs.Changes.{after, after_payloads}
use Rattle.cedar_store.specs.Files.{state_of}
use Rattle.cedar_store.proofs.States.{lacks_change}

-- what is sound behind some bytes is sound alone
rest_sound : (n : ℕ) (ps : List (List ℕ)) (r : Reading) (qs : List (List ℕ)) → read_behind n ps r ≡ stands qs → (rs : List (List ℕ)) × (r ≡ stands rs)
rest_sound n ps (stands rs) qs is = (rs, refl)
rest_sound n ps (damaged place) qs is = absurd (apart (n + place) qs is)
  where
    apart : (place : ℕ) (qs : List (List ℕ)) → damaged place ≡ stands qs → ⊥
    apart place qs same = let other : damaged place ≡ stands qs = same in cc

-- a payload in front of a sound reading
one_listed : (n : ℕ) (p : List ℕ) (r : Reading) → (rs : List (List ℕ)) × (r ≡ stands rs) → payloads_read (read_behind n (p ∷ []) r) ≡ p ∷ payloads_read r
one_listed n p r sound = ap (λ q. payloads_read (read_behind n (p ∷ []) q)) sound.1 ∙ ap (λ q. p ∷ payloads_read q) (sym sound.1)

-- a record at a position of some bytes, and its payload p
module _ (bytes b p : List ℕ) (f : Format) (at n : ℕ) (here : b ≡ drop at bytes) (sound : AreUndamaged f (drop at bytes)) (read : records_read f b ≡ read_behind n (p ∷ []) (records_read f (drop n b))) where
  first_read : records_read f (drop at bytes) ≡ read_behind n (p ∷ []) (records_read f (drop n b))
  first_read = ap (records_read f) (sym here) ∙ read

  sound_rest : AreUndamaged f (drop n b)
  sound_rest = rest_sound n (p ∷ []) (records_read f (drop n b)) sound.0 (sym first_read ∙ sound.1)

  further : drop n b ≡ drop (at + n) bytes
  further = ap (drop n) here ∙ drop-drop n at bytes

  pub next_sound : AreUndamaged f (drop (at + n) bytes)
  next_sound = subst (AreUndamaged f) further sound_rest

  pub payloads : payloads_read (records_read f (drop at bytes)) ≡ p ∷ payloads_read (records_read f (drop (at + n) bytes))
  payloads = ap payloads_read first_read ∙ one_listed n p (records_read f (drop n b)) sound_rest ∙ ap (λ (l : List ℕ). p ∷ payloads_read (records_read f l)) further

  first : (s : State) → after_payloads s (payloads_read (records_read f (drop at bytes))) ≡ option_and_then (λ t. after_payloads t (payloads_read (records_read f (drop (at + n) bytes)))) (after s p)
  first s = ap (after_payloads s) payloads

  pub one_turn : (s t : State) → after s p ≡ Some t → after_payloads t (payloads_read (records_read f (drop (at + n) bytes))) ≡ after_payloads s (payloads_read (records_read f (drop at bytes)))
  one_turn s t told = sym (first s ∙ ap (option_and_then (λ t. after_payloads t (payloads_read (records_read f (drop (at + n) bytes))))) told)

  pub stopped : (s : State) (outcome : Option State) (e : DurableError) → after_payloads s (payloads_read (records_read f (drop at bytes))) ≡ outcome → ReplayCause (after s p) e → ReplayCause outcome e
  stopped s outcome error.Corrupt same none = sym same ∙ first s ∙ ap (option_and_then (λ t. after_payloads t (payloads_read (records_read f (drop (at + n) bytes))))) none
  stopped s outcome (error.Refused e) same wants = wants
  stopped s outcome error.Foreign same none = none
  stopped s outcome (error.Damaged place) same none = none
  stopped s outcome (error.RefusedAt index e) same none = none
  stopped s outcome error.TooLong same none = none
  stopped s outcome error.Full same none = none
  stopped s outcome error.NoRoom same none = none
  stopped s outcome (error.Device e) same none = none
  stopped s outcome error.Failed same none = none

pub ended : (bytes b : List ℕ) (f : Format) (at : ℕ) (s : State) → b ≡ drop at bytes → records_read f b ≡ stands [] → after_payloads s (payloads_read (records_read f (drop at bytes))) ≡ Some s
ended bytes b f at s here none = ap (λ (l : List ℕ). after_payloads s (payloads_read (records_read f l))) (sym here) ∙ ap (λ r. after_payloads s (payloads_read r)) none

-- ---- a whole file

pub new_stands : (file : List ℕ) → IsNewFile file → state_of file ≡ Some new_state
new_stands file new = ap (option_and_then (after_payloads new_state)) new.stands

pub records_stand : (file : List ℕ) (f : Format) (end : ℕ) → HasRecords file f end → state_of file ≡ after_payloads new_state (payloads_read (records_read f (drop 13 file)))
records_stand file f end records = ap (option_and_then (after_payloads new_state)) records.stands

pub load_cause : (file : List ℕ) (f : Format) (end : ℕ) (e : DurableError) → HasRecords file f end → ReplayCause (after_payloads new_state (payloads_read (records_read f (drop 13 file)))) e → LoadCause file e
load_cause file f end error.Corrupt records none = (payloads_read (records_read f (drop 13 file)), records.stands, lacks_change (payloads_read (records_read f (drop 13 file))) new_state none)
load_cause file f end (error.Refused e) records wants = (subst IsSome (sym records.stands) refl, wants)
load_cause file f end error.Foreign records none = absurd none
load_cause file f end (error.Damaged place) records none = absurd none
load_cause file f end (error.RefusedAt index e) records none = none
load_cause file f end error.TooLong records none = none
load_cause file f end error.Full records none = none
load_cause file f end error.NoRoom records none = none
load_cause file f end (error.Device e) records none = none
load_cause file f end error.Failed records none = none

pub load_causes : (file : List ℕ) (f : Format) (end : ℕ) (r : Result (Unit {0}) DurableError) → HasRecords file f end → IfErr r (λ e. ReplayCause (after_payloads new_state (payloads_read (records_read f (drop 13 file)))) e) → IfErr r (λ e. LoadCause file e)
load_causes file f end (Ok x) records cause = tt
load_causes file f end (Err e) records cause = load_cause file f end e records cause
