-- The dictionary of a store whose file C keeps: what the plans say that the calls write.
use Rattle.std.specs.Prelude.{◌≡◌, ◌⊎◌, ℕ, ℤ, ◌+◌, ◌<◌, ◌≤◌, ◌^◌, Bool, true}
use Rattle.std.specs.Prelude.{false, List, [], ◌∷◌, length, Some}
use Rattle.cedar_journal.specs.declared.format.Format.{Format}
use Rattle.cedar_journal.specs.declared.format.Format.TheVariants.{Plain, Summed}
use Rattle.cedar_journal.specs.declared.records.Extent.{Extent}
use Rattle.cedar_journal.specs.Files.{HasExtent}
use Rattle.cedar_journal.specs.Formats.{overhead}
use Rattle.cedar_plan.specs.Calls.{Call, open_call, seen_after}
use Rattle.cedar_plan.specs.Safety.{CrashLeaves, IsAtRest}
use Rattle.cedar_plan.specs.Works.{AreCarriedOut, Work, all_done, append_works, end_of, format_in}
use Rattle.cedar_plan.specs.Works.{opening_works}
use Rattle.cedar_salvage.specs.Whole.{cuts_records, TakesLong}
use Rattle.cedar_store.specs.Causes.{LoadCause}
use Rattle.cedar_store.specs.Changes.{Change, change_of}
use Rattle.cedar_store.specs.Files.{IsEither, record_count, state_of}
use Rattle.cedar_store.specs.declared.error.DurableError.{DurableError}
use Rattle.cedar_store.specs.declared.error.DurableError.TheVariants as error
use Rattle.cedarwood.specs.State.{after_erase, after_put, State}
use Rattle.cedar_c.specs.Status.{status_of}
use Rattle.cedar_c.specs.declared.status.TheConstants.{OK, MEMORY, SLOT_LIMIT, NO_ROOM, OTHER}
use Rattle.cedar_c.specs.declared.status.TheConstants.{STORE_CORRUPT, STORE_DAMAGED, STORE_FOREIGN}
use Rattle.cedar_c.specs.declared.status.TheConstants.{STORE_FULL, STORE_TOO_LONG}

-- the format of records that have a sum, or of those that have none
abbrev pub format_if : Bool → Format
format_if false = Plain
format_if true = Summed

-- after these calls a store's file is at rest (`IsAtRest` of `cedar_plan`), its records are of this format and end at
-- `end`, and it represents the state s
pub record IsKept (calls : List Call) (format : Format) (end : ℕ) (s : State) : Type 0 where
  pub rest : IsAtRest calls format end
  pub same : state_of (seen_after calls) ≡ Some s

-- once these works are done on a file that is kept with the one state, it is kept with the other, and has one record
-- more. A crash at any moment, also if one of them fails, leaves a file that represents the one state or the other
pub record IsChangePlan (works : List Work) (format : Format) (from to : ℕ) (before after : State) : Type 0 where
  pub kept : (calls : List Call) → IsKept calls format from before → IsKept (all_done works calls) format to after
  pub counted : (calls : List Call) (n : ℕ) → IsKept calls format from before → record_count (seen_after calls) ≡ Some n
      → record_count (seen_after (all_done works calls)) ≡ Some (n + 1)
  pub any_moment : (calls later : List Call) → IsKept calls format from before → AreCarriedOut works calls later → CrashLeaves calls later (IsEither before after)

-- works that put a pair (`IsChangePlan`)
abbrev pub IsPutPlan : List Work → Format → ℕ → ℕ → State → List ℕ → ℤ → Type 0
IsPutPlan works format from to s key value = IsChangePlan works format from to s (after_put s key value)

-- works that erase a key (`IsChangePlan`)
abbrev pub IsErasurePlan : List Work → Format → ℕ → ℕ → State → List ℕ → Type 0
IsErasurePlan works format from to s key = IsChangePlan works format from to s (after_erase s key)

-- once these works are done on a file of these bytes, which was synced and then read, it is kept, with as many
-- records. A crash at any moment, also if one of them fails, leaves a file that represents the same state
pub record IsOpening (bytes : List ℕ) (works : List Work) (format : Format) (end : ℕ) (s : State) : Type 0 where
  pub kept : IsKept (all_done works (open_call bytes ∷ [])) format end s
  pub counted : record_count (seen_after (all_done works (open_call bytes ∷ []))) ≡ record_count bytes
  pub any_moment : (later : List Call) → AreCarriedOut works (open_call bytes ∷ []) later → CrashLeaves (open_call bytes ∷ []) later (λ c. state_of c ≡ Some s)

-- works that append the record of a change, and do nothing else (`append_works` of `cedar_plan`). Its payload has n
-- bytes. Where the records of the file end moves by those of the record
pub record AppendsChange (works : List Work) (change : Change) (format : Format) (from to n : ℕ) : Type 0 where
  pub payload : List ℕ
  pub has : change_of payload ≡ Some change
  pub long : length payload ≡ n
  pub just : works ≡ append_works format from payload
  pub far : to ≡ from + overhead format + n

-- works that open a file of these bytes, and do nothing else (`opening_works` of `cedar_plan`). Then its records are
-- of this format and end at `end`
pub record OpensJust (bytes : List ℕ) (works : List Work) (format : Format) (end : ℕ) : Type 0 where
  pub extent : Extent
  pub has : HasExtent bytes extent
  pub just : works ≡ opening_works bytes extent
  pub named : format ≡ format_in extent
  pub there : end ≡ end_of extent

-- the number of why a file wasn't read as a dictionary
abbrev pub store_status : DurableError → ℕ
store_status error.Foreign = STORE_FOREIGN
store_status error.Corrupt = STORE_CORRUPT
store_status (error.Damaged at) = STORE_DAMAGED
store_status (error.Refused e) = status_of e
store_status _ = OTHER

-- where a damaged record begins, which an error says, or what was there before
abbrev pub damage_of : ℕ → DurableError → ℕ
damage_of found (error.Damaged at) = at
damage_of found _ = found

-- the number says why a file of these bytes wasn't read as a dictionary; `told` is where a damaged record begins, or
-- what was there before
abbrev pub TellsWhy : List ℕ → ℕ → ℕ → ℕ → Type 0
TellsWhy bytes found told status = (e : DurableError) × LoadCause bytes e × (status ≡ store_status e) × (told ≡ damage_of found e)

-- an opening of a file of these bytes cuts off whole records, or it would take long to say that it doesn't
abbrev pub MayCut : List ℕ → Type 0
MayCut bytes = (extent : Extent) × HasExtent bytes extent × ((cuts_records bytes extent ≡ true) ⊎ TakesLong bytes extent)

-- the number says why no record of a payload of n bytes was made, for a file of this format whose records end at
-- `end`, in so many elements: the file is too long, or the record, or there are too few elements, or memory was
-- wanting
abbrev pub LacksRecord : Format → ℕ → ℕ → ℕ → ℕ → Type 0
LacksRecord format end n places status =
    ((status ≡ STORE_FULL) × (2 ^ 60 ≤ end)) ⊎ ((status ≡ STORE_TOO_LONG) × (2 ^ 32 ≤ n)) ⊎ ((status ≡ NO_ROOM) × (places < n + overhead format + 1))
    ⊎ (status ≡ MEMORY)

-- a change is done; or no record was made of it (`LacksRecord`); or memory or slots were wanting for the dictionary
abbrev pub LacksChange : Format → ℕ → ℕ → ℕ → ℕ → Type 0
LacksChange format end n places status = (status ≡ OK) ⊎ (status ≡ SLOT_LIMIT) ⊎ LacksRecord format end n places status
