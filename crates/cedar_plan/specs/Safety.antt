-- What becomes of a file whose plans are carried out.
use Rattle.std.specs.Prelude.{◌≡◌, ◌⊎◌, ℕ, ◌+◌, ◌<◌, true, List, [], ◌∷◌, length, IsTrue}
use Rattle.cedar_journal.specs.declared.format.Format.{Format}
use Rattle.cedar_journal.specs.declared.records.Extent.{Extent}
use Rattle.cedar_journal.specs.Device.{LeavesOnly}
use Rattle.cedar_journal.specs.Files.{HasExtent, with_payload, file_payloads}
use Rattle.cedar_journal.specs.Formats.{overhead}
use Rattle.cedar_journal.specs.Journal.{IsBeforeOrAfter, IsSettled}
use Rattle.whole_files.specs.Calls.{Call, LeftSince, MayLeave, all_within, is_usable_after}
use Rattle.whole_files.specs.Calls.{open_call, seen_after, write_call}
use Rattle.cedar_plan.specs.Works.{AreCarriedOut, FailsIn, after_work, all_done, append_works}
use Rattle.cedar_plan.specs.Works.{cut_to, end_of, format_in, opening_works}

-- after these calls the file is a header that names this format, whole records, a closed gate at `end` and whatever
-- is behind that, all of it on the disk; and no call has failed
pub record IsAtRest (calls : List Call) (format : Format) (end : ℕ) : Type 0 where
  pub settled : IsSettled seen_after MayLeave calls format end
  pub within : IsTrue (all_within calls)
  pub usable : IsTrue (is_usable_after calls)

-- a crash at any moment between these calls leaves a file that P holds of
abbrev pub CrashLeaves : List Call → List Call → (List ℕ → Type 0) → Type 0
CrashLeaves = LeavesOnly length LeftSince

-- what becomes of a file at rest to which a record of this payload is appended
pub record IsAppended (calls : List Call) (format : Format) (end : ℕ) (payload : List ℕ) : Type 0 where
  pub rest : IsAtRest (all_done (append_works format end payload) calls) format (end + overhead format + length payload)
  pub more : file_payloads (seen_after (all_done (append_works format end payload) calls)) ≡ with_payload payload (file_payloads (seen_after calls))
  pub any_moment : (after : List Call) → AreCarriedOut (append_works format end payload) calls after
      → CrashLeaves calls after (IsBeforeOrAfter (file_payloads (seen_after calls)) payload)

-- appending a record to any file at rest does what `IsAppended` says
abbrev pub AppendsAreSafe : Type 0
AppendsAreSafe = (calls : List Call) (format : Format) (end : ℕ) (payload : List ℕ) → IsAtRest calls format end → length payload < 4294967296
    → end < 1152921504606846976 → IsAppended calls format end payload

-- the calls once some bytes were written behind the closed gate at `end`, and were cut off. The disk need not have
-- had them
abbrev pub cut_back : ℕ → List ℕ → List Call → List Call
cut_back end bytes calls = after_work (cut_to (end + 1)) (write_call (end + 1) bytes true ∷ calls)

-- bytes were written behind the closed gate and cut off, or as far as the cut didn't fail
abbrev pub IsCutBack : ℕ → List ℕ → List Call → List Call → Type 0
IsCutBack end bytes calls after = (after ≡ cut_back end bytes calls) ⊎ FailsIn (cut_to (end + 1)) (write_call (end + 1) bytes true ∷ calls) after

-- what becomes of a file at rest from which a record is withdrawn for which there was no room: its first bytes were
-- written
pub record IsWithdrawn (calls : List Call) (format : Format) (end : ℕ) (bytes : List ℕ) : Type 0 where
  pub rest : IsAtRest (cut_back end bytes calls) format end
  pub same : file_payloads (seen_after (cut_back end bytes calls)) ≡ file_payloads (seen_after calls)
  pub any_moment : (after : List Call) → IsCutBack end bytes calls after → CrashLeaves calls after (λ c. file_payloads c ≡ file_payloads (seen_after calls))

-- withdrawing a record from any file at rest does what `IsWithdrawn` says
abbrev pub WithdrawalsAreSafe : Type 0
WithdrawalsAreSafe = (calls : List Call) (format : Format) (end : ℕ) (bytes : List ℕ) → IsAtRest calls format end → IsWithdrawn calls format end bytes

-- what becomes of a file of these bytes, which was synced and then read, and is opened
pub record IsOpened (file : List ℕ) (extent : Extent) : Type 0 where
  pub rest : IsAtRest (all_done (opening_works file extent) (open_call file ∷ [])) (format_in extent) (end_of extent)
  pub same : file_payloads (seen_after (all_done (opening_works file extent) (open_call file ∷ []))) ≡ file_payloads file
  pub any_moment : (after : List Call) → AreCarriedOut (opening_works file extent) (open_call file ∷ []) after
      → CrashLeaves (open_call file ∷ []) after (λ c. file_payloads c ≡ file_payloads file)

-- opening any file of a known extent does what `IsOpened` says
abbrev pub OpeningsAreSafe : Type 0
OpeningsAreSafe = (file : List ℕ) (extent : Extent) → HasExtent file extent → IsOpened file extent
