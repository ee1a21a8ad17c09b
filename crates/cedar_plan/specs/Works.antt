-- What is done to a file: cuts and writes, each of which is on the disk once it is done.
use Rattle.std.specs.Prelude.{◌≡◌, ◌⊎◌, ℕ, ◌+◌, true, false, cond, List, [], ◌∷◌}
use Rattle.cedar_journal.specs.declared.records.Extent.{Extent}
use Rattle.cedar_journal.specs.declared.records.Extent.TheVariants.{New, Until}
use Rattle.cedar_journal.specs.declared.format.Format.{Format}
use Rattle.cedar_journal.specs.declared.format.Format.TheVariants.{Summed}
use Rattle.cedar_journal.specs.Files.{ends_closed, header_frame}
use Rattle.cedar_journal.specs.Formats.{frame_of, opening}
use Rattle.whole_files.specs.Calls.{Call, sync_call, truncate_call, write_call}

-- what is done to a file
pub data Work : Type 0 where
  -- the file is cut to this length
  cut_to : ℕ → Work
  -- these bytes are written at this offset
  write_to : ℕ → List ℕ → Work

-- the calls on a file once one more work is done
abbrev pub after_work : Work → List Call → List Call
after_work (cut_to n) calls = sync_call true ∷ truncate_call n true ∷ calls
after_work (write_to at bytes) calls = sync_call true ∷ write_call at bytes true ∷ calls

-- the calls on a file once all of these works are done, one after another
abbrev pub all_done : List Work → List Call → List Call
all_done [] calls = calls
all_done (work ∷ works) calls = all_done works (after_work work calls)

-- the calls on a file once a work has failed
abbrev pub FailsIn : Work → List Call → List Call → Type 0
FailsIn (cut_to n) before after = (after ≡ truncate_call n false ∷ before) ⊎ (after ≡ sync_call false ∷ truncate_call n true ∷ before)
FailsIn (write_to at bytes) before after = (after ≡ write_call at bytes false ∷ before) ⊎ (after ≡ sync_call false ∷ write_call at bytes true ∷ before)

-- these works were done one after another, as far as none failed
abbrev pub AreCarriedOut : List Work → List Call → List Call → Type 0
AreCarriedOut [] before after = after ≡ before
AreCarriedOut (work ∷ works) before after = FailsIn work before after ⊎ AreCarriedOut works (after_work work before) after

-- the works that append a record of a payload: it is written behind the closed gate at `end`, and then that gate is
-- opened
abbrev pub append_works : Format → ℕ → List ℕ → List Work
append_works format end payload = write_to (end + 1) (frame_of format payload) ∷ write_to end (opening format ∷ []) ∷ []

-- the works that open a file. It is cut behind its whole records, and a closed gate is written there; nothing is done
-- if only that is there. Of a new file nothing is left, and it gets a closed gate, the header behind that, and an
-- open gate in the place of the closed one
abbrev pub opening_works : List ℕ → Extent → List Work
opening_works file New = cut_to 0 ∷ write_to 0 (0 ∷ []) ∷ write_to 1 (header_frame Summed) ∷ write_to 0 (1 ∷ []) ∷ []
opening_works file (Until format end) = cond (ends_closed file end) [] (cut_to end ∷ write_to end (0 ∷ []) ∷ [])

-- the format of the records of a file that was opened
abbrev pub format_in : Extent → Format
format_in New = Summed
format_in (Until format end) = format

-- where the records of a file end that was opened
abbrev pub end_of : Extent → ℕ
end_of New = 13
end_of (Until format end) = end
