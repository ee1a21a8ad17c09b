-- What is whole in a file that somebody else has changed.
use Rattle.std.specs.Prelude.{◌≡◌, ◌⊎◌, ◌<◌, ℕ, zero, suc, ◌+◌, ◌*◌, ◌&&◌, ◌==◌, nat_le, Bool}
use Rattle.std.specs.Prelude.{true, false, not, cond, List, [], ◌∷◌, ◌++◌, length, take, drop}
use Rattle.std.specs.Prelude.{get_or, Option, Some, None, is_some}
use Rattle.whole_files.specs.Calls.{Call}
use Rattle.cedar_disk.specs.Openings.{opened_existing}
use Rattle.whole_files.specs.Openings.{opened_new}
use Rattle.cedar_journal.specs.declared.format.Format.{Format}
use Rattle.cedar_journal.specs.declared.format.Format.TheVariants.{Plain, Summed}
use Rattle.cedar_journal.specs.declared.records.Extent.{Extent}
use Rattle.cedar_journal.specs.declared.records.Extent.TheVariants.{New, Until}
use Rattle.cedar_journal.specs.Files.{HasExtent, format_of, file_payloads}
use Rattle.cedar_journal.specs.Formats.{four_at, is_summed}
use Rattle.cedar_journal.specs.Records.{behind_record, has_record, payloads_in}
use Rattle.cedar_store.specs.Changes.{changes_of}
use Rattle.cedar_salvage.specs.declared.change.Kind.{Kind}
use Rattle.cedar_salvage.specs.declared.change.Kind.TheVariants.{Batch, Erasure, Put}

-- whether a payload is a change of a dictionary
abbrev pub is_change : List ℕ → Bool
is_change payload = is_some (changes_of payload)

-- `operation` is the first byte of a payload of this kind
abbrev pub is_kind : ℕ → Kind → Type 0
is_kind operation Erasure = operation ≡ 0
is_kind operation Put = operation ≡ 1
is_kind operation Batch = operation ≡ 2

-- the payload of the record of version 2 at the start of some bytes
abbrev pub payload_there : List ℕ → List ℕ
payload_there bytes = take (four_at bytes 5) (drop 9 bytes)

-- whether a whole record of version 2 is at the start of some bytes: its gate is open, all of it is there and has its
-- sum, and its payload is a change
unfoldable pub is_whole : List ℕ → Bool
is_whole bytes = not (get_or bytes 0 0 == 0) && (is_summed bytes && is_change (payload_there bytes))

-- the payloads of the whole records among some bytes, behind the first n of them. Each position is tried, and behind
-- a whole record the next position is the one behind it
unfoldable pub found_behind : ℕ → List ℕ → List (List ℕ)
found_behind n [] = []
found_behind zero (byte ∷ rest) =
    cond (is_whole (byte ∷ rest)) (payload_there (byte ∷ rest) ∷ found_behind (8 + four_at (byte ∷ rest) 5) rest) (found_behind zero rest)
found_behind (suc n) (byte ∷ rest) = found_behind n rest

-- the payloads of the whole records among some bytes
abbrev pub found_in : List ℕ → List (List ℕ)
found_in bytes = found_behind zero bytes

-- the first of some payloads, up to one that is no change
unfoldable pub first_changes : List (List ℕ) → List (List ℕ)
first_changes [] = []
first_changes (payload ∷ payloads) = cond (is_change payload) (payload ∷ first_changes payloads) []

-- the payloads that are saved of records of a format: of version 1 those up to one that is no change, of version 2
-- those of all whole records
abbrev pub found_of : Format → List ℕ → List (List ℕ)
found_of Plain bytes = first_changes (payloads_in bytes)
found_of Summed bytes = found_in bytes

-- the payloads that are saved of a file, by the format that its header names; without a header those of all whole
-- records of version 2 that are anywhere
abbrev pub salvaged_by : Option Format → List ℕ → List (List ℕ)
salvaged_by (Some format) file = found_of format (drop 13 file)
salvaged_by None file = found_in file

-- the payloads that are saved of a file
abbrev pub salvage_of : List ℕ → List (List ℕ)
salvage_of file = salvaged_by (format_of file) file

-- whether there is a payload
abbrev pub has_some : List (List ℕ) → Bool
has_some [] = false
has_some (payload ∷ payloads) = true

-- whether an opening of a file that goes as far as this would cut off more than the record under way: of version 2 a
-- whole record; of version 1 a record that counts, right behind the one whose gate is closed
abbrev pub cuts_records : List ℕ → Extent → Bool
cuts_records file New = false
cuts_records file (Until Summed end) = has_some (found_in (drop end file))
cuts_records file (Until Plain end) = has_record (behind_record (drop end file))

-- how many bytes are looked at to say whether the record of version 2 at the start of some bytes is whole: none if
-- its gate is closed, if its payload begins with no kind of change, or if its length doesn't fit
unfoldable pub look_at : List ℕ → ℕ
look_at bytes =
    cond (nat_le 10 (length bytes))
    (cond (get_or bytes 0 0 == 0) 0 (cond (nat_le 3 (get_or bytes 9 0)) 0 (cond (nat_le (9 + four_at bytes 5) (length bytes)) (9 + four_at bytes 5) 0)))
    0

-- how many bytes are looked at to say that (`look_at`) at each position
unfoldable pub looks : List ℕ → ℕ
looks [] = 0
looks (byte ∷ rest) = look_at (byte ∷ rest) + looks rest

-- to look at each position behind the end takes more than 16 times the bytes there
abbrev pub TakesLong : List ℕ → Extent → Type 0
TakesLong file New = ⊥
TakesLong file (Until Summed end) = 16 * length (drop end file) < looks (drop end file)
TakesLong file (Until Plain end) = ⊥

-- what an opening cuts off a file that goes as far as this, behind a header like the file's
abbrev pub cut_of : List ℕ → Extent → List ℕ
cut_of file New = []
cut_of file (Until format end) = take 13 file ++ drop end file

-- an opening of the file may cut off whole records: `kept` is a header like the file's, and behind it all that is cut
-- off
abbrev pub IsCutOf : List ℕ → List ℕ → Type 0
IsCutOf file kept = (extent : Extent) × HasExtent file extent × ((cuts_records file extent ≡ true) ⊎ TakesLong file extent) × (kept ≡ cut_of file extent)

-- the file represents no records, and an opening refuses it; or an opening would cut off no whole record
abbrev pub CutsNone : List ℕ → Type 0
CutsNone file = (file_payloads file ≡ None) ⊎ ((extent : Extent) × HasExtent file extent × (cuts_records file extent ≡ false))

-- a file was opened at this path, as a new one or as one that was there. `opening` is how it was
abbrev pub IsOpenedAt : List ℕ → List Call → Type 0
IsOpenedAt path opening = (opening ≡ opened_new path ∷ []) ⊎ (opening ≡ opened_existing path ∷ [])
