-- What a journal's file represents. Its first record is the header. The header's payload names what the file is, and
-- the format of the other records.
use Rattle.std.specs.Prelude.{◌≡◌, ℕ, ◌-◌, ◌≤◌, ◌<◌, ◌&&◌, ◌||◌, ◌==◌, nat_eq, nat_le, Bool, true}
use Rattle.std.specs.Prelude.{false, List, [], ◌∷◌, ◌++◌, length, take, drop, get_or, slice_index}
use Rattle.std.specs.Prelude.{cond, Option, Some, None}
use Rattle.std.specs.List.{starts_with}
use Rattle.cedar_journal.specs.declared.format.Format.{Format}
use Rattle.cedar_journal.specs.declared.format.Format.TheVariants.{Plain, Summed}
use Rattle.cedar_journal.specs.declared.records.Extent.{Extent}
use Rattle.cedar_journal.specs.declared.records.Extent.TheVariants.{New, Until}
use Rattle.cedar_journal.specs.declared.records.FileFault.{FileFault}
use Rattle.cedar_journal.specs.declared.records.FileFault.TheVariants as fault
use Rattle.cedar_journal.specs.declared.records.Next.{Next}
use Rattle.cedar_journal.specs.declared.records.Next.TheVariants as next
use Rattle.cedar_journal.specs.Formats.{ArePieces, AreUndamaged, Reading, read_behind, damaged}
use Rattle.cedar_journal.specs.Formats.{payloads_read, records_read, stands}
use Rattle.cedar_journal.specs.Records.{frame_body}

-- the payload of a header: `CEDARJ` and two bytes that name the version
abbrev pub magic_of : Format → List ℕ
magic_of Plain = 67 ∷ 69 ∷ 68 ∷ 65 ∷ 82 ∷ 74 ∷ 0 ∷ 0 ∷ []
magic_of Summed = 67 ∷ 69 ∷ 68 ∷ 65 ∷ 82 ∷ 74 ∷ 2 ∷ 253 ∷ []

-- what follows the gate of a header, with a closed gate behind it
abbrev pub header_frame : Format → List ℕ
header_frame format = frame_body (magic_of format)

-- the bytes of a header: its gate is open
abbrev pub journal_header : Format → List ℕ
journal_header format = 1 ∷ 8 ∷ 0 ∷ 0 ∷ 0 ∷ magic_of format

-- the format that a file's header names, or none if there is no whole header
unfoldable pub format_of : List ℕ → Option Format
format_of file =
    cond (starts_with nat_eq file (journal_header Summed)) (Some Summed)
    (cond (starts_with nat_eq file (journal_header Plain)) (Some Plain) None)

-- whether a file is a header that was cut short. Its gate, whatever that is, is followed by a front of what belongs
-- there; or its gate is closed, and there are no more bytes than a header and a closed gate have. An empty file is
-- one
unfoldable pub is_begun : List ℕ → Bool
is_begun file =
    starts_with nat_eq (header_frame Summed) (drop 1 file) || (starts_with nat_eq (header_frame Plain) (drop 1 file) || (get_or file 0 0 == 0 && nat_le (length file) 14))

-- what a file is read as by the format of its header
abbrev pub read_by : Option Format → List ℕ → Option Reading
read_by None file = cond (is_begun file) (Some (stands [])) None
read_by (Some format) file = Some (read_behind 13 [] (records_read format (drop 13 file)))

-- what a file is read as, whatever a crash made of it; none if it is of another kind
unfoldable pub file_reading : List ℕ → Option Reading
file_reading file = read_by (format_of file) file

-- the payloads of what a file is read as; none if it is of another kind, or a record is damaged
abbrev pub recovered_by : Option Reading → Option (List (List ℕ))
recovered_by None = None
recovered_by (Some (damaged at)) = None
recovered_by (Some (stands payloads)) = Some payloads

-- the payloads that a file represents, whatever a crash made of it; none if it is refused
unfoldable pub file_payloads : List ℕ → Option (List (List ℕ))
file_payloads file = recovered_by (file_reading file)

-- a file represents the payloads that another one does (`file_payloads`)
abbrev pub SamePayloads : List ℕ → List ℕ → Type 0
SamePayloads before after = file_payloads after ≡ file_payloads before

-- these payloads and one more; none if there are none
abbrev pub with_payload : List ℕ → Option (List (List ℕ)) → Option (List (List ℕ))
with_payload payload None = None
with_payload payload (Some payloads) = Some (payloads ++ payload ∷ [])

-- a file's header and whole records with these payloads, behind which all is read as if it were alone
abbrev pub IsFileFront : Format → List ℕ → List (List ℕ) → Type 0
IsFileFront format front payloads = (rest : List ℕ) → file_reading (front ++ rest) ≡ Some (read_behind (length front) payloads (records_read format rest))

-- a file's header and whole records, behind which all is read as if it were alone
abbrev pub IsWholeFront : Format → List ℕ → Type 0
IsWholeFront format front = (payloads : List (List ℕ)) × IsFileFront format front payloads

-- nothing that counts begins at the start of these bytes, whatever is cut off their end
abbrev pub EndsThere : Format → List ℕ → Type 0
EndsThere format rest = (n : ℕ) → records_read format (take n rest) ≡ stands []

-- the file is a journal's of this format with a whole header, and its whole records end at `end`
pub record HasRecords (file : List ℕ) (format : Format) (end : ℕ) : Type 0 where
  pub named : format_of file ≡ Some format
  pub within : end ≤ length file
  pub some : 13 ≤ end
  pub front : IsWholeFront format (take end file)
  pub no_more : EndsThere format (drop end file)
  pub sound : AreUndamaged format (drop 13 file)
  pub stands : file_payloads file ≡ Some (payloads_read (records_read format (drop 13 file)))

-- the file is a journal's without a whole header yet
pub record IsNewFile (file : List ℕ) : Type 0 where
  pub unnamed : format_of file ≡ None
  pub begun : is_begun file ≡ true
  pub stands : file_payloads file ≡ Some []

-- how far a journal's file goes: it has no whole header, or its whole records end at a position
abbrev pub HasExtent : List ℕ → Extent → Type 0
HasExtent file New = IsNewFile file
HasExtent file (Until format end) = HasRecords file format end

-- whether there is one more byte behind this position, a closed gate
abbrev pub ends_closed : List ℕ → ℕ → Bool
ends_closed file end = length file - end == 1 && slice_index file end == 0

-- where the records of a file end, once a new file has its header
abbrev pub extent_end : Extent → ℕ
extent_end New = 13
extent_end (Until format end) = end

-- the format of the records of a file, once a new file has its header
abbrev pub extent_format : Extent → Format
extent_format New = Summed
extent_format (Until format end) = format

-- whether a file is a header, whole records and a closed gate, so that nothing is to be mended
abbrev pub is_at_rest : List ℕ → Extent → Bool
is_at_rest file New = false
is_at_rest file (Until format end) = ends_closed file end

-- why a file is refused: it is of another kind, or the record at a position is damaged
abbrev pub IsFault : List ℕ → FileFault → Type 0
IsFault file fault.Foreign = file_reading file ≡ None
IsFault file (fault.Damaged at) = file_reading file ≡ Some (damaged at)

-- what is at the start of some records: a whole one of n bytes, nothing that counts, or a damaged one
abbrev pub IsFoundThere : Format → List ℕ → Next → Type 0
IsFoundThere format bytes (next.Record n) = (0 < n) × (n ≤ length bytes) × (payloads : List (List ℕ)) × ArePieces format (take n bytes) payloads
IsFoundThere format bytes next.End = EndsThere format bytes
IsFoundThere format bytes next.Damaged = records_read format bytes ≡ damaged 0
