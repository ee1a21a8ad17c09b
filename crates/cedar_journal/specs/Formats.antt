-- The two formats of records, and what is read of them. A record of version 2 is a gate, a sum in four bytes, the length of its payload in
-- four bytes, the lowest first, and the payload. The sum is the CRC-32C of what follows it. Any gate but 0 is open.
use Rattle.std.specs.Prelude.{◌≡◌, ℕ, zero, suc, ◌+◌, ◌-◌, ◌*◌, ◌&&◌, ◌||◌, ◌==◌, nat_le, Bool}
use Rattle.std.specs.Prelude.{List, [], ◌∷◌, ◌++◌, length, take, drop, get_or, cond}
use Rattle.crc32c.specs.Sums.{crc32c}
use Rattle.cedar_journal.specs.declared.format.Format.{Format}
use Rattle.cedar_journal.specs.declared.format.Format.TheVariants.{Plain, Summed}
use Rattle.cedar_journal.specs.Records.{length_bytes, payloads_in}

-- how many bytes a record has besides its payload
abbrev pub overhead : Format → ℕ
overhead Plain = 5
overhead Summed = 9

-- what some records are read as
pub data Reading : Type 0 where
  -- these payloads
  stands : List (List ℕ) → Reading
  -- the record that begins at this position is damaged
  damaged : ℕ → Reading

-- what is read if n bytes with these payloads come before
abbrev pub read_behind : ℕ → List (List ℕ) → Reading → Reading
read_behind n before (stands payloads) = stands (before ++ payloads)
read_behind n before (damaged at) = damaged (n + at)

-- the payloads of what is read; the empty list if a record is damaged
abbrev pub payloads_read : Reading → List (List ℕ)
payloads_read (stands payloads) = payloads
payloads_read (damaged at) = []

-- the number of four bytes from a position on, the lowest first
abbrev pub four_at : List ℕ → ℕ → ℕ
four_at bytes at = get_or bytes at 0 + 256 * get_or bytes (at + 1) 0 + 65536 * get_or bytes (at + 2) 0 + 16777216 * get_or bytes (at + 3) 0

-- whether nothing that counts begins there: there is a closed gate, or a gate and nothing behind it, or no gate
unfoldable pub is_ended : List ℕ → Bool
is_ended bytes = get_or bytes 0 0 == 0 || nat_le (length bytes) 1

-- whether the record of version 2 there is whole, and has its sum
unfoldable pub is_summed : List ℕ → Bool
is_summed bytes = nat_le (9 + four_at bytes 5) (length bytes) && crc32c (take (4 + four_at bytes 5) (drop 5 bytes)) == four_at bytes 1

-- what at most n records of version 2 are read as, up to the first that doesn't count
unfoldable pub read_first : ℕ → List ℕ → Reading
read_first zero bytes = stands []
read_first (suc n) bytes =
    cond (is_ended bytes) (stands [])
    (cond (is_summed bytes) (read_behind (9 + four_at bytes 5) (take (four_at bytes 5) (drop 9 bytes) ∷ []) (read_first n (drop (9 + four_at bytes 5) bytes))) (damaged 0))

-- what the records of a format are read as. There are no more of them than bytes
unfoldable pub records_read : Format → List ℕ → Reading
records_read Plain bytes = stands (payloads_in bytes)
records_read Summed bytes = read_first (length bytes) bytes

-- some records are read as one with this payload, and then those behind it
abbrev pub BeginsWithRecord : Format → List ℕ → List ℕ → Type 0
BeginsWithRecord format bytes payload =
    records_read format bytes
    ≡ read_behind (overhead format + length payload) (payload ∷ []) (records_read format (drop (overhead format + length payload) bytes))

-- none of these records is damaged
abbrev pub AreUndamaged : Format → List ℕ → Type 0
AreUndamaged format bytes = (payloads : List (List ℕ)) × (records_read format bytes ≡ stands payloads)

-- whole records with these payloads, behind which all is read as if it were alone
abbrev pub ArePieces : Format → List ℕ → List (List ℕ) → Type 0
ArePieces format front payloads = (rest : List ℕ) → records_read format (front ++ rest) ≡ read_behind (length front) payloads (records_read format rest)

-- whole records of a format, behind which all is read as if it were alone
abbrev pub AreWhole : Format → List ℕ → Type 0
AreWhole format front = ArePieces format front (payloads_read (records_read format front))

-- the gate of a record that counts, as it is written
abbrev pub opening : Format → ℕ
opening Plain = 1
opening Summed = 255

-- the sum of a record with this payload
abbrev pub sum_of : List ℕ → ℕ
sum_of payload = crc32c (length_bytes (length payload) ++ payload)

-- what is between the gate and the payload of a record: its sum if it has one, and its length
abbrev pub record_head : Format → List ℕ → List ℕ
record_head Plain payload = length_bytes (length payload)
record_head Summed payload = length_bytes (sum_of payload) ++ length_bytes (length payload)

-- what follows the gate of a record with this payload, with a closed gate behind it
abbrev pub frame_of : Format → List ℕ → List ℕ
frame_of format payload = record_head format payload ++ (payload ++ 0 ∷ [])

-- the payload of a record of version 2 of which these bytes follow the gate
abbrev pub payload_of_frame : List ℕ → List ℕ
payload_of_frame bytes = take (length bytes - 9) (drop 8 bytes)
