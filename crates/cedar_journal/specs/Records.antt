-- Records of version 1, one after another. A record is a gate, the length of its payload in four bytes, the lowest
-- first, and the payload. It counts if its gate is open (1) and all of it is there.
use Rattle.std.specs.Prelude.{◌≡◌, ℕ, zero, suc, ◌+◌, ◌*◌, ◌/◌, ◌%◌, ◌&&◌, ◌==◌, nat_le, Bool, List}
use Rattle.std.specs.Prelude.{[], ◌∷◌, ◌++◌, length, take, drop, get_or, cond}

-- the length that a record names, whether it is there or not
abbrev pub payload_length : List ℕ → ℕ
payload_length bytes = get_or bytes 1 0 + 256 * get_or bytes 2 0 + 65536 * get_or bytes 3 0 + 16777216 * get_or bytes 4 0

-- whether the gate of the first record is open, and all of it is there
unfoldable pub has_record : List ℕ → Bool
has_record bytes = get_or bytes 0 0 == 1 && nat_le (5 + payload_length bytes) (length bytes)

-- the payload of the first record
unfoldable pub payload : List ℕ → List ℕ
payload bytes = take (payload_length bytes) (drop 5 bytes)

-- what follows the first record
unfoldable pub behind_record : List ℕ → List ℕ
behind_record bytes = drop (5 + payload_length bytes) bytes

-- the payloads of at most n records, up to the first that doesn't count
unfoldable pub first_payloads : ℕ → List ℕ → List (List ℕ)
first_payloads zero bytes = []
first_payloads (suc n) bytes = cond (has_record bytes) (payload bytes ∷ first_payloads n (behind_record bytes)) []

-- the payloads of all records up to the first that doesn't count. There are no more of them than bytes
unfoldable pub payloads_in : List ℕ → List (List ℕ)
payloads_in bytes = first_payloads (length bytes) bytes

-- whole records, behind which all is read as if it were alone
abbrev pub AreWholeRecords : List ℕ → Type 0
AreWholeRecords front = (rest : List ℕ) → payloads_in (front ++ rest) ≡ payloads_in front ++ payloads_in rest

-- a length in four bytes, the lowest first
abbrev pub length_bytes : ℕ → List ℕ
length_bytes n = n % 256 ∷ n / 256 % 256 ∷ n / 65536 % 256 ∷ n / 16777216 % 256 ∷ []

-- what follows the gate of a record with this payload, with a closed gate behind it
abbrev pub frame_body : List ℕ → List ℕ
frame_body payload = length_bytes (length payload) ++ (payload ++ 0 ∷ [])
