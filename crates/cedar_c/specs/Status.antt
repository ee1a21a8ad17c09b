-- The numbers that calls from C return.
use Rattle.std.specs.Prelude.{◌≡◌, ◌⊎◌, ℕ, List, [], ◌∷◌, ◌==◌, codes, if◌then◌else◌, None}
use Rattle.cedar_c.specs.declared.status.TheConstants.{OK, CLOSED, MEMORY, SLOT_LIMIT, EMPTY_KEY}
use Rattle.cedar_c.specs.declared.status.TheConstants.{NUL_BYTE, INVALID_VALUE, INVALID_MAX_TRIAL}
use Rattle.cedar_c.specs.declared.status.TheConstants.{DUPLICATE_KEY, KEYS_NOT_SORTED, NO_ROOM}
use Rattle.cedar_c.specs.declared.status.TheConstants.{NOT_ASCENDING, PATTERN_TOO_LONG, QUERY_NOT_UTF8}
use Rattle.cedar_c.specs.declared.status.TheConstants.{FILE_TRUNCATED, FILE_MAGIC}
use Rattle.cedar_c.specs.declared.status.TheConstants.{FILE_VERSION, FILE_BYTE_ORDER, FILE_LAYOUT}
use Rattle.cedar_c.specs.declared.status.TheConstants.{FILE_HEADER, FILE_MEMORY_LIMIT, FILE_CORRUPT}
use Rattle.cedar_c.specs.declared.status.TheConstants.{FILE_TRAILING, FILE_UNREAD, STORE_CORRUPT}
use Rattle.cedar_c.specs.declared.status.TheConstants.{STORE_DAMAGED, STORE_DEVICE, STORE_FAILED}
use Rattle.cedar_c.specs.declared.status.TheConstants.{STORE_FOREIGN, STORE_FULL, STORE_KEPT}
use Rattle.cedar_c.specs.declared.status.TheConstants.{STORE_LOCKED, STORE_NO_ROOM, STORE_READ_ONLY}
use Rattle.cedar_c.specs.declared.status.TheConstants.{STORE_TOO_LONG, UNKNOWN_SEARCH}
use Rattle.cedarwood.specs.Tree.{Tree, number_at}
use Rattle.cedarwood.specs.declared.error.CedarError.{CedarError}
use Rattle.cedarwood.specs.declared.error.CedarError.TheVariants.{EmptyKey, NulByte, InvalidValue}
use Rattle.cedarwood.specs.declared.error.CedarError.TheVariants.{InvalidMaxTrial, DuplicateKey}
use Rattle.cedarwood.specs.declared.error.CedarError.TheVariants.{KeysNotSorted, Memory, SlotLimit}

-- the number of an error
abbrev pub status_of : CedarError → ℕ
status_of Memory = MEMORY
status_of SlotLimit = SLOT_LIMIT
status_of EmptyKey = EMPTY_KEY
status_of (NulByte p) = NUL_BYTE
status_of (InvalidValue v) = INVALID_VALUE
status_of (InvalidMaxTrial n) = INVALID_MAX_TRIAL
status_of (DuplicateKey i) = DUPLICATE_KEY
status_of (KeysNotSorted i) = KEYS_NOT_SORTED

-- an update is done; or memory or slots were wanting, and this only for a key that isn't held
abbrev pub LacksOnlyNew : Tree → List ℕ → ℕ → Type 0
LacksOnlyNew t key status = (status ≡ OK) ⊎ (((status ≡ MEMORY) ⊎ (status ≡ SLOT_LIMIT)) × (number_at t key ≡ None))

-- the position that an error has: of a byte 0 in its key, or of a pair whose key isn't above the one before it; or
-- what was there before
abbrev pub position_of : ℕ → CedarError → ℕ
position_of before (NulByte p) = p
position_of before (DuplicateKey i) = i
position_of before (KeysNotSorted i) = i
position_of before e = before

-- the numbers of errors that have a position
abbrev pub TellsPosition : ℕ → Type 0
TellsPosition status = (status ≡ NUL_BYTE) ⊎ (status ≡ DUPLICATE_KEY) ⊎ (status ≡ KEYS_NOT_SORTED)

-- the number of this error is returned, and its position written; or that of want of memory is returned. `found` and
-- `told` are the position before and after
abbrev pub TellsFault : ℕ → ℕ → ℕ → CedarError → Type 0
TellsFault found told status e = (status ≡ MEMORY) ⊎ ((status ≡ status_of e) × (told ≡ position_of found e))

-- each number that is returned, with its text: the library's own text of that error if it has one, without numbers
abbrev pub texts_by_status : List (ℕ × List ℕ)
texts_by_status =
    (OK, codes "done")
    ∷ (CLOSED, codes "the dictionary is closed")
    ∷ (MEMORY, codes "out of memory")
    ∷ (SLOT_LIMIT, codes "cedar trie has no slot left")
    ∷ (EMPTY_KEY, codes "cedar keys must not be empty")
    ∷ (NUL_BYTE, codes "cedar keys must not contain the terminal byte 0x00")
    ∷ (INVALID_VALUE, codes "cedar value is outside the supported range 0..=2147483645")
    ∷ (INVALID_MAX_TRIAL, codes "max_trial must be greater than zero")
    ∷ (DUPLICATE_KEY, codes "duplicate key in sorted input")
    ∷ (KEYS_NOT_SORTED, codes "key in sorted input is smaller than its predecessor")
    ∷ (NO_ROOM, codes "the buffer is too short")
    ∷ (NOT_ASCENDING, codes "the labels of the dictionary do not ascend")
    ∷ (PATTERN_TOO_LONG, codes "the pattern has more than 63 bytes")
    ∷ (UNKNOWN_SEARCH, codes "there is no such search")
    ∷ (QUERY_NOT_UTF8, codes "the query is not UTF-8")
    ∷ (FILE_TRUNCATED, codes "serialized cedar trie is truncated")
    ∷ (FILE_MAGIC, codes "input is not a cedarwood serialized trie")
    ∷ (FILE_VERSION, codes "unsupported cedarwood format version")
    ∷ (FILE_BYTE_ORDER, codes "unsupported cedarwood byte-order marker")
    ∷ (FILE_LAYOUT, codes "serialized trie layout does not match")
    ∷ (FILE_HEADER, codes "invalid serialized header field")
    ∷ (FILE_MEMORY_LIMIT, codes "serialized trie requires more bytes while loading than the limit")
    ∷ (FILE_CORRUPT, codes "corrupt serialized trie")
    ∷ (FILE_TRAILING, codes "serialized trie has trailing data")
    ∷ (FILE_UNREAD, codes "persistence I/O error")
    ∷ (STORE_FOREIGN, codes "the file is not of a store")
    ∷ (STORE_CORRUPT, codes "a record of the store's file is no change")
    ∷ (STORE_DEVICE, codes "a call on the store's file failed")
    ∷ (STORE_FAILED, codes "the store has failed: compact it to go on")
    ∷ (STORE_TOO_LONG, codes "the change is too long for a record")
    ∷ (STORE_FULL, codes "the store's file is too long")
    ∷ (STORE_DAMAGED, codes "a record of the store's file is damaged")
    ∷ (STORE_LOCKED, codes "the store is open already, in another program or in this one")
    ∷ (STORE_READ_ONLY, codes "the store was opened to read")
    ∷ (STORE_KEPT, codes "the store's file was kept: a call on the new one failed")
    ∷ (STORE_NO_ROOM, codes "there is no room for the change in the store's file")
    ∷ []

-- the text of a number in such a list, or one text for all numbers that it doesn't have
abbrev pub text_among : List (ℕ × List ℕ) → ℕ → List ℕ
text_among [] status = codes "an error without a text"
text_among (row ∷ rows) status = if row.0 == status then row.1 else text_among rows status

-- the text of a number
abbrev pub status_text : ℕ → List ℕ
status_text status = text_among texts_by_status status
