-- Changes of a dictionary as the payload of a record.
use Rattle.std.specs.Prelude.{ℕ, ◌+◌, ◌*◌, ◌==◌, nat_le, cond, ℤ, pos, List, [], ◌∷◌, length, drop}
use Rattle.std.specs.Prelude.{fold, get_or, Option, Some, None, option_map, option_and_then}
use Rattle.cedar_journal.specs.Records.{payloads_in}
use Rattle.cedarwood.specs.State.{State, after_put, after_erase}
use Rattle.cedarwood.specs.declared.error.CedarError.{CedarError}
use Rattle.cedarwood.specs.Fault.{fault}

-- a change of a dictionary
pub data Change : Type 0 where
  -- this value is put at this key
  put_at : List ℕ → ℤ → Change
  -- this key is erased
  erase_at : List ℕ → Change

-- the state after a change
abbrev pub after_change : State → Change → State
after_change s (put_at key v) = after_put s key v
after_change s (erase_at key) = after_erase s key

-- the state after some changes, the first of them first
abbrev pub all_changed : State → List Change → State
all_changed s changes = fold after_change s changes

-- the number of four bytes, the lowest first
abbrev pub number_of_bytes : List ℕ → ℕ
number_of_bytes bytes = get_or bytes 0 0 + 256 * get_or bytes 1 0 + 65536 * get_or bytes 2 0 + 16777216 * get_or bytes 3 0

-- the put of a pair, unless it has a fault
abbrev pub put_unless : Option CedarError → List ℕ → ℤ → Option Change
put_unless None key v = Some (put_at key v)
put_unless (Some e) key v = None

-- the put of these bytes: four of a value, and the key
unfoldable pub put_of : List ℕ → Option Change
put_of bytes = cond (nat_le 4 (length bytes)) (put_unless (fault (drop 4 bytes) (pos (number_of_bytes bytes))) (drop 4 bytes) (pos (number_of_bytes bytes))) None

-- the one change of a payload, or none if it has none. 0 and a key: the key is erased. 1, four bytes of a value and a
-- key: the value is put there
unfoldable pub change_of : List ℕ → Option Change
change_of [] = None
change_of (operation ∷ rest) = cond (operation == 0) (Some (erase_at rest)) (cond (operation == 1) (put_of rest) None)

-- the change of each of some payloads; none if one of them has none
abbrev pub each_change : List (List ℕ) → Option (List Change)
each_change [] = Some []
each_change (payload ∷ payloads) = option_and_then (λ c. option_map (λ changes. c ∷ changes) (each_change payloads)) (change_of payload)

-- how many bytes the records of some payloads have
abbrev pub records_length : List (List ℕ) → ℕ
records_length [] = 0
records_length (payload ∷ payloads) = 5 + length payload + records_length payloads

-- the changes of a batch's records, which are one behind another with nothing behind the last of them; none if one of
-- them has none
unfoldable pub batch_of : List ℕ → Option (List Change)
batch_of bytes = cond (records_length (payloads_in bytes) == length bytes) (each_change (payloads_in bytes)) None

-- the changes of a payload, or none if it has none: 2 and the records of a batch, or else the one change that it has
-- (`change_of`)
unfoldable pub changes_of : List ℕ → Option (List Change)
changes_of payload = cond (get_or payload 0 0 == 2) (batch_of (drop 1 payload)) (option_map (λ c. c ∷ []) (change_of payload))

-- the state after the changes of a payload
abbrev pub after : State → List ℕ → Option State
after s payload = option_map (all_changed s) (changes_of payload)

-- the state after the changes of some payloads, one after another; none if one of them has none
abbrev pub after_payloads : State → List (List ℕ) → Option State
after_payloads s [] = Some s
after_payloads s (payload ∷ payloads) = option_and_then (λ t. after_payloads t payloads) (after s payload)
