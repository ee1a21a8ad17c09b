-- The updates of a batch, linked by the places of their keys: each to the one before it whose key has the same place.
use Rattle.std.specs.Prelude.{◌≡◌, ℕ, zero, suc, ◌+◌, ◌*◌, ◌%◌, ◌<◌, Bool, false, true, cond, List}
use Rattle.std.specs.Prelude.{fold, get_or, length, nat_eq, set}
use Rattle.cedar_store.specs.Batches.{change_at}
use Rattle.cedar_store.specs.Changes.{Change, put_at, erase_at}

-- the sum over a key's bytes, with one byte more
abbrev pub sum_with : ℕ → ℕ → ℕ
sum_with sum byte = (sum + byte) * 16777619 % 4294967296

-- the place of a key, of so many: what the sum over its bytes leaves when it is divided by their number
unfoldable pub key_place : ℕ → List ℕ → ℕ
key_place places key = fold sum_with 0 key % places

-- whether a change puts a value at a key that has this place, of so many
abbrev pub puts_in : ℕ → ℕ → Change → Bool
puts_in places place (put_at key v) = nat_eq (key_place places key) place
puts_in places place (erase_at key) = false

-- 1 + the index of the last of the first i changes that puts a value at a key with this place, of so many; 0 if none
-- does
abbrev pub last_put : ℕ → ℕ → List Change → ℕ → ℕ
last_put places place changes zero = 0
last_put places place changes (suc i) = cond (puts_in places place (change_at changes i)) (suc i) (last_put places place changes i)

-- the updates among the first n changes are linked: there is a head for each place, and a link for each change
pub record AreLinkedPuts (heads links : List ℕ) (changes : List Change) (n : ℕ) : Type 0 where
  pub many : length links ≡ length changes
  -- the head of a place is its last update
  pub last : (place : ℕ) → place < length heads → get_or heads place 0 ≡ last_put (length heads) place changes n
  -- the link of an update is the last one before it with the same place
  pub before : (i place : ℕ) → i < n → puts_in (length heads) place (change_at changes i) ≡ true → get_or links i 0 ≡ last_put (length heads) place changes i

-- the updates of some changes are linked, unless there are no heads
abbrev pub AreLastPuts : List ℕ → List ℕ → List Change → Type 0
AreLastPuts heads links changes = 0 < length heads → AreLinkedPuts heads links changes (length changes)

-- the heads once the change at an index is linked
abbrev pub heads_with : List ℕ → ℕ → Change → List ℕ
heads_with heads i (put_at key v) = set heads (key_place (length heads) key) (i + 1)
heads_with heads i (erase_at key) = heads

-- the links once the change at an index is linked
abbrev pub links_with : List ℕ → List ℕ → ℕ → Change → List ℕ
links_with heads links i (put_at key v) = set links i (get_or heads (key_place (length heads) key) 0)
links_with heads links i (erase_at key) = links
