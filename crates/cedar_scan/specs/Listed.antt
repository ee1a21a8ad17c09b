-- The keys of an automaton, as they are listed.
use Rattle.std.specs.Prelude.{◌≡◌, ℕ, zero, suc, ◌<◌, ℤ, pos, List, [], ◌∷◌, ◌++◌, length, slice_index_or, MatchOption}
use Rattle.cedar_scan.specs.declared.state.ListedKey.{ListedKey}
use Rattle.cedar_scan.specs.declared.state.PlacedNode.{PlacedNode}

-- what is listed where no key is
abbrev pub no_key : ListedKey
no_key = record { len = 0; value = pos 0; next = 0 }

-- what is listed at an index, and no key past the end
abbrev pub listed_at : List ListedKey → ℕ → ListedKey
listed_at keys k = slice_index_or keys k (record { len = 0; value = pos 0; next = 0 })

-- the keys that a list links from an index on, and at most so many: for each its number, and how many bytes it has
abbrev pub keys_along : ℕ → List ListedKey → ℕ → List (ℤ × ℕ)
keys_along zero keys k = []
keys_along (suc n) keys zero = []
keys_along (suc n) keys (suc k) = ((listed_at keys (suc k)).value, (listed_at keys (suc k)).len) ∷ keys_along n keys (listed_at keys (suc k)).next

-- the keys that a list links from an index on: each one's index is below that of the one before
abbrev pub keys_from : List ListedKey → ℕ → List (ℤ × ℕ)
keys_from keys k = keys_along k keys k

-- listed keys: none is at index 0, and each is linked to one before it, or to none
pub record AreListedKeys (keys : List ListedKey) : Type 0 where
  pub some : 0 < length keys
  pub down : (k : ℕ) → 0 < k → k < length keys → (listed_at keys k).next < k

-- what a node adds to a list of keys, and the index of the longest key that ends where its path does, by that of the longest shorter one
abbrev pub ListsKey : PlacedNode → ℕ → List ListedKey → ℕ → List ListedKey → Type 0
ListsKey n shorter old index new =
    MatchOption n.number ((index ≡ shorter) × (new ≡ old)) (λ v. (index ≡ length old) × (new ≡ old ++ record { len = n.depth; value = v; next = shorter } ∷ []))
