-- A text that is cut into tokens: from each position the longest key that a tree holds there, or else one byte.
use Rattle.std.specs.Prelude.{◌≡◌, ℕ, zero, suc, ◌+◌, ◌-◌, ◌<◌, ◌≤◌, ℤ, List, [], ◌∷◌, length, drop}
use Rattle.std.specs.Prelude.{take, sum, map, Option, Some, None, option_map}
use Rattle.std.specs.List.{last_or}
use Rattle.cedarwood.specs.Tree.{Tree, number_at}
use Rattle.cedarwood.specs.Queries.{front}

-- a token of a text: where it begins, how many bytes it has, and its number if it has one
abbrev pub Token : Type 0
Token = ℕ × ℕ × Option ℤ

-- the longest front of a text that is held: its number, and one less than its bytes
abbrev pub longest : Tree → List ℕ → Option (ℤ × ℕ)
longest tree text = last_or None (front tree text)

-- how many bytes a token has for which `longest` gave this: one if it gave nothing
abbrev pub len_of : Option (ℤ × ℕ) → ℕ
len_of None = 1
len_of (Some found) = found.1 + 1

-- the number of a token for which `longest` gave this
abbrev pub found_number : Option (ℤ × ℕ) → Option ℤ
found_number found = option_map (λ f. f.0) found

-- the tokens of a text that are left if these bytes are left from a position on and the first `taken` of them belong
-- to the token before
abbrev pub tokens_behind : Tree → ℕ → ℕ → List ℕ → List Token
tokens_behind tree taken place [] = []
tokens_behind tree (suc taken) place (b ∷ rest) = tokens_behind tree taken (place + 1) rest
tokens_behind tree zero place (b ∷ rest) =
    let found = longest tree (b ∷ rest) in
    (place, len_of found, found_number found) ∷ tokens_behind tree (len_of found - 1) (place + 1) rest

-- the two equations of the tokens of these bytes from a position on: the first one, and then those from its end on
abbrev pub TokensGoOn : Tree → ℕ → List ℕ → Type 0
TokensGoOn tree place text = 0 < length text → (found : Option (ℤ × ℕ)) → longest tree text ≡ found
    → tokens_behind tree 0 place text ≡ (place, len_of found, found_number found) ∷ tokens_behind tree 0 (place + len_of found) (drop (len_of found) text)

-- the tokens of a text
abbrev pub segments : Tree → List ℕ → List Token
segments tree text = tokens_behind tree 0 0 text

-- how many bytes some tokens have
abbrev pub bytes_in : List Token → ℕ
bytes_in tokens = sum (map (λ t. t.1) tokens)

-- from a position to an end each token begins where the one before it ended, and has one byte or more
abbrev pub AreAdjacent : List Token → ℕ → ℕ → Type 0
AreAdjacent [] place end = place ≡ end
AreAdjacent (t ∷ tokens) place end = (t.0 ≡ place) × (0 < t.1) × AreAdjacent tokens (place + t.1) end

-- the token's number is what its bytes hold, nothing longer from its position on is held, and without a number it is
-- one byte
abbrev pub IsLongest : Tree → List ℕ → Token → Type 0
IsLongest tree text t =
    (number_at tree (take t.1 (drop t.0 text)) ≡ t.2)
    × ((n : ℕ) → t.1 < n → n ≤ length (drop t.0 text) → number_at tree (take n (drop t.0 text)) ≡ None)
    × (t.2 ≡ None → t.1 ≡ 1)
