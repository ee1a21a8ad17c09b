-- Texts and keys that are UTF-8, and which tokens are whole characters.
use Rattle.std.specs.Prelude.{◌≡◌, ◌↔◌, ℕ, ◌+◌, ◌<◌, ℤ, List, MatchOption, Some}
use Rattle.std.specs.Prelude.{slice_index, IsUtf8, IsCharBoundary}
use Rattle.cedarwood.specs.Tree.{Tree, number_at}
use Rattle.cedar_words.specs.Tokens.{Token}

-- each key is UTF-8
abbrev pub HasUtf8Keys : Tree → Type 0
HasUtf8Keys tree = (key : List ℕ) (number : ℤ) → number_at tree key ≡ Some number → IsUtf8 key

-- so many bytes of a text from a position on are whole characters: they begin and end where characters do, or the
-- text
abbrev pub AreWholeCharacters : List ℕ → ℕ → ℕ → Type 0
AreWholeCharacters text place len = IsCharBoundary text place × IsCharBoundary text (place + len)

-- a token with a number is whole characters. One without a number is so exactly if its byte is below 128
abbrev pub PartsNoCharacter : List ℕ → Token → Type 0
PartsNoCharacter text t = MatchOption t.2 (AreWholeCharacters text t.0 t.1 ↔ (slice_index text t.0 < 128)) (λ _. AreWholeCharacters text t.0 t.1)
