-- Parts of a text that tokens and keywords are.
use Rattle.std.specs.Prelude.{ℕ, ℤ, List, take, drop}
use Rattle.cedar_words.specs.Words.{Spot, Token}

-- the bytes of a token
abbrev pub piece_of : List ℕ → Token → List ℕ
piece_of text t = take t.1 (drop t.0 text)

-- the bytes of a keyword, and its number
abbrev pub term_of : List ℕ → Spot → List ℕ × ℤ
term_of text s = (take s.1 (drop s.0 text), s.2)
