-- Keywords in a text.
use Rattle.std.specs.Prelude.{ℕ, ◌+◌, ◌<◌, ◌≤◌, List, length, take, drop, IsSome}
use Rattle.cedarwood.specs.Tree.{Tree, number_at}

-- some bytes of the text, one or more, are a key
abbrev pub HasKeyword : Tree → List ℕ → Type 0
HasKeyword tree text = (place : ℕ) × (len : ℕ) × (0 < len) × (place + len ≤ length text) × IsSome (number_at tree (take len (drop place text)))
