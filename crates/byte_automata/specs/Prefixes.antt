-- Bytes that begin with others.
use Rattle.std.specs.Prelude.{ℕ, ◌+◌, Bool, true, false, ◌==◌, ◌&&◌, nat_le, if◌then◌else◌}
use Rattle.std.specs.Prelude.{List, [], ◌∷◌, length, slice_index, Option, Some, None}

-- whether bytes begin with a prefix
abbrev pub begins_with : List ℕ → List ℕ → Bool
begins_with [] bytes = true
begins_with (p ∷ prefix) [] = false
begins_with (p ∷ prefix) (b ∷ bytes) = p == b && begins_with prefix bytes

-- how many bytes of the prefix were read, after one byte more
abbrev pub prefix_after : List ℕ → Option ℕ → ℕ → Option ℕ
prefix_after prefix None byte = None
prefix_after prefix (Some read) byte =
    if nat_le (length prefix) read then Some read else if slice_index prefix read == byte then Some (read + 1) else None

-- whether all of a prefix was read
abbrev pub prefix_ended : List ℕ → Option ℕ → Bool
prefix_ended prefix None = false
prefix_ended prefix (Some read) = nat_le (length prefix) read
