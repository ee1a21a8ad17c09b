-- The entries of a tree whose keys lie in a range.
use Rattle.std.specs.Prelude.{ℕ, ℤ, ◌+◌, nat_eq, nat_lt, if◌then◌else◌, List, ◌++◌}
use Rattle.std.specs.Prelude.{filter, None, Option, option_map}
use Rattle.std.specs.List.{last_or, starts_with}
use Rattle.std.specs.Cmp.Lexicographic.{slice_cmp}
use Rattle.std.specs.Ordering.{is_ge, nat_cmp}
use Rattle.cedar_model.specs.Tree.{Forest, none, child, Tree}
use Rattle.cedar_model.specs.Queries.{Entry, front, walk}

-- the last of `front t text`, the longest nonempty front of a text that is held, as its number and how many bytes it
-- has, or none
abbrev pub longest_front : Tree → List ℕ → Option (ℤ × ℕ)
longest_front t text = option_map (λ found. (found.0, found.1 + 1)) (last_or None (front t text))

-- of the walk the entries whose path begins with q
abbrev pub entries_with : Tree → List ℕ → List Entry
entries_with t q = filter (λ e. starts_with nat_eq e.0 q) (walk t)

-- an entry of the node at a path as one of the whole tree
abbrev pub behind_path : List ℕ → Entry → Entry
behind_path q entry = (q ++ entry.0, entry.1)

-- of the walk the entries whose path is q or comes after q by bytes
abbrev pub entries_since : Tree → List ℕ → List Entry
entries_since t q = filter (λ e. is_ge (slice_cmp nat_cmp e.0 q)) (walk t)

-- of siblings whose labels ascend those above a label
abbrev pub siblings_above : Forest → ℕ → Forest
siblings_above none label = none
siblings_above (child l n below rest) label =
    if nat_lt label l then child l n below rest else siblings_above rest label
