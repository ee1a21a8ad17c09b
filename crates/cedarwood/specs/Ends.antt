-- The entries at the two ends of a walk.
use Rattle.std.specs.Prelude.{None, Option, slice_get}
use Rattle.std.specs.List.{last_or}
use Rattle.cedar_tree.specs.Tree.{Tree}
use Rattle.cedar_tree.specs.Queries.{Entry, walk}

-- the first entry of `walk t`, or none: that at the least key if labels ascend
abbrev pub first_entry : Tree → Option Entry
first_entry t = slice_get (walk t) 0

-- the last entry of `walk t`, or none: that at the greatest key if labels ascend
abbrev pub last_entry : Tree → Option Entry
last_entry t = last_or None (walk t)
