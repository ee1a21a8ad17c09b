-- How many nodes there are.
use Rattle.std.specs.Prelude.{ℕ, ◌+◌}
use Rattle.cedar_tree.specs.Tree.{child, Forest, none}

-- how many nodes some siblings are, with those below them
abbrev pub count_below : Forest → ℕ
count_below none = 0
count_below (child l n below rest) = count_below below + count_below rest + 1
