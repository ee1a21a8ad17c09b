-- The name of the file that is to take the place of a store's.
use Rattle.std.specs.Prelude.{◌++◌, codes, ℕ, List}

-- what ends the name of the file that is to take the place of a store's: `.cedar-compaction`
abbrev pub compaction_suffix : List ℕ
compaction_suffix = codes ".cedar-compaction"

-- the path of the file that is to take the place of the one at a path
abbrev pub compaction_path : List ℕ → List ℕ
compaction_path path = path ++ compaction_suffix
