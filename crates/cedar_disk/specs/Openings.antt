-- Files that were opened by their paths to be written, as it was noted: which file was wanted.
use Rattle.std.specs.Prelude.{ℕ, List}
use Rattle.whole_files.specs.Calls.{Call}
use Rattle.whole_files.specs.Openings.{opened_as}
use Rattle.cedar_disk.specs.declared.opening.Wanted.{Wanted}
use Rattle.cedar_disk.specs.declared.opening.Wanted.TheVariants.{Any, Existing, New}

-- in which way a file is opened that is wanted so. One that the opening creates is `opened_new`
abbrev pub way_of : Wanted → ℕ
way_of Any = 0
way_of Existing = 1
way_of New = 2

-- the file at this path was opened, whether it was there or was created
abbrev pub opened_any : List ℕ → Call
opened_any path = opened_as 0 path

-- a file was opened that was there at this path
abbrev pub opened_existing : List ℕ → Call
opened_existing path = opened_as 1 path
