-- Files and folders that were opened by their paths, as it was noted: each path, and how it was opened.
use Rattle.std.specs.Prelude.{false, true, ℕ, List, [], ◌∷◌}
use Rattle.whole_files.specs.Calls.{Call}

-- something was opened at this path, in one of the ways below
abbrev pub opened_as : ℕ → List ℕ → Call
opened_as way path = (11, way, true, path)

-- a file was opened that the opening created at this path
abbrev pub opened_new : List ℕ → Call
opened_new path = opened_as 2 path

-- the file at this path was opened to be read
abbrev pub opened_to_read : List ℕ → Call
opened_to_read path = opened_as 3 path

-- the folder at this path was opened
abbrev pub opened_folder : List ℕ → Call
opened_folder path = opened_as 4 path

-- something was opened to be written to through a buffer: a new file that was made, or what isn't a file
abbrev pub was_opened : Call
was_opened = opened_as 6 []

-- nothing was begun at this path: an opening failed, or what was to be written there had no memory for its buffer
abbrev pub not_begun : List ℕ → Call
not_begun path = (11, 5, false, path)

-- the path of the newest call
abbrev pub path_of : List Call → List ℕ
path_of [] = []
path_of (call ∷ earlier) = call.3
