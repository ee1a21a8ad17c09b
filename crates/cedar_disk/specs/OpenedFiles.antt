-- What is known of a file that was found by its path.
use Rattle.std.specs.Prelude.{ℕ, List}
use Rattle.std.specs.Path.{path_buf_bytes}
use Rattle.whole_files.specs.Calls.{Call}
use Rattle.cedar_disk.specs.declared.opening.Found.{Found}

-- how a file was found
abbrev pub found_calls : {F A : Type 0} → Found F A → List Call
found_calls found = found.history.calls

-- the path of a file that was found, with no link in it, as bytes
abbrev pub found_path : {F A : Type 0} → Found F A → List ℕ
found_path found = path_buf_bytes found.path
