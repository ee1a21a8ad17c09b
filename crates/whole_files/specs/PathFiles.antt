-- What was done at a path.
use Rattle.std.specs.Prelude.{List}
use Rattle.whole_files.specs.declared.noted.PathCalls.{PathCalls}
use Rattle.whole_files.specs.Calls.{Call}

-- the calls on the file that was made beside the one at a path, the newest first
abbrev pub path_calls : {F : Type 0} → PathCalls F → List Call
path_calls calls = calls.history.calls
