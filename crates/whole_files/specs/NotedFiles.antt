-- What is known of a file that is written beside another one, and whose calls are noted.
use Rattle.std.specs.Prelude.{Bool, List}
use Rattle.whole_files.specs.declared.noted.Noted.{Noted}
use Rattle.whole_files.specs.Calls.{Call}

-- the calls on a file, the newest first
abbrev pub beside_calls : {F G D : Type 0} → Noted F G D → List Call
beside_calls file = file.history.calls

-- how a file was made that lies beside another one: under which name
abbrev pub made_as : {F G D : Type 0} → Noted F G D → List Call
made_as file = file.made.calls

-- whether a file lies beside the one that it is to replace
abbrev pub still_beside : {F G D : Type 0} → Noted F G D → Bool
still_beside file = file.is_beside
