-- What is known of a file whose calls are noted.
use Rattle.std.specs.Prelude.{Bool, List}
use Rattle.cedar_disk.specs.declared.noted.Noted.{Noted}
use Rattle.whole_files.specs.Calls.{Call}

-- the calls on a file, the newest first
abbrev pub noted_calls : {F G D : Type 0} → Noted F G D → List Call
noted_calls file = file.history.calls

-- whether a file lies beside the one that it is to replace
abbrev pub is_beside : {F G D : Type 0} → Noted F G D → Bool
is_beside file = file.is_beside
