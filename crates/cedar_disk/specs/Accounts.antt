-- What an account of a file says.
use Rattle.std.specs.Prelude.{List}
use Rattle.std.specs.declared.io.traits.Read as read
use Rattle.std.specs.declared.io.traits.Write as write
use Rattle.std.specs.declared.io.traits.Seek as seek
use Rattle.cedar_disk.specs.declared.account.Account.{Account}
use Rattle.whole_files.specs.Calls.{Call}

module _ {F G D : Type 0} {r : read.Ghosts G} {w : write.Ghosts G} {s : seek.Ghosts G} {d : read.Ghosts D} where
  -- the calls on the file of an account, the newest first
  abbrev pub calls_of : Account F G D r w s d → List Call
  calls_of account = account.file.history.calls
