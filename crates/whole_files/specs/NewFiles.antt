-- What a new file holds.
use Rattle.std.specs.Prelude.{ℕ, List}
use Rattle.std.specs.declared.io.traits.Read as read
use Rattle.std.specs.declared.io.traits.Write as write
use Rattle.std.specs.declared.io.traits.Seek as seek
use Rattle.whole_files.specs.declared.whole.NewFile.{NewFile}
use Rattle.whole_files.specs.Calls.{Call, seen_after}
use Rattle.whole_files.specs.NotedFiles.{beside_calls}

module _ {F G D : Type 0} {r : read.Ghosts G} {w : write.Ghosts G} {s : seek.Ghosts G} {d : read.Ghosts D} where
  -- the calls on a new file, the newest first
  abbrev pub new_calls : NewFile F G D r w s d → List Call
  new_calls new = beside_calls new.file

  -- the path whose place a new file is to take, as bytes
  abbrev pub new_path : NewFile F G D r w s d → List ℕ
  new_path new = new.path.now

  -- what was written to a new file
  abbrev pub new_bytes : NewFile F G D r w s d → List ℕ
  new_bytes new = seen_after (new_calls new)
