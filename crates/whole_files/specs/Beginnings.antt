-- What is known of the writing of a whole file that was begun, or wasn't.
use Rattle.std.specs.Prelude.{ℕ, List}
use Rattle.std.specs.declared.io.traits.Read as read
use Rattle.std.specs.declared.io.traits.Write as write
use Rattle.std.specs.declared.io.traits.Seek as seek
use Rattle.whole_files.specs.declared.begun.Unplaced.{Unplaced}
use Rattle.whole_files.specs.declared.not_begun.NotBegun.{NotBegun}
use Rattle.whole_files.specs.declared.whole.NewFile.{NewFile}
use Rattle.whole_files.specs.Calls.{Call}
use Rattle.whole_files.specs.NewFiles.{new_bytes, new_path}

-- where nothing was begun
abbrev pub not_begun_calls : {F : Type 0} → NotBegun F → List Call
not_begun_calls failed = failed.history.calls

-- what was opened before the buffer was asked for, where nothing was begun
abbrev pub not_begun_opened : {F : Type 0} → NotBegun F → List Call
not_begun_opened failed = failed.opened.calls

module _ {F G D : Type 0} {r : read.Ghosts G} {w : write.Ghosts G} {s : seek.Ghosts G} {d : read.Ghosts D} where
  -- a new file that is removed where it is dropped
  abbrev pub unplaced_new : Unplaced F G D r w s d → NewFile F G D r w s d
  unplaced_new new = new.file

  -- the path whose place such a file is to take, as bytes
  abbrev pub unplaced_path : Unplaced F G D r w s d → List ℕ
  unplaced_path new = new_path (unplaced_new new)

  -- what was written to such a file
  abbrev pub unplaced_bytes : Unplaced F G D r w s d → List ℕ
  unplaced_bytes new = new_bytes (unplaced_new new)
