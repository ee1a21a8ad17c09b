-- Where a file lies.
use Rattle.std.specs.Prelude.{ℕ, List}
use Rattle.std.specs.declared.io.traits.Read as read
use Rattle.std.specs.declared.io.traits.Write as write
use Rattle.std.specs.declared.io.traits.Seek as seek
use Rattle.cedar_disk.specs.declared.noted.Place.{Place}
use Rattle.whole_files.specs.Calls.{Call}
use Rattle.cedar_disk.specs.OpenedFiles.{found_calls, found_path}

module _ {F A G D : Type 0} {r : read.Ghosts G} {w : write.Ghosts G} {s : seek.Ghosts G} {d : read.Ghosts D} where
  -- the path of a place, as bytes
  abbrev pub place_path : Place F A G D r w s d → List ℕ
  place_path place = found_path place.found

  -- how the file of a place was opened
  abbrev pub place_opening : Place F A G D r w s d → List Call
  place_opening place = found_calls place.found
