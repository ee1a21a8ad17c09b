-- What a file has been asked for.
use Rattle.std.specs.Prelude.{List}
use Rattle.std.specs.declared.io.traits.Read as read
use Rattle.std.specs.declared.io.traits.Write as write
use Rattle.std.specs.declared.io.traits.Seek as seek
use Rattle.cedar_disk.specs.declared.file.FileDevice.{FileDevice}
use Rattle.cedar_disk.specs.Accounts.{calls_of}
use Rattle.whole_files.specs.Calls.{Call}
use Rattle.cedar_disk.specs.PathFiles.{place_opening}

module _ {F A G D : Type 0} {r : read.Ghosts G} {w : write.Ghosts G} {s : seek.Ghosts G} {d : read.Ghosts D} where
  -- the calls on the file of a device, the newest first
  abbrev pub device_calls : FileDevice F A G D r w s d → List Call
  device_calls device = calls_of device.account

  -- how the file of a device was opened
  abbrev pub device_opening : FileDevice F A G D r w s d → List Call
  device_opening device = place_opening device.place
