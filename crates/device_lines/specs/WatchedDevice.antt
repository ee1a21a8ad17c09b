-- What a caller sees of a watched reader or writer.
use Rattle.std.specs.Prelude.{ℕ, Bool, true, ◌&&◌, ◌==◌, ◌<◌, not, List, length, Result, Ok, Err}
use Rattle.std.specs.Prelude.{Option, None, Some, ⊤}
use Rattle.std.specs.Io.KnownBytes.{Appends}
use Rattle.device_lines.specs.declared.watched.Watched.{Watched}

-- the reader or writer inside a `Watched`
abbrev pub device_of : {D : Type 0} → Watched D → D
device_of w = w.device

-- the device inside a watched writer, which reports its bytes by `contents`, holds these bytes behind what it held (`Appends`)
abbrev pub DeviceAppends : {D : Type 0} → (D → Option (List ℕ)) → Watched D → Watched D → List ℕ → Type 0
DeviceAppends contents before after bytes = Appends (contents (device_of before)) (contents (device_of after)) bytes

-- whether one of its calls has failed so far
abbrev pub has_failed : {D : Type 0} → Watched D → Bool
has_failed w = w.failed

-- whether one of its reads was broken off so far, by a fault that is neither an end of the input nor an interruption
abbrev pub is_broken : {D : Type 0} → Watched D → Bool
is_broken w = w.broken

-- whether one of its reads returned an end of the input as a fault so far
abbrev pub is_cut : {D : Type 0} → Watched D → Bool
is_cut w = w.cut

-- a write of these bytes returned a fault, or took none of some bytes
abbrev pub is_write_fault : {E : Type 0} → Result ℕ E → List ℕ → Bool
is_write_fault (Ok n) bytes = n == 0 && not (length bytes == 0)
is_write_fault (Err e) bytes = true

-- fewer than n bytes are left
abbrev pub EndsWithin : Option (List ℕ) → ℕ → Type 0
EndsWithin None n = ⊤
EndsWithin (Some bytes) n = length bytes < n
