-- What is said of a watched writer to which bytes are written, by what its device reports.
use Rattle.std.specs.Prelude.{◌≡◌, ℕ, ◌<◌, ◌++◌, Bool, true, List, length, Option}
use Rattle.std.specs.Prelude.{Result, Err, OnOk, OnErr}
use Rattle.std.specs.Io.KnownBytes.{Appends}
use Rattle.device_lines.specs.WatchedDevice.{device_of, has_failed}
use Rattle.device_lines.specs.declared.watched.Watched.{Watched}

-- What a device holds is known or not: `Some` bytes, or `None` where it doesn't report it. Below, `held` is what the
-- writer held at first, and `holds` what it holds in the end.

-- a first part of some bytes was written, and not all: nothing, or more, but never the last byte
abbrev pub WritesFront : Option (List ℕ) → Option (List ℕ) → List ℕ → Type 0
WritesFront held holds bytes = (part : List ℕ) × (rest : List ℕ) × (0 < length rest) × (bytes ≡ part ++ rest) × Appends held holds part

-- the first ones of some bytes were written, or all, and nothing else
abbrev pub AppendsFront : Option (List ℕ) → Option (List ℕ) → List ℕ → Type 0
AppendsFront held holds bytes = (part : List ℕ) × (rest : List ℕ) × (bytes ≡ part ++ rest) × Appends held holds part

-- a writer took these bytes, as far as its device reports what it holds (`contents`)
abbrev pub Writes : {D : Type 0} → (D → Option (List ℕ)) → Watched D → Watched D → List ℕ → Type 0
Writes contents before after bytes = Appends (contents (device_of before)) (contents (device_of after)) bytes

-- a writer took a first part of these bytes, and not all
abbrev pub BreaksOff : {D : Type 0} → (D → Option (List ℕ)) → Watched D → Watched D → List ℕ → Type 0
BreaksOff contents before after bytes = WritesFront (contents (device_of before)) (contents (device_of after)) bytes

-- a writer took the first ones of these bytes, or all
abbrev pub WritesUpTo : {D : Type 0} → (D → Option (List ℕ)) → Watched D → Watched D → List ℕ → Type 0
WritesUpTo contents before after bytes = AppendsFront (contents (device_of before)) (contents (device_of after)) bytes

-- a call of a writer that fails by this error alone: bytes were written without a fault, or the writer failed.
-- `before` and `after` are whether it had failed before the call and after it
pub record WritesOrFails {X E : Type 0} (fault : E) (before after : Bool) (result : Result X E) : Type 0 where
  pub unfailed : OnOk result (after ≡ before)
  pub cause : OnErr result ((result ≡ Err fault) × (after ≡ true))

-- a call that writes these bytes, and fails by this error alone. If it returns Ok, the writer took them all, and didn't
-- fail; else it took a first part of them, and not all, and failed
pub record WritesBytes {X E D : Type 0} (contents : D → Option (List ℕ)) (fault : E) (before after : Watched D) (bytes : List ℕ) (result : Result X E) : Type 0 where
  pub ok : OnOk result (Writes contents before after bytes)
  pub err : OnErr result (BreaksOff contents before after bytes)
  pub faults : WritesOrFails fault (has_failed before) (has_failed after) result
