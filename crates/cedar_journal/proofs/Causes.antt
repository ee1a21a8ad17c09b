-- What is counted in a device's calls.
use Rattle.std.specs.Prelude.{Result, IfErr, OnOk}
use Rattle.std.proofs.Common.{◌≡◌, ◌<◌, ◌≤◌, ℕ}
use Rattle.std.proofs.lemmas.Result.{IfErr-at_err}
use Rattle.cedar_journal.specs.declared.device.DeviceError.{DeviceError}
use Rattle.cedar_journal.specs.declared.device.DeviceError.TheVariants.{Failed, Memory, NoRoom}
use Rattle.cedar_journal.specs.Device.{HasCause}

-- what is counted of an error
abbrev pub Counted : ℕ → ℕ → ℕ → ℕ → DeviceError → Type 0
Counted before now full fuller Failed = before < now
Counted before now full fuller Memory = before < now
Counted before now full fuller NoRoom = (full < fuller) × (now ≡ before)

pub caused : {T : Type 0} (before now full fuller : ℕ) (r : Result T DeviceError) → before ≤ now → full ≤ fuller → OnOk r (now ≡ before) → IfErr r (Counted before now full fuller)
    → HasCause before now full fuller r
caused before now full fuller r later no_less done counted = record {
  later = later;
  no_less = no_less;
  done = done;
  failed = λ is. IfErr-at_err (Counted before now full fuller) is counted;
  memory = λ is. IfErr-at_err (Counted before now full fuller) is counted;
  no_room = λ is. IfErr-at_err (Counted before now full fuller) is counted;
}
