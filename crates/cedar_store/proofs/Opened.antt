-- Why a file isn't opened, and a record not written.
use Rattle.std.proofs.Common.{◌≡◌, ◌<◌, ap, inl, inr, ℕ, List, refl, subst, sym}
use Rattle.cedar_journal.specs.declared.device.DeviceError.{DeviceError}
use Rattle.cedar_journal.specs.declared.device.DeviceError.TheVariants as device
use Rattle.cedar_journal.specs.declared.records.Extent.{Extent}
use Rattle.cedar_journal.specs.declared.records.Extent.TheVariants.{New, Until}
use Rattle.cedar_journal.specs.declared.records.FileFault.{FileFault}
use Rattle.cedar_journal.specs.declared.records.FileFault.TheVariants as fault
use Rattle.cedar_journal.specs.Files.{extent_format, format_of, HasExtent, IsFault}
use Rattle.cedar_store.specs.declared.error.DurableError.{DurableError}
use Rattle.cedar_store.specs.declared.error.DurableError.TheVariants as error
use Rattle.cedar_store.specs.Causes.{IsTold, LoadCause, OpenCause, ReadCause}
use Rattle.cedar_store.specs.Files.{format_named}
use Rattle.cedar_store.specs.Told.{file_error}

-- the format of a file that goes as far as this is the one that its header names, or version 2
pub format_there : (file : List ℕ) (extent : Extent) → HasExtent file extent → extent_format extent ≡ format_named (format_of file)
format_there file New new = ap format_named (sym new.unnamed)
format_there file (Until format end) records = ap format_named (sym records.named)

-- what is reported of a file that is refused
pub file_cause : (file : List ℕ) (why : FileFault) → IsFault file why → LoadCause file (file_error why)
file_cause file fault.Foreign is = is
file_cause file (fault.Damaged at) is = is

open_cause : (file : List ℕ) (broke lacked : Type 0) (e : DurableError) → LoadCause file e → OpenCause file broke lacked e
open_cause file broke lacked error.Foreign cause = cause
open_cause file broke lacked (error.Damaged place) cause = cause
open_cause file broke lacked error.Corrupt cause = cause
open_cause file broke lacked (error.Refused e) cause = inr cause
open_cause file broke lacked (error.RefusedAt index e) cause = cause
open_cause file broke lacked error.TooLong cause = cause
open_cause file broke lacked error.Full cause = cause
open_cause file broke lacked error.NoRoom cause = cause
open_cause file broke lacked (error.Device e) cause = absurd cause
open_cause file broke lacked error.Failed cause = cause

pub load_cause : (bytes file : List ℕ) (broke lacked : Type 0) (e : DurableError) → bytes ≡ file → LoadCause bytes e → OpenCause file broke lacked e
load_cause bytes file broke lacked e same cause = open_cause file broke lacked e (subst (λ f. LoadCause f e) same cause)

pub read_cause : (file : List ℕ) (before now : ℕ) (lacked : Type 0) (e : DurableError) → ReadCause before now e → OpenCause file (before < now) lacked e
read_cause file before now lacked (error.Device e) cause = subst (λ d. IsTold (before < now) lacked d) (sym cause.0) cause.1
read_cause file before now lacked (error.Refused e) cause = inl cause
read_cause file before now lacked error.Foreign cause = absurd cause
read_cause file before now lacked (error.Damaged place) cause = absurd cause
read_cause file before now lacked error.Corrupt cause = absurd cause
read_cause file before now lacked (error.RefusedAt index e) cause = absurd cause
read_cause file before now lacked error.TooLong cause = absurd cause
read_cause file before now lacked error.Full cause = absurd cause
read_cause file before now lacked error.NoRoom cause = absurd cause
read_cause file before now lacked error.Failed cause = absurd cause

-- what a device's error says, by its kind
pub told_of : (fails lacks : Type 0) (e : DeviceError) → (e ≡ device.Failed → fails) → (e ≡ device.Memory → fails) → (e ≡ device.NoRoom → lacks) → IsTold fails lacks e
told_of fails lacks device.Failed failed memory no_room = failed refl
told_of fails lacks device.Memory failed memory no_room = memory refl
told_of fails lacks device.NoRoom failed memory no_room = no_room refl
