-- What a `HeldScanner` owns names no thread: the scanner has none in it, and any thread may free a block of the C library's heap.
use Rattle.std.specs.Prelude.{Option, None, Some}
use mir.Raw.{raw}
use base.Shift.{Keyless}
use denote.Memory.{lone}
use denote.Param.Send.{IsSend}
use denote.RawPtr.{Ptr}
use Rattle.std_alloc.proofs.SendSync.{lies}
use Rattle.std.proofs.Crossing.{frees}
use Rattle.cedar_c.specs.declared.any_scanner.AnyScanner.{AnyScanner}
use Rattle.cedar_c.proofs.any_scanner.AnyScanner.TheSendSync.{the_send}
use Rattle.cedar_c.specs.Ownership.{heap}
use Rattle.cedar_c.specs.ScannerOwnership.{scanner_row, held_scanner_owns}
use Rattle.cedar_c.specs.contracts.held_scanner.HeldScanner.{the_row}

scanner_send : IsSend scanner_row
scanner_send = the_send

keyless : (p : Ptr) (d : Option AnyScanner) → Keyless (held_scanner_owns p d)
keyless p None = tt
keyless p (Some d) = (lies scanner_row scanner_send p d, frees.frees heap (raw (lone scanner_row.mir)) p)

pub send : IsSend the_row
send = record { owned = λ h vs. ((λ vss. (tt, (tt, tt))), keyless h.at h.value); leaving = λ k h w. tt }
