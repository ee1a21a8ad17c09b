-- What a `ShownScanner` owns names no thread: the scanner has none in it, and any thread may end a lifetime.
use Rattle.std.specs.Prelude.{ℕ, [], ◌∷◌, Option, None, Some}
use base.Shift.{Keyless}
use denote.Param.Send.{IsSend, IsSync}
use denote.RawPtr.{Ptr}
use Rattle.std_alloc.proofs.SendSync.{seen}
use Rattle.cedar_c.specs.declared.any_scanner.AnyScanner.{AnyScanner}
use Rattle.cedar_c.proofs.any_scanner.AnyScanner.TheSendSync.{the_sync}
use Rattle.cedar_c.specs.ScannerOwnership.{scanner_row, shown_scanner_owns}
use Rattle.cedar_c.specs.contracts.shown_scanner.ShownScanner.{the_row}

scanner_sync : IsSync scanner_row
scanner_sync = the_sync

keyless : (p : Ptr) (d : Option AnyScanner) (life : ℕ) → Keyless (shown_scanner_owns p d life)
keyless p None life = tt
keyless p (Some d) life = (tt, seen scanner_row scanner_sync p d (life ∷ []))

pub send : IsSend the_row
send = record { owned = λ s vs. ((λ vss. (tt, (tt, tt))), keyless s.at s.value s.life); leaving = λ k s w. tt }
