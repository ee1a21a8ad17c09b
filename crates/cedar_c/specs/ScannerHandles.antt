-- What the handles of scanners have.
use Rattle.std.specs.Prelude.{Option}
use Rattle.cedar_c.specs.declared.any_scanner.AnyScanner.{AnyScanner}
use Rattle.cedar_c.specs.declared.scanner_handle.ScannerHandle.{ScannerHandle}
use Rattle.cedar_c.specs.declared.scanner_reading.ScannerReading.{ScannerReading}

-- the scanner that a handle has, or none if it is closed
abbrev pub scanner_in : ScannerHandle → Option AnyScanner
scanner_in h = h.held.value

-- the scanner of a handle that only reads, or none if it is closed
abbrev pub shown_scanner_in : ScannerReading → Option AnyScanner
shown_scanner_in r = r.shown.value
