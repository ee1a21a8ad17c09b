-- What C's pointer to a scanner has once the one that it lent is back.
use Rattle.std.specs.Borrow.{Lends, MutBor, Fml}
use Rattle.cedar_c.specs.declared.shown_scanner.ShownScanner.{ShownScanner}
use Rattle.cedar_c.specs.declared.shown_scanner.SeenScanner.{SeenScanner}
use Rattle.cedar_c.specs.contracts.shown_scanner.ShownScanner as shown
use Rattle.cedar_c.specs.contracts.shown_scanner.SeenScanner as seen

-- the same pointer as C has it
abbrev pub as_shown_scanner : SeenScanner → ShownScanner
as_shown_scanner s = record { at = s.at; value = s.value; life = s.life }

-- a `&mut` to C's pointer lends a `&mut` to the pointer that only reads, and C's has what that leaves
abbrev pub LendsSeenScanner : MutBor ShownScanner → MutBor SeenScanner → Fml
LendsSeenScanner s looked = Lends shown.the_row seen.the_row s looked as_shown_scanner
