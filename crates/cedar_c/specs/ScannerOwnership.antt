-- What a pointer to a scanner owns. Only proofs say this.
use Rattle.std.specs.Prelude.{ℕ, [], ◌∷◌, Option, None, Some}
use base.Fraction.{full_share}
use base.Fml.{Lft, Fml, ftrue, fsep, flft}
use denote.RattleType.{RattleType}
use denote.RawPtr.{Ptr}
use denote.Sharing.{nothing}
use denote.Struct.Lending.{lent_at}
use Rattle.std.specs.Box.Ownership.{box_owns}
use Rattle.cedar_c.specs.Ownership.{may_free}
use Rattle.cedar_c.specs.contracts.any_scanner.AnyScanner.{the_row}
use Rattle.cedar_c.specs.declared.any_scanner.AnyScanner.{AnyScanner}

-- the type of a scanner of any kind
abbrev pub scanner_row : RattleType
scanner_row = the_row

-- what an open handle owns: a scanner on the C library's heap, and the right to free it; a closed one nothing
abbrev pub held_scanner_owns : Ptr → Option AnyScanner → Fml
held_scanner_owns p None = ftrue
held_scanner_owns p (Some s) = box_owns may_free scanner_row p s

-- what a `&` to a handle has: a `&` to its scanner, or nothing
abbrev pub held_scanner_lends : Ptr → Option AnyScanner → Lft → Fml
held_scanner_lends p None = nothing
held_scanner_lends p (Some s) = lent_at scanner_row p s

-- what a pointer that only reads owns: a scanner that is lent for a lifetime, and the whole right to end that lifetime; or nothing
abbrev pub shown_scanner_owns : Ptr → Option AnyScanner → ℕ → Fml
shown_scanner_owns p None life = ftrue
shown_scanner_owns p (Some s) life = fsep (flft (life ∷ []) full_share) (lent_at scanner_row p s (life ∷ []))
