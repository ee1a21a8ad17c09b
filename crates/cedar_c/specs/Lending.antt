-- What a pointer to a dictionary has once the dictionary that it lent is back.
use Rattle.std.specs.Prelude.{Some}
use Rattle.std.specs.Borrow.{Lends, MutBor, Fml}
use Rattle.cedar_c.specs.Ownership.{cedar_row}
use Rattle.cedar_c.specs.contracts.held.Held.{the_row}
use Rattle.either_layout.specs.declared.any.AnyCedar.{AnyCedar}
use Rattle.cedar_c.specs.declared.held.Held.{Held}
use Rattle.cedar_c.specs.declared.shown.Shown.{Shown}
use Rattle.cedar_c.specs.declared.shown.Seen.{Seen}
use Rattle.cedar_c.specs.contracts.shown.Shown as shown
use Rattle.cedar_c.specs.contracts.shown.Seen as seen

-- the same pointer, behind which this dictionary is now
abbrev pub with_cedar : Held → AnyCedar → Held
with_cedar h a = record h { value = Some a }

-- a `&mut` to a pointer lends a `&mut` to its dictionary, and the pointer has what that leaves
abbrev pub LendsCedar : MutBor Held → MutBor AnyCedar → Fml
LendsCedar h cedar = Lends the_row cedar_row h cedar (with_cedar h.now)

-- the same pointer as C has it
abbrev pub as_shown : Seen → Shown
as_shown s = record { at = s.at; value = s.value; life = s.life }

-- a `&mut` to C's pointer lends a `&mut` to the pointer that only reads, and C's has what that leaves
abbrev pub LendsSeen : MutBor Shown → MutBor Seen → Fml
LendsSeen s looked = Lends shown.the_row seen.the_row s looked as_shown
