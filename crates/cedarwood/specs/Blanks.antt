-- What a count begins with.
use Rattle.std.specs.Prelude.{◌≡◌, ◌<◌, ℕ}
use Rattle.std.specs.declared.sync.ledger.Blank.{Blank}

-- the ledger of this name and of these parts represents the blank, which a count begins with
pub record IsBlankOf (ledger_name ledger_parts : ℕ) (blank : Blank) : Type 0 where
  pub name : blank.name ≡ ledger_name
  pub parts : blank.parts ≡ ledger_parts
  pub some : 0 < blank.parts
