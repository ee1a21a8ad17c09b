-- What a call says that frees memory.
use Rattle.std.specs.Prelude.{◌≡◌, ℕ, Result, Ok, Err}
use Rattle.cedarwood.specs.Limits.{most_slots}
use Rattle.cedarwood.specs.Shrinking.{IsShrunk}
use Rattle.cedarwood.specs.declared.error.CedarError.{CedarError}
use Rattle.cedar_c.specs.Content.{ChangesBy}
use Rattle.cedar_c.specs.Layouts.{inner_dictionary, inner_layout}
use Rattle.cedar_c.specs.Status.{status_of}
use Rattle.cedar_c.specs.declared.handle.Handle.{Handle}
use Rattle.cedar_c.specs.declared.status.TheConstants.{OK}

-- the number of what a call of the dictionary returned
abbrev pub status_after : Result (Unit {0}) CedarError → ℕ
status_after (Ok done) = OK
status_after (Err e) = status_of e

-- the dictionary is shrunk, or this number says why not
abbrev pub Shrinks : Handle → Handle → ℕ → Type 0
Shrinks before after status = (r : Result (Unit {0}) CedarError) × (status ≡ status_after r)
    × ChangesBy (λ a b. IsShrunk (inner_layout a) most_slots (inner_dictionary a) (inner_dictionary b) r) before after
