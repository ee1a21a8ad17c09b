-- What a `Shown` owns names no thread: the dictionary has none in it, and any thread may end a lifetime.
use Rattle.std.specs.Prelude.{ℕ, [], ◌∷◌, Option, None, Some}
use base.Shift.{Keyless}
use denote.Param.Send.{IsSend, IsSync}
use denote.RawPtr.{Ptr}
use Rattle.std_alloc.proofs.SendSync.{seen}
use Rattle.either_layout.specs.declared.any.AnyCedar.{AnyCedar}
use Rattle.either_layout.proofs.any.AnyCedar.TheSendSync.{the_sync}
use Rattle.cedar_c.specs.Ownership.{cedar_row, shown_owns}
use Rattle.cedar_c.specs.contracts.shown.Shown.{the_row}

cedar_sync : IsSync cedar_row
cedar_sync = the_sync

keyless : (p : Ptr) (d : Option AnyCedar) (life : ℕ) → Keyless (shown_owns p d life)
keyless p None life = tt
keyless p (Some d) life = (tt, seen cedar_row cedar_sync p d (life ∷ []))

pub send : IsSend the_row
send = record { owned = λ s vs. ((λ vss. (tt, (tt, tt))), keyless s.at s.value s.life); leaving = λ k s w. tt }
