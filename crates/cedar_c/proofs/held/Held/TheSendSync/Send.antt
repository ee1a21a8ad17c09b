-- What a `Held` owns names no thread: the dictionary has none in it, and any thread may free a block of the C library's heap.
use Rattle.std.specs.Prelude.{Option, None, Some}
use mir.Raw.{raw}
use base.Shift.{Keyless}
use denote.Memory.{lone}
use denote.Param.Send.{IsSend}
use denote.RawPtr.{Ptr}
use Rattle.std_alloc.proofs.SendSync.{lies}
use Rattle.std.proofs.Crossing.{frees}
use Rattle.either_layout.specs.declared.any.AnyCedar.{AnyCedar}
use Rattle.either_layout.proofs.any.AnyCedar.TheSendSync.{the_send}
use Rattle.cedar_c.specs.Ownership.{cedar_row, heap, held_owns}
use Rattle.cedar_c.specs.contracts.held.Held.{the_row}

cedar_send : IsSend cedar_row
cedar_send = the_send

keyless : (p : Ptr) (d : Option AnyCedar) → Keyless (held_owns p d)
keyless p None = tt
keyless p (Some d) = (lies cedar_row cedar_send p d, frees.frees heap (raw (lone cedar_row.mir)) p)

pub send : IsSend the_row
send = record { owned = λ h vs. ((λ vss. (tt, (tt, tt))), keyless h.at h.value); leaving = λ k h w. tt }
