-- What a caller sees of a frame: a record in memory that is written to a journal.
use Rattle.std.specs.Prelude.{ℕ, List}
use Rattle.cedar_journal.specs.declared.frame.Frame.{Frame}
use Rattle.cedar_journal.specs.Formats.{payload_of_frame}

-- the payload of a frame
abbrev pub payload_of : {A : Type 0} → Frame A → List ℕ
payload_of frame = payload_of_frame frame.bytes.items
