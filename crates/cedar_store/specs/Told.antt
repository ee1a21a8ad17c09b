-- The errors of a journal as a store reports them, and the changes that a caller gives.
use Rattle.std.specs.Prelude.{List, map}
use Rattle.cedar_journal.specs.declared.frame.FrameError.{FrameError}
use Rattle.cedar_journal.specs.declared.frame.FrameError.TheVariants as frame
use Rattle.cedar_journal.specs.declared.records.FileFault.{FileFault}
use Rattle.cedar_journal.specs.declared.records.FileFault.TheVariants as fault
use Rattle.cedar_journal.specs.declared.journal.JournalError.{JournalError}
use Rattle.cedar_journal.specs.declared.journal.JournalError.TheVariants as journal
use Rattle.cedarwood.specs.declared.error.CedarError.TheVariants.{Memory}
use Rattle.cedar_store.specs.Changes.{Change, put_at, erase_at}
use Rattle.cedar_store.specs.declared.change.Change.{Change as ToldChange}
use Rattle.cedar_store.specs.declared.change.Change.TheVariants as change
use Rattle.cedar_store.specs.declared.error.DurableError.{DurableError}
use Rattle.cedar_store.specs.declared.error.DurableError.TheVariants.{Damaged, Device, Foreign}
use Rattle.cedar_store.specs.declared.error.DurableError.TheVariants.{Full, NoRoom, Refused}
use Rattle.cedar_store.specs.declared.error.DurableError.TheVariants.{TooLong}

-- why a file is refused, as a store reports it
abbrev pub file_error : FileFault → DurableError
file_error fault.Foreign = Foreign
file_error (fault.Damaged at) = Damaged at

-- an error of making a record, as a store reports it
abbrev pub frame_error : FrameError → DurableError
frame_error frame.Memory = Refused Memory
frame_error frame.TooLong = TooLong

-- an error of a journal's call, as a store reports it
abbrev pub journal_error : JournalError → DurableError
journal_error journal.Full = Full
journal_error journal.NoRoom = NoRoom
journal_error (journal.Device e) = Device e

-- a change that a caller gives, as one of a dictionary
abbrev pub change_told : ToldChange → Change
change_told (change.Update key v) = put_at key.now v
change_told (change.Erase key) = erase_at key.now

-- the changes that a caller gives, as those of a dictionary
abbrev pub changes_told : List ToldChange → List Change
changes_told changes = map change_told changes
