-- What the errors of a store print.
use Rattle.std.specs.Prelude.{ℕ, List, ◌++◌, codes, decimal}
use Rattle.cedar_journal.specs.declared.device.DeviceError.TheVariants as device
use Rattle.cedarwood.specs.Shown.{error_text}
use Rattle.cedar_store.specs.declared.compaction.CompactError.{CompactError}
use Rattle.cedar_store.specs.declared.compaction.CompactError.TheVariants as compact
use Rattle.cedar_store.specs.declared.error.DurableError.{DurableError}
use Rattle.cedar_store.specs.declared.error.DurableError.TheVariants as error

-- the bytes of the text of a store's error, with its numbers in decimal digits
abbrev pub durable_error_text : DurableError → List ℕ
durable_error_text error.Foreign = codes "the file is of another kind"
durable_error_text error.Corrupt = codes "a record of the file is no change of a dictionary"
durable_error_text (error.Damaged at) = codes "the record at byte " ++ (decimal at ++ codes " of the file is damaged")
durable_error_text (error.Refused e) = error_text e
durable_error_text (error.RefusedAt index e) = codes "change " ++ (decimal index ++ (codes " of the batch: " ++ error_text e))
durable_error_text error.TooLong = codes "the record would have 2^32 bytes or more"
durable_error_text error.Full = codes "the records of the file end behind 2^60 bytes"
durable_error_text error.NoRoom = codes "there is no room for the record"
durable_error_text (error.Device device.Memory) = codes "the device is out of memory"
durable_error_text (error.Device device.NoRoom) = codes "the device has no room"
durable_error_text (error.Device device.Failed) = codes "the device failed"
durable_error_text error.Failed = codes "the device failed in an earlier change: compact the store"

-- the bytes of the text of a compaction's error
abbrev pub compact_error_text : CompactError → List ℕ
compact_error_text compact.Memory = codes "out of memory: the file is as it was"
compact_error_text compact.TooLong = codes "the record of an entry would have 2^32 bytes or more"
compact_error_text (compact.Kept device.Memory) = codes "the device is out of memory: the file is as it was"
compact_error_text (compact.Kept device.NoRoom) = codes "the device has no room: the file is as it was"
compact_error_text (compact.Kept device.Failed) = codes "the device kept the file as it was"
compact_error_text compact.Failed = codes "the device failed: the old file is there or the new one"
