-- The words that the contracts of this crate cite, from one place.
pub use Rattle.arrayvec.specs.ArrayVec.{array_vec_len}
pub use Rattle.cedar_format.specs.Decodes.{DecodesBy}
pub use Rattle.cedar_format.specs.Format.{body_len, CountsWithin, filled_bytes, filled_list}
pub use Rattle.cedar_format.specs.Format.{FitsFilled, FitsHeader, header_at, header_bytes}
pub use Rattle.cedar_format.specs.Format.{header_refusal, i32_at}
pub use Rattle.cedar_format.specs.Format.{IsHeader, IsVersion, kind_refusal, listed_slots, magic}
pub use Rattle.cedar_format.specs.Format.{need, Passes, size_refusal, tables_len}
pub use Rattle.cedar_format.specs.Format.{u16_at, u64_at, version_refusal}
pub use Rattle.cedar_format.specs.Numbers.{i16_bytes, i32_bytes, IsI16, IsI32, length-i16_bytes}
pub use Rattle.cedar_format.specs.Numbers.{length-i32_bytes, u16_bytes, u64_bytes}
pub use Rattle.cedar_format.specs.Reading.{EndsShort, EndsWithin, IsIo, IsLack, LacksTable, Misses}
pub use Rattle.cedar_format.specs.Reading.{ReadsBy, ReadsRecords, TellsBreaks, Trails}
pub use Rattle.cedar_format.specs.Records.{block_bytes, decoded_bytes, FitsBlock, FitsBody}
pub use Rattle.cedar_format.specs.Records.{FitsInfo, FitsNode, info_bytes, node_bytes}
pub use Rattle.cedar_format.specs.Refusal.{AllocationFailed, InvalidHeader, refusal, refusal_of}
pub use Rattle.cedar_format.specs.Shown.{corrupt_text, fault_prefix, field_text, layout_text}
pub use Rattle.cedar_format.specs.Shown.{limit_text, refusal_text, version_text}
pub use Rattle.cedar_format.specs.Statements.{HeadersAreReadAgain, OneTable, TablesPass}
pub use Rattle.cedar_format.specs.declared.error.CedarPersistenceError.TheVariants.{Io, Truncated}
pub use Rattle.cedar_slots.specs.Blocks.{blank_block}
pub use Rattle.cedar_slots.specs.Places.{IsSlotLimit}
pub use Rattle.cedar_slots.specs.Slots.{blank_info, blank_node}
pub use Rattle.device_lines.specs.WatchedDevice.{device_of, DeviceAppends, has_failed, is_broken}
pub use Rattle.device_lines.specs.WatchedDevice.{is_cut}
pub use Rattle.std.proofs.Common.{length-append, rules}
pub use Rattle.std.specs.Fmt.{DisplaysOnOk}
pub use Rattle.std.specs.Io.{ReadsAtMost, WritesAtMost}
pub use Rattle.std.specs.Io.KnownBytes.{Appends, Consumes, IsAtEnd, Keeps}
pub use Rattle.std.specs.Io.KnownBytes.{ReadConsumes, WriteAppends}
pub use Rattle.std.specs.IoError.{error_kind}
pub use Rattle.std.specs.List.{starts_with}
