-- The words that the contracts of this crate cite, from one place.
pub use Rattle.device_lines.specs.Lines.{figures_number}
pub use Rattle.device_lines.specs.WatchedDevice.{device_of, DeviceAppends, EndsWithin, has_failed}
pub use Rattle.device_lines.specs.WatchedDevice.{is_broken, is_cut, is_write_fault}
pub use Rattle.device_lines.specs.Written.{WritesBytes}
pub use Rattle.memchr.specs.Find.{is_byte}
pub use Rattle.std.specs.Io.{ReadsAtMost, WritesAtMost}
pub use Rattle.std.specs.Io.KnownBytes.{Appends, Consumes, Keeps}
pub use Rattle.std.specs.Io.KnownBytes.{ReadConsumes, WriteAppends}
pub use Rattle.std.specs.IoError.{error_kind}
