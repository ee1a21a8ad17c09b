-- The words that ghost fields cite, whose structs `Words` names.
pub use Rattle.cedar_journal.specs.Formats.{AreWhole, frame_of, payload_of_frame}
pub use Rattle.cedar_journal.specs.Images.{image_of, records_of}
pub use Rattle.cedar_journal.specs.Records.{length_bytes}
pub use Rattle.cedar_journal.specs.declared.format.Format.TheVariants.{Summed}
pub use Rattle.cedar_journal.specs.declared.frame.FrameError.TheVariants.{Memory}
