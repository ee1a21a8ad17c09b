-- What a file made in memory represents.
use Rattle.std.specs.Prelude.{ℕ, List}
use Rattle.cedar_journal.specs.declared.format.Format.TheVariants.{Summed}
use Rattle.cedar_journal.specs.declared.image.Image.{Image}
use Rattle.cedar_journal.specs.Formats.{payloads_read, records_read}
use Rattle.cedar_journal.specs.Images.{records_of}

-- the bytes of a file that is made in memory
abbrev pub image_bytes : {A : Type 0} → Image A → List ℕ
image_bytes image = image.bytes.items

-- the payloads of a file that is made in memory, behind its header
abbrev pub payloads_of : {A : Type 0} → Image A → List (List ℕ)
payloads_of image = payloads_read (records_read Summed (records_of image.bytes.items))
