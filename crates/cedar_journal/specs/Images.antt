-- A journal's file of version 2 that is at rest, made at once: its header, whole records and a closed gate.
use Rattle.std.specs.Prelude.{ℕ, ◌-◌, List, [], ◌∷◌, ◌++◌, length, take, drop}
use Rattle.cedar_journal.specs.declared.format.Format.TheVariants.{Summed}
use Rattle.cedar_journal.specs.Files.{journal_header}

-- the bytes of a file of these records
abbrev pub image_of : List ℕ → List ℕ
image_of records = journal_header Summed ++ (records ++ 0 ∷ [])

-- the records of such a file, without its header and its closed gate
abbrev pub records_of : List ℕ → List ℕ
records_of bytes = take (length bytes - 14) (drop 13 bytes)
