-- The texts of refusals.
use Rattle.std.specs.Prelude.{ℕ, List, Option, None, Some, ◌++◌, codes, decimal}
use Rattle.cedar_format.specs.declared.error.CedarPersistenceError.{CedarPersistenceError}
use Rattle.cedar_format.specs.declared.error.CedarPersistenceError.TheVariants.{Io, Truncated}
use Rattle.cedar_format.specs.declared.error.CedarPersistenceError.TheVariants.{InvalidMagic}
use Rattle.cedar_format.specs.declared.error.CedarPersistenceError.TheVariants.{UnsupportedVersion}
use Rattle.cedar_format.specs.declared.error.CedarPersistenceError.TheVariants.{UnsupportedByteOrder}
use Rattle.cedar_format.specs.declared.error.CedarPersistenceError.TheVariants.{LayoutMismatch}
use Rattle.cedar_format.specs.declared.error.CedarPersistenceError.TheVariants.{InvalidHeader}
use Rattle.cedar_format.specs.declared.error.CedarPersistenceError.TheVariants.{AllocationLimitExceeded}
use Rattle.cedar_format.specs.declared.error.CedarPersistenceError.TheVariants.{AllocationFailed}
use Rattle.cedar_format.specs.declared.error.CedarPersistenceError.TheVariants.{CorruptData}
use Rattle.cedar_format.specs.declared.error.CedarPersistenceError.TheVariants.{TrailingData}

-- what is in front of the device's own text in the text of `Io`
abbrev pub fault_prefix : List ℕ
fault_prefix = codes "persistence I/O error: "

-- the text of a version that isn't read
abbrev pub version_text : ℕ → ℕ → List ℕ
version_text major minor = codes "unsupported cedarwood format version " ++ (decimal major ++ (codes "." ++ decimal minor))

-- the text of another layout than the one that is asked for
abbrev pub layout_text : ℕ → ℕ → List ℕ
layout_text expected found = codes "serialized trie layout " ++ (decimal found ++ (codes " does not match this build's layout " ++ decimal expected))

-- the text of a field of the header that is out of range
abbrev pub field_text : List ℕ → ℕ → List ℕ
field_text field value = codes "invalid serialized header field " ++ (field ++ (codes ": " ++ decimal value))

-- the text of a file that needs more memory than the limit
abbrev pub limit_text : ℕ → ℕ → List ℕ
limit_text requested limit = codes "serialized trie requires up to " ++ (decimal requested ++ (codes " bytes while loading, limit is " ++ decimal limit))

-- the text of data that is corrupt: in which section, at which index, and why
abbrev pub corrupt_text : List ℕ → ℕ → List ℕ → List ℕ
corrupt_text section index reason = codes "corrupt " ++ (section ++ (codes " at index " ++ (decimal index ++ (codes ": " ++ reason))))

-- the bytes of an error's text, with its numbers in decimal digits; none of `Io`, since no contract knows the
-- device's own text
abbrev pub refusal_text : CedarPersistenceError → Option (List ℕ)
refusal_text (Io cause) = None
refusal_text Truncated = Some (codes "serialized cedar trie is truncated")
refusal_text InvalidMagic = Some (codes "input is not a cedarwood serialized trie")
refusal_text (UnsupportedVersion major minor) = Some (version_text major minor)
refusal_text (UnsupportedByteOrder byte_order) = Some (codes "unsupported cedarwood byte-order marker " ++ decimal byte_order)
refusal_text (LayoutMismatch expected found) = Some (layout_text expected found)
refusal_text (InvalidHeader field value) = Some (field_text field.now value)
refusal_text (AllocationLimitExceeded requested limit) = Some (limit_text requested limit)
refusal_text (AllocationFailed requested) = Some (codes "could not reserve " ++ (decimal requested ++ codes " elements while loading serialized trie"))
refusal_text (CorruptData section index reason) = Some (corrupt_text section.now index reason.now)
refusal_text TrailingData = Some (codes "serialized trie has trailing data")
