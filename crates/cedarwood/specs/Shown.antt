-- What a dictionary and the errors of its calls print.
use Rattle.std.specs.Prelude.{ℕ, List, Bool, ◌++◌, codes, decimal, length, if◌then◌else◌}
use Rattle.std.specs.Fmt.{signed_decimal}
use Rattle.cedar_tree.specs.Queries.{walk}
use Rattle.cedarwood.specs.Dictionary.{Dictionary}
use Rattle.cedarwood.specs.declared.batches.RefusedPair.{RefusedPair}
use Rattle.cedarwood.specs.declared.error.CedarError.{CedarError}
use Rattle.cedarwood.specs.declared.error.CedarError.TheVariants as cedar
use Rattle.cedarwood.specs.declared.queries.entries.EntryError.{EntryError}
use Rattle.cedarwood.specs.declared.queries.entries.EntryError.TheVariants as entry

-- `true` or `false`
abbrev pub flag_text : Bool → List ℕ
flag_text b = if b then codes "true" else codes "false"

-- what `{:?}` writes of a dictionary: the entries and the slots in use in decimal digits, and whether labels ascend
abbrev pub shown_text : Dictionary → List ℕ
shown_text d =
    codes "Cedar(entries=" ++ (decimal (length (walk d.state.tree)) ++ (codes ", node_slots=" ++ (decimal d.size ++ (codes ", ordered=" ++ (flag_text d.state.ordered ++ codes ")")))))

-- the bytes of an error's text, with its numbers in decimal digits
abbrev pub error_text : CedarError → List ℕ
error_text cedar.EmptyKey = codes "cedar keys must not be empty"
error_text (cedar.NulByte position) = codes "cedar keys must not contain the terminal byte 0x00 (at byte " ++ (decimal position ++ codes ")")
error_text (cedar.InvalidValue value) = codes "cedar value " ++ (signed_decimal value ++ codes " is outside the supported range 0..=2147483645")
error_text (cedar.InvalidMaxTrial value) = codes "max_trial must be greater than zero, got " ++ signed_decimal value
error_text (cedar.DuplicateKey index) = codes "duplicate key at sorted input index " ++ decimal index
error_text (cedar.KeysNotSorted index) = codes "key at input index " ++ (decimal index ++ codes " is smaller than its predecessor")
error_text cedar.Memory = codes "out of memory"
error_text cedar.SlotLimit = codes "cedar trie has no slot left"

-- the bytes of a refused pair's text: its index, and the text of its error
abbrev pub refused_pair_text : RefusedPair → List ℕ
refused_pair_text refusal = codes "pair at input index " ++ (decimal refusal.index ++ (codes ": " ++ error_text refusal.error))

-- the bytes of the text of a text entry's error
abbrev pub entry_error_text : EntryError → List ℕ
entry_error_text (entry.Utf8 value) = codes "entry key is not UTF-8 (its value is " ++ (signed_decimal value ++ codes ")")
entry_error_text entry.Memory = codes "out of memory"
