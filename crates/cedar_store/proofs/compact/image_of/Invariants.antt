use Rattle.std.specs.Prelude.{option_map, None, Some}
use Rattle.std.specs.List.{AllByRecursion}
use Rattle.std.proofs.Common.{◌≡◌, ◌+◌, length}
use Rattle.cedar_journal.specs.Image.{image_bytes, payloads_of}
use Rattle.cedarwood.specs.State.{new_state}
use Rattle.cedarwood.specs.Builds.{all_stored}
use Rattle.cedarwood.specs.Fault.{fault}
use Rattle.cedar_store.specs.Changes.{after_payloads}
use Rattle.cedar_store.specs.Compactions.{compacted_length}
use Rattle.cedar_store.proofs.compact.image_of.Given as goal

-- what is left makes of what the file represents what all entries make of a new dictionary
abbrev pub invariant-loop-entry : goal.invariant-loop-entry
invariant-loop-entry g l = record {
  made : option_map (λ s. all_stored s l.entries) (after_payloads new_state (payloads_of l.image)) ≡ Some (all_stored new_state l.fn.entries);
  size : length (image_bytes l.image) + compacted_length l.entries ≡ 14 + compacted_length l.fn.entries;
  count : length (payloads_of l.image) + length l.entries ≡ length l.fn.entries;
  sound : AllByRecursion (λ e. fault e.0 e.1 ≡ None) l.entries;
}
