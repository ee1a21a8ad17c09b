-- What calls that open a handle say.
use Rattle.std.specs.Prelude.{◌≡◌, ◌≢◌, ◌⊎◌, ◌↔◌, ◌≤ℤ◌, ◌<ℤ◌, ℕ, ℤ, pos, Bool}
use Rattle.std.specs.Prelude.{List, None, Some, IfSome}
use Rattle.cedarwood.specs.Format.{header_answer}
use Rattle.cedarwood.specs.Queries.{Entry}
use Rattle.cedarwood.specs.Layouts.{LayoutKind, layout_byte}
use Rattle.cedarwood.specs.Words.{IsEmpty, IsOnTable, IsSorted, no_search_limit}
use Rattle.cedarwood.specs.Limits.{most_slots}
use Rattle.cedarwood.specs.declared.builder.CedarBuilder.{CedarBuilder}
use Rattle.cedar_c.specs.Content.{content, layout_in}
use Rattle.cedar_c.specs.Files.{early_refusal, file_status, IsFileOf, IsOfNoTable, TellsHeader}
use Rattle.cedar_c.specs.Layouts.{inner_dictionary, inner_layout}
use Rattle.cedar_c.specs.Pairs.{build_fault, entries_in}
use Rattle.cedar_c.specs.Status.{TellsFault, TellsPosition}
use Rattle.either_layout.specs.Builds.{MayWantSlots}
use Rattle.either_layout.specs.declared.any.AnyCedar.{AnyCedar}
use Rattle.cedar_c.specs.declared.handle.Handle.{Handle}
use Rattle.cedar_c.specs.declared.pairs.Pair.{Pair}
use Rattle.cedar_c.specs.declared.status.TheConstants.{OK, MEMORY, SLOT_LIMIT, INVALID_MAX_TRIAL}
use Rattle.cedar_c.specs.declared.status.TheConstants.{FILE_CORRUPT, FILE_UNREAD}

-- a call that opens a handle with an empty dictionary. If OK is returned, the handle has one of this layout and these
-- settings, in which nothing bounds a search; else it has what it had
pub record OpensNew (kind : LayoutKind) (ordered : Bool) (trials : ℤ) (before after : Handle) (status : ℕ) : Type 0 where
  pub made : status ≡ OK → (settings : CedarBuilder) × (settings.ordered ≡ ordered) × (settings.max_trial ≡ trials) × (settings.search_limit ≡ no_search_limit)
      × ((a : AnyCedar) × (content after ≡ Some a) × IsEmpty settings (inner_dictionary a))
  pub layout : status ≡ OK → layout_in after ≡ Some kind
  -- a number of trials below 1 is refused, and no other one
  pub invalid : (status ≡ INVALID_MAX_TRIAL) ↔ (trials <ℤ pos 1)
  pub refused : (status ≡ OK) ⊎ (((status ≡ INVALID_MAX_TRIAL) ⊎ (status ≡ MEMORY)) × (content after ≡ content before))

-- what a build of these entries, of which none has a fault, returns: `OK`, or the status of lack of memory, or, only if
-- there might not be enough, of slots
abbrev pub BuildsOrLacks : List Entry → ℕ → Type 0
BuildsOrLacks entries status = (status ≡ OK) ⊎ (status ≡ MEMORY) ⊎ ((status ≡ SLOT_LIMIT) × MayWantSlots most_slots entries)

-- a call that opens a handle with a dictionary of just these pairs, which come sorted or in any order. If OK is
-- returned, the handle has it; else it has what it had. `found` and `told` are the position before and after
pub record OpensBuilt (kind : LayoutKind) (is_sorted ordered : Bool) (trials : ℤ) (pairs : List Pair) (before after : Handle) (found told status : ℕ) : Type 0 where
  pub made : status ≡ OK → (settings : CedarBuilder) × (settings.ordered ≡ ordered) × (settings.max_trial ≡ trials) × (settings.search_limit ≡ no_search_limit)
      × ((a : AnyCedar) × (content after ≡ Some a) × IsSorted (inner_layout a) settings (entries_in pairs) (inner_dictionary a))
  pub layout : status ≡ OK → layout_in after ≡ Some kind
  pub invalid : trials <ℤ pos 1 → status ≡ INVALID_MAX_TRIAL
  -- the first fault of the pairs is returned, unless memory was wanted before it was found
  pub faulty : pos 1 ≤ℤ trials → IfSome (build_fault is_sorted (entries_in pairs)) (TellsFault found told status)
  -- without a fault slots are wanted only if there might not be enough
  pub refused : pos 1 ≤ℤ trials → build_fault is_sorted (entries_in pairs) ≡ None → BuildsOrLacks (entries_in pairs) status
  pub kept : (status ≡ OK) ⊎ (content after ≡ content before)
  -- only an error that has a position writes it
  pub stays : TellsPosition status ⊎ (told ≡ found)

-- a call that opens a handle with the dictionary that a file's bytes are of. If OK is returned, the handle has it;
-- else it has what it had
pub record OpensLoaded (kind : LayoutKind) (limit : ℕ) (bytes : List ℕ) (before after : Handle) (status : ℕ) : Type 0 where
  pub loaded : status ≡ OK → (a : AnyCedar) × (content after ≡ Some a) × IsFileOf (inner_dictionary a).table bytes
  pub stands : status ≡ OK → (a : AnyCedar) × (content after ≡ Some a) × IsOnTable most_slots (inner_dictionary a)
  pub layout : status ≡ OK → layout_in after ≡ Some kind
  pub refused : (status ≡ OK) ⊎ (content after ≡ content before)
  -- if the header is refused, the number of that refusal is returned, or that of want of memory
  pub header : IfSome (header_answer (layout_byte kind) most_slots limit bytes) (λ r. TellsHeader r status)
  -- before memory is allocated just the number of the refusal is returned
  pub early : IfSome (early_refusal (layout_byte kind) most_slots limit bytes) (λ r. status ≡ file_status r)
  -- behind a header that passes the bytes are of this table, or of no well-formed one, or memory was wanted
  pub behind : header_answer (layout_byte kind) most_slots limit bytes ≡ None
      → (status ≡ OK) ⊎ (status ≡ MEMORY) ⊎ ((status ≡ FILE_CORRUPT) × IsOfNoTable most_slots bytes)
  pub read : status ≢ FILE_UNREAD
