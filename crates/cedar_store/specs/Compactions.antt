-- When a file is compacted, what it has then, and why it wasn't.
use Rattle.std.specs.Prelude.{◌≡◌, ◌<◌, ℕ, ◌+◌, ◌-◌, ◌*◌, max, nat_lt, ℤ, Bool, false}
use Rattle.std.specs.Prelude.{List, [], ◌∷◌, ◌++◌, length, Some}
use Rattle.cedar_journal.specs.declared.frame.FrameError.{FrameError}
use Rattle.cedar_journal.specs.declared.frame.FrameError.TheVariants as frame
use Rattle.cedar_journal.specs.declared.replace.ReplaceError.{ReplaceError}
use Rattle.cedar_journal.specs.declared.replace.ReplaceError.TheVariants as replace
use Rattle.cedarwood.specs.Queries.{Entry}
use Rattle.cedar_store.specs.Changes.{changes_of, put_at}
use Rattle.cedar_store.specs.declared.compaction.Compaction.{Compaction}
use Rattle.cedar_store.specs.declared.compaction.Compaction.TheVariants.{Never, Beyond}
use Rattle.cedar_store.specs.declared.compaction.CompactError.{CompactError}
use Rattle.cedar_store.specs.declared.compaction.CompactError.TheVariants.{Memory, TooLong, Kept}
use Rattle.cedar_store.specs.declared.compaction.CompactError.TheVariants.{Failed}

-- the rule of a store that was opened: twice what the entries take, and 64 KiB
abbrev pub default_rule : Compaction
default_rule = Beyond 2 65536

-- whether a file whose records end at `end` is too long, by a rule, for so many bytes
abbrev pub is_beyond : Compaction → ℕ → ℕ → Bool
is_beyond Never bytes end = false
is_beyond (Beyond factor spare) bytes end = nat_lt (bytes + bytes * (max factor 2 - 1) + spare) end

-- how many bytes a file has that has one record for each of these entries
abbrev pub compacted_length : List Entry → ℕ
compacted_length [] = 14
compacted_length (e ∷ entries) = 14 + length e.0 + compacted_length entries

-- some payloads are followed by one more, the put of a value at a key
pub record IsPutBehind (key : List ℕ) (v : ℤ) (before after : List (List ℕ)) : Type 0 where
  pub payload : List ℕ
  pub behind : after ≡ before ++ payload ∷ []
  pub change : changes_of payload ≡ Some (put_at key v ∷ [])

-- lack of memory, as a compaction reports it
abbrev pub CompactMemory : CompactError
CompactMemory = Memory

-- an error of making a record, as a compaction reports it
abbrev pub compact_error : FrameError → CompactError
compact_error frame.Memory = Memory
compact_error frame.TooLong = TooLong

-- an error of replacing a file, as a compaction reports it
abbrev pub replace_error : ReplaceError → CompactError
replace_error (replace.Kept e) = Kept e
replace_error replace.Failed = Failed

-- the error came before the device was asked for anything
abbrev pub IsBeforeReplacing : CompactError → Type 0
IsBeforeReplacing Memory = Unit {0}
IsBeforeReplacing TooLong = Unit {0}
IsBeforeReplacing _ = ⊥

-- why a file wasn't compacted: no file was made in memory; or the device failed, and kept the old one, or it isn't
-- known which one is there (`lost`). `before` and `now` are how often the device has failed
abbrev pub CompactCause : ℕ → ℕ → Type 0 → CompactError → Type 0
CompactCause before now lost (Kept e) = before < now
CompactCause before now lost Failed = (before < now) × lost
CompactCause before now lost e = IsBeforeReplacing e

-- what an error of a compaction leaves: `fails` if it isn't known which file is there, `keeps` if the device kept the
-- old one, and `stays` if it wasn't asked
abbrev pub LeavesFile : CompactError → Type 0 → Type 0 → Type 0 → Type 0
LeavesFile Failed fails keeps stays = fails
LeavesFile (Kept e) fails keeps stays = keeps
LeavesFile _ fails keeps stays = stays
