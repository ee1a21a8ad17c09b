-- Changes of a store that go to the disk together. Their records are in a buffer, one behind another, each without
-- the closed gate behind it. They are of version 1 in files of either version, since the group's own record has the
-- sum.
use Rattle.std.specs.Prelude.{◌≡◌, ◌⊎◌, ℕ, ◌+◌, ◌<◌, ◌≤◌, ◌^◌, List, [], ◌∷◌, ◌++◌, Some}
use Rattle.std.specs.Prelude.{take, drop}
use Rattle.cedar_journal.specs.declared.format.Format.{Format}
use Rattle.cedar_journal.specs.Formats.{overhead}
use Rattle.cedar_plan.specs.Works.{Work}
use Rattle.cedar_store.specs.Changes.{Change, all_changed, batch_of}
use Rattle.cedarwood.specs.State.{State}
use Rattle.cedar_c.specs.Plans.{IsChangePlan}
use Rattle.cedar_c.specs.declared.status.TheConstants.{NO_ROOM, STORE_FULL, STORE_TOO_LONG}

-- behind the records of some changes, these bytes are the record of one change more
abbrev pub AddsChange : Change → List ℕ → Type 0
AddsChange change bytes = (records : List ℕ) (changes : List Change) → batch_of records ≡ Some changes → batch_of (records ++ bytes) ≡ Some (changes ++ change ∷ [])

-- how many bytes of a group's record are in front of those of its changes: its gate, its sum if it has one, its
-- length and its kind
abbrev pub group_head : Format → ℕ
group_head format = overhead format + 1

-- the records of a group of so many bytes, which are in a buffer behind room for that group's own head
abbrev pub group_records : Format → ℕ → List ℕ → List ℕ
group_records format size buffer = take size (drop (group_head format) buffer)

-- works that make the changes of these records in a file of this format, whatever it represents, and move where its
-- records end. A crash at any moment leaves a file that has all of them or none
abbrev pub IsGroup : List Work → Format → ℕ → ℕ → List ℕ → Type 0
IsGroup works format from to records =
    (changes : List Change) (s : State) → batch_of records ≡ Some changes → IsChangePlan works format from to s (all_changed s changes)

-- the number says why records of n bytes aren't made one, for a file of this format whose records end at `end`, in so
-- many elements
abbrev pub LacksGroup : Format → ℕ → ℕ → ℕ → ℕ → Type 0
LacksGroup format end n places status =
    ((status ≡ STORE_FULL) × (2 ^ 60 ≤ end)) ⊎ ((status ≡ STORE_TOO_LONG) × (2 ^ 32 ≤ n + 1)) ⊎ ((status ≡ NO_ROOM) × (places < n + group_head format + 1))
