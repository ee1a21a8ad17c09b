-- A file that is written beside the one at a path and then given its name: what is at the path at each moment. Lists
-- of calls have the newest first.
use Rattle.std.specs.Prelude.{◌≡◌, ◌⊎◌, ◌==◌, ◌&&◌, if◌then◌else◌, ℕ, Bool, true, false}
use Rattle.std.specs.Prelude.{List, [], ◌∷◌, Option, Some, IsTrue}
use Rattle.torn_writes.specs.Tearing.{Only}
use Rattle.whole_files.specs.Calls.{Call, folder_sync_call, MayLeave, seen_after, took_name}

-- what is at a path: nothing, or a file of these bytes
abbrev pub Content : Type 0
Content = Option (List ℕ)

-- whether each of these calls has succeeded: none has failed, and no write has found no room
abbrev pub all_succeeded : List Call → Bool
all_succeeded [] = true
all_succeeded (call ∷ earlier) = call.2 && all_succeeded earlier

-- whether the file was to be given the name
abbrev pub asked_after : List Call → Bool
asked_after [] = false
asked_after (call ∷ earlier) = if call.0 == 7 then true else asked_after earlier

-- whether the newest call gave the file the name
abbrev pub just_took : List Call → Bool
just_took [] = false
just_took (call ∷ earlier) = if call.0 == 7 then call.2 else false

-- the newest call gave the file the name at this path
abbrev pub HasJustTaken : List ℕ → List Call → Type 0
HasJustTaken path calls = (earlier : List Call) × (calls ≡ took_name path true ∷ earlier)

-- whether the newest calls gave the file the name, and then synced the folder
abbrev pub placed_after : List Call → Bool
placed_after [] = false
placed_after (call ∷ earlier) = if call.0 == 5 && (call.2 && just_took earlier) then true else placed_after earlier

-- the path leads to the file, of which the disk has such bytes
abbrev pub HasFile : (List ℕ → Type 0) → Content → Type 0
HasFile file c = (bytes : List ℕ) × (c ≡ Some bytes) × file bytes

-- what a crash leaves at the path: before the file is to be given the name, what was there; once the disk has its
-- name, what the disk has of it; in between either
abbrev pub LeftAt : Bool → Bool → (Content → Bool) → (List ℕ → Type 0) → Content → Type 0
LeftAt false placed before file c = IsTrue (before c)
LeftAt true false before file c = IsTrue (before c) ⊎ HasFile file c
LeftAt true true before file c = HasFile file c

-- what a crash leaves at the path in the newest of these calls on the file beside or behind it, by what it might have
-- left before them
abbrev pub PathLeaves : (Content → Bool) → List Call → Content → Type 0
PathLeaves before calls c = LeftAt (asked_after calls) (placed_after calls) before (MayLeave calls) c

-- at each moment of these calls a crash leaves what P holds of
abbrev pub AlwaysLeaves : (Content → Bool) → (Content → Type 0) → List Call → Type 0
AlwaysLeaves before P [] = (c : Content) → PathLeaves before [] c → P c
AlwaysLeaves before P (call ∷ earlier) = ((c : Content) → PathLeaves before (call ∷ earlier) c → P c) × AlwaysLeaves before P earlier

-- the file has these bytes, the disk has them too, and it lies beside still
pub record IsWholeBeside (bytes : List ℕ) (calls : List Call) : Type 0 where
  pub beside : asked_after calls ≡ false
  pub seen : seen_after calls ≡ bytes
  pub durable : Only bytes (MayLeave calls)

-- the file was given the name at this path, and then the folder was synced
pub record IsPlaced (path bytes : List ℕ) (calls : List Call) : Type 0 where
  pub earlier : List Call
  pub ready : IsWholeBeside bytes earlier
  pub is : calls ≡ folder_sync_call true ∷ took_name path true ∷ earlier

-- the rename to this path failed, or the sync of the folder behind it
pub record IsHalfPlaced (path bytes : List ℕ) (calls : List Call) : Type 0 where
  pub earlier : List Call
  pub ready : IsWholeBeside bytes earlier
  pub is : (calls ≡ took_name path false ∷ earlier) ⊎ (calls ≡ folder_sync_call false ∷ took_name path true ∷ earlier)

-- nothing was done at the path, or the rename or the sync of the folder failed
abbrev pub IsUnplacedAt : List ℕ → List ℕ → List Call → Type 0
IsUnplacedAt path bytes calls = (asked_after calls ≡ false) ⊎ IsHalfPlaced path bytes calls

-- what becomes of the path: once the file has its place, a crash leaves its bytes; at each moment before, and if a
-- call fails, those or what was there; and what was there, if nothing was done at the path
pub record IsKeptOrReplaced (before : Content → Bool) (path bytes : List ℕ) (calls : List Call) : Type 0 where
  pub read : IsPlaced path bytes calls → seen_after calls ≡ bytes
  pub placed : IsPlaced path bytes calls → (c : Content) → PathLeaves before calls c → c ≡ Some bytes
  pub any_moment : IsPlaced path bytes calls ⊎ IsUnplacedAt path bytes calls → AlwaysLeaves before (λ c. IsTrue (before c) ⊎ (c ≡ Some bytes)) calls
  pub kept : asked_after calls ≡ false → (c : Content) → PathLeaves before calls c → IsTrue (before c)

-- of all lists of calls is so what `IsKeptOrReplaced` says
abbrev pub WholeFilesAreSafe : Type 0
WholeFilesAreSafe = (before : Content → Bool) (path bytes : List ℕ) (calls : List Call) → IsKeptOrReplaced before path bytes calls
