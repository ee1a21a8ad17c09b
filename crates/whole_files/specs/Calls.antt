-- The calls on a file, and the model of a disk that they make: what a read returns, and what a crash may leave. This
-- is all that is supposed of a real disk. Lists of calls have the newest first.
use Rattle.std.specs.Prelude.{◌≡◌, ◌⊎◌, ◌≤◌, ◌+◌, ◌==◌, nat_le, ℕ, zero, suc, Bool, true}
use Rattle.std.specs.Prelude.{false, ◌&&◌, ◌||◌, if◌then◌else◌, List, [], ◌∷◌, ◌++◌, length}
use Rattle.std.specs.Prelude.{take, drop, slice_index}
use Rattle.torn_writes.specs.Tearing.{Torn, Cut}

-- a call with its outcome, as it is noted: its kind, an offset or a length, whether it succeeded, and bytes
abbrev pub Call : Type 0
Call = ℕ × ℕ × Bool × List ℕ

-- the call of these parts
abbrev pub call_with : ℕ → ℕ → Bool → List ℕ → Call
call_with kind at ok bytes = (kind, at, ok, bytes)

-- the file was synced, and then read, and had these bytes; or it was made, and had none
abbrev pub open_call : List ℕ → Call
open_call bytes = (0, 0, true, bytes)

-- these bytes were written at this offset, or the call failed
abbrev pub write_call : ℕ → List ℕ → Bool → Call
write_call at bytes ok = (1, at, ok, bytes)

-- the file was cut to this length, or the call failed
abbrev pub truncate_call : ℕ → Bool → Call
truncate_call len ok = (2, len, ok, [])

-- the file was synced, or the call failed
abbrev pub sync_call : Bool → Call
sync_call ok = (3, 0, ok, [])

-- another file of these bytes, which the disk has, took the file's name, or the call failed
abbrev pub rename_call : List ℕ → Bool → Call
rename_call bytes ok = (4, 0, ok, bytes)

-- the folder of the file's name was synced, or the call failed
abbrev pub folder_sync_call : Bool → Call
folder_sync_call ok = (5, 0, ok, [])

-- a call that failed before it changed anything
abbrev pub refused_call : Call
refused_call = (6, 0, false, [])

-- the file, which lay beside the one at a path, took that one's name, or the call failed
abbrev pub took_name : List ℕ → Bool → Call
took_name path ok = (7, 0, ok, path)

-- the file was locked, or the call failed
abbrev pub lock_call : Bool → Call
lock_call ok = (8, 0, ok, [])

-- a write that found no room: it changed nothing
abbrev pub full_call : Call
full_call = (9, 0, false, [])

-- a write that a signal came before: it changed nothing
abbrev pub interrupted_call : Call
interrupted_call = (10, 0, true, [])

-- the call of the numbers that it was noted by
abbrev pub call_of : List ℕ → List ℕ → Call
call_of numbers bytes = (slice_index numbers 0, slice_index numbers 1, slice_index numbers 2 == 1, bytes)

-- a file with bytes written over it at an offset
abbrev pub overlay : List ℕ → ℕ → List ℕ → List ℕ
overlay file at bytes = take at file ++ bytes ++ drop (at + length bytes) file

-- what a read returns after a call, by what it returned before. After a call that failed nothing is read
abbrev pub next_seen : ℕ → ℕ → Bool → List ℕ → List ℕ → List ℕ
next_seen zero at ok bytes file = bytes
next_seen (suc zero) at ok bytes file = if ok then overlay file at bytes else file
next_seen (suc (suc zero)) at ok bytes file = take at file
next_seen (suc (suc (suc zero))) at ok bytes file = file
next_seen (suc (suc (suc (suc zero)))) at ok bytes file = if ok then bytes else file
next_seen (suc (suc (suc (suc (suc more))))) at ok bytes file = file

-- what may be asked of a file, as three flags: anything, since no call has failed but such as changed nothing; only
-- that the folder is synced, since another file has just taken its name; and that another file takes its name, since
-- no such call has failed. If all are false, nothing: what the disk has under that name isn't known any more
abbrev pub CallState : Type 0
CallState = Bool × Bool × Bool

-- what may be asked of a file after a call. A sync behind a failed one proves nothing, nor does one between a rename
-- and the sync of the folder. A file that takes the name is another one, so what has failed on the old one counts no
-- more
abbrev pub next_state : ℕ → Bool → CallState → CallState
next_state zero ok s = (true, false, true)
next_state (suc zero) ok s = (s.0 && ok, false, s.2)
next_state (suc (suc zero)) ok s = (s.0 && ok, false, s.2)
next_state (suc (suc (suc zero))) ok s = (s.0 && ok, false, s.2)
next_state (suc (suc (suc (suc zero)))) ok s = (false, s.2 && ok, false)
next_state (suc (suc (suc (suc (suc zero))))) ok s = (s.1 && ok, false, s.1 && ok)
next_state (suc (suc (suc (suc (suc (suc more)))))) ok s = s

-- what may be asked of a file after these calls
abbrev pub state_after : List Call → CallState
state_after [] = (false, false, false)
state_after (call ∷ earlier) = next_state call.0 call.2 (state_after earlier)

-- whether no call has failed but such as changed nothing, and the file's name is on the disk
abbrev pub is_usable_after : List Call → Bool
is_usable_after calls = (state_after calls).0

-- whether no call that gave the file's name to another one has failed, nor the sync of the folder after it
abbrev pub is_named_after : List Call → Bool
is_named_after calls = (state_after calls).2

-- what a crash leaves in a call or behind it, but for what it might have left before: by what it might leave then,
-- and by what a read returned then. The flag is whether the call succeeded and the file is usable
abbrev pub NextLeft : ℕ → ℕ → Bool → List ℕ → List ℕ → (List ℕ → Type 0) → List ℕ → Type 0
NextLeft zero at ok bytes file before c = c ≡ bytes
NextLeft (suc zero) at ok bytes file before c = (d : List ℕ) × before d × Torn at (length bytes) d c
NextLeft (suc (suc zero)) at ok bytes file before c = (d : List ℕ) × before d × Cut at d c
NextLeft (suc (suc (suc zero))) at true bytes file before c = c ≡ file
NextLeft (suc (suc (suc zero))) at false bytes file before c = before c
NextLeft (suc (suc (suc (suc zero)))) at ok bytes file before c = before c ⊎ (c ≡ bytes)
NextLeft (suc (suc (suc (suc (suc zero))))) at true bytes file before c = c ≡ file
NextLeft (suc (suc (suc (suc (suc zero))))) at false bytes file before c = before c
NextLeft (suc (suc (suc (suc (suc (suc more)))))) at ok bytes file before c = before c

-- what a read returns after these calls
abbrev pub seen_after : List Call → List ℕ
seen_after [] = []
seen_after (call ∷ earlier) = next_seen call.0 call.1 call.2 call.3 (seen_after earlier)

-- what a crash may leave in the newest of these calls or behind it
abbrev pub MayLeave : List Call → List ℕ → Type 0
MayLeave [] c = ⊥
MayLeave (call ∷ earlier) c = NextLeft call.0 call.1 (call.2 && is_usable_after (call ∷ earlier)) call.3 (seen_after earlier) (MayLeave earlier) c

-- whether all is within what a read returned (`all_within`) once one more call is made: a write begins within it, and
-- a cut ends within it
abbrev pub within_by : ℕ → ℕ → List ℕ → Bool → Bool
within_by zero at file before = true
within_by (suc zero) at file before = nat_le at (length file) && before
within_by (suc (suc zero)) at file before = nat_le at (length file) && before
within_by (suc (suc (suc more))) at file before = before

-- whether the file was opened, and each write and each cut since was within what a read returned then
abbrev pub all_within : List Call → Bool
all_within [] = false
all_within (call ∷ earlier) = within_by call.0 call.1 (seen_after earlier) (all_within earlier)

-- what a crash might have left at some moment from the t-th call on
abbrev pub LeftSince : List Call → ℕ → List ℕ → Type 0
LeftSince [] t c = ⊥
LeftSince (call ∷ earlier) t c = MayLeave (call ∷ earlier) c ⊎ ((t ≤ length earlier) × LeftSince earlier t c)

-- whether the file was locked by one of these calls
abbrev pub is_locked_after : List Call → Bool
is_locked_after [] = false
is_locked_after (call ∷ earlier) = if call.0 == 8 && call.2 then true else is_locked_after earlier

-- how many of these calls have failed, but for writes that found no room
abbrev pub faults_in : List Call → ℕ
faults_in [] = 0
faults_in (call ∷ earlier) = if call.2 || call.0 == 9 then faults_in earlier else suc (faults_in earlier)

-- how many of these calls are writes that found no room
abbrev pub full_in : List Call → ℕ
full_in [] = 0
full_in (call ∷ earlier) = if call.0 == 9 then suc (full_in earlier) else full_in earlier
