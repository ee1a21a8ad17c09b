-- What a crash may leave of a file between two syncs.
use Rattle.std.specs.Prelude.{◌≡◌, ℕ, ◌+◌, ◌≤◌, max, min, List, length, take, drop}

-- what a file may be after a write of n bytes that a crash cuts short: any bytes in the range and past the old end,
-- and elsewhere as it was. The old end may be in front of the range, if a write past the end wasn't on the disk yet
pub record Torn (at n : ℕ) (old new : List ℕ) : Type 0 where
  pub before : take (min at (length old)) new ≡ take at old
  pub after : drop (at + n) new ≡ drop (at + n) old
  pub no_shorter : length old ≤ length new
  pub no_longer : length new ≤ max (length old) (at + n)

-- what a file may be after a cut that a crash cuts short: some length between the two. What was shorter before, since
-- a write past the end wasn't on the disk, stays so
pub record Cut (n : ℕ) (old new : List ℕ) : Type 0 where
  pub no_shorter : min n (length old) ≤ length new
  pub front : take (length new) old ≡ new

-- a crash leaves this file and nothing else
abbrev pub Only : List ℕ → (List ℕ → Type 0) → Type 0
Only file outcomes = (c : List ℕ) → outcomes c → c ≡ file
