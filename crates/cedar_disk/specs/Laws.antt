-- What of a file's history is about now.
use Rattle.std.specs.Prelude.{◌≤◌, ℕ, List, [], ◌∷◌, length}
use Rattle.std.proofs.Common.{inl, inr, arith}
use Rattle.whole_files.specs.Calls.{Call, MayLeave, LeftSince}

-- the law of `Device` that this moment is one of those since an earlier one
abbrev pub counts_now : (calls : List Call) (t : ℕ) (c : List ℕ) → t ≤ length calls → MayLeave calls c → LeftSince calls t c
counts_now [] t c le now = now
counts_now (call ∷ earlier) t c le now = inl now

-- the law of `Device` that since this moment there is no other
abbrev pub only_now : (calls : List Call) (c : List ℕ) → LeftSince calls (length calls) c → MayLeave calls c
only_now [] c left = left
only_now (call ∷ earlier) c (inl now) = now
only_now (call ∷ earlier) c (inr past) = absurd (omega (arith, past.0))
