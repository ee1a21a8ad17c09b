-- The contents that a file has had.
use Rattle.std.specs.Prelude.{◌≡◌, ◌⊎◌, ℕ, List, [], ◌∷◌, length, drop, Vec}
use mathlib.Core.Logic.{inl, inr}

-- the file has had these contents
abbrev pub HadBeen : {A : Type 0} → List (Vec ℕ A) → List ℕ → Type 0
HadBeen [] bytes = ⊥
HadBeen (v ∷ past) bytes = (bytes ≡ v.items) ⊎ HadBeen past bytes

none_left : {A : Type 0} (past : List (Vec ℕ A)) (c : List ℕ) → HadBeen (drop (length past) past) c → ⊥
none_left [] c had = had
none_left (v ∷ past) c had = none_left past c had

-- since the last of its contents a file in memory has only what it has now
pub only_bytes : {A : Type 0} (past : List (Vec ℕ A)) (bytes c : List ℕ) → (c ≡ bytes) ⊎ HadBeen (drop (length past) past) c → c ≡ bytes
only_bytes past bytes c (inl now) = now
only_bytes past bytes c (inr had) = absurd (none_left past c had)
