-- The last of some entries that ascend, and how near a search has come to it.
use Rattle.std.specs.Prelude.{◌≡◌, ◌⊎◌, ℕ, ℤ, ◌+◌, ◌-◌, ◌*◌, ◌<◌, ◌≤◌, Bool, List, [], ◌∷◌, ◌++◌}
use Rattle.std.specs.Prelude.{filter, get_or, length, MatchOption, Option, option_map, take}
use Rattle.std.specs.Bool.{MatchBool}
use Rattle.std.specs.Cmp.Lexicographic.{slice_cmp}
use Rattle.std.specs.List.{AllByRecursion, sum_by}
use Rattle.std.specs.Ordering.{is_ge, is_gt, nat_cmp}
use Rattle.std.specs.declared.cmp.Ordering.TheVariants.{Less}
use Rattle.std.specs.declared.vec.Vec.{Vec}
use Rattle.cedar_tree.specs.Laws.{ArePathsAscending, ArePathsKeys}
use Rattle.cedar_tree.specs.Queries.{Entry}
use Rattle.key_ranges.specs.Spans.{ends_before}
use Rattle.last_entries.specs.declared.near.Near.{Near}

-- entries at keys that ascend
abbrev pub AscendByKeys : List Entry → Type 0
AscendByKeys es = ArePathsAscending es × ArePathsKeys es

-- the entries at a byte string and after it
abbrev pub from_on : List ℕ → List Entry → List Entry
from_on key es = filter (λ e. is_ge (slice_cmp nat_cmp e.0 key)) es

-- the entries behind a byte string
abbrev pub behind_key : List ℕ → List Entry → List Entry
behind_key key es = filter (λ e. is_gt (slice_cmp nat_cmp e.0 key)) es

-- the entries before an end, or all if there is none
abbrev pub before_end : Option (List ℕ) → List Entry → List Entry
before_end to es = filter (λ e. ends_before to e.0) es

-- what was found is the first of some entries, or there is none
abbrev pub IsFirstOf : List Entry → List ℕ → Option ℤ → Type 0
IsFirstOf es key found = MatchOption found (es ≡ []) (λ value. (rest : List Entry) × (es ≡ (key, value) ∷ rest))

-- what was found is the last of some entries, or there is none
abbrev pub IsLastOf : List Entry → Option Entry → Type 0
IsLastOf es found = MatchOption found (es ≡ []) (λ last. (front : List Entry) × (es ≡ front ++ last ∷ []))

-- a value and a key as an entry
abbrev pub entry_told : {A : Type 0} → Option (ℤ × Vec ℕ A) → Option Entry
entry_told found = option_map (λ told. (told.1.items, told.0)) found

-- ---- how it is found

-- an entry is one of a list
abbrev pub IsOneOf : Entry → List Entry → Type 0
IsOneOf e [] = ⊥
IsOneOf e (x ∷ xs) = (x ≡ e) ⊎ IsOneOf e xs

-- a byte string begins with another one
abbrev pub GoesOnFrom : List ℕ → List ℕ → Type 0
GoesOnFrom front w = (rest : List ℕ) × (w ≡ front ++ rest)

-- an entry that is held, behind which all others have the first bytes of its key, and then no byte above the highest one
pub record IsNearBy (es : List Entry) (key : List ℕ) (value : ℤ) (depth highest : ℕ) : Type 0 where
  pub held : IsOneOf (key, value) es
  pub within : depth ≤ length key
  pub same : AllByRecursion (λ e. GoesOnFrom (take depth key) e.0) (behind_key key es)
  pub before : AllByRecursion (λ e. slice_cmp nat_cmp e.0 (take depth key ++ (highest + 1) ∷ []) ≡ Less) (behind_key key es)
  pub low : depth < length key → get_or key depth 0 ≤ highest
  pub small : highest < 256

-- what a search under way has found is near the last entry
abbrev pub IsNear : {A : Type 0} → List Entry → Near A → Type 0
IsNear es near = IsNearBy es near.key.items near.value near.depth near.highest

-- how much is still to come: the entries behind, by their bytes, and then what is left of the byte that is looked at
abbrev pub far : List Entry → List ℕ → ℕ → ℕ → ℕ
far es key depth highest = 256 * (sum_by (λ e. length e.0 + 1) (behind_key key es) + (length key - depth)) + (highest - get_or key depth 0)

-- how much is still to come of a search under way
abbrev pub farness : {A : Type 0} → List Entry → Near A → ℕ
farness es near = far es near.key.items near.depth near.highest

-- a search that has ended is at the last entry; otherwise it has come nearer
abbrev pub Nears : {A : Type 0} → List Entry → Near A → Near A → Bool → Type 0
Nears es old new ends =
    MatchBool ends ((behind_key new.key.items es ≡ []) × IsNear es new) (IsNear es new × (farness es new < farness es old))
