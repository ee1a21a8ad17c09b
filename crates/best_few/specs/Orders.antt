-- The order of entries by value, and the first of them in it.
use Rattle.std.specs.Prelude.{◌≡◌, ℕ, ℤ, pos, negsuc, Bool, true, false, List, [], ◌∷◌}
use Rattle.std.specs.Prelude.{if◌then◌else◌, map, take}
use Rattle.std.specs.Bool.{MatchBool}
use Rattle.std.specs.Cmp.Lexicographic.{slice_cmp}
use Rattle.std.specs.Ordering.{int_cmp, is_gt, is_lt, nat_cmp, ordering_then}
use Rattle.std.specs.declared.vec.Vec.{Vec}
use Rattle.std.specs.declared.cmp.Ordering.{Ordering}
use Rattle.cedar_tree.specs.Queries.{Entry}
use Rattle.best_few.specs.declared.order.ByValue.{ByValue}
use Rattle.best_few.specs.declared.order.ByValue.TheVariants.{HighestFirst, LowestFirst}

-- which of two values comes first
abbrev pub value_cmp : ByValue → ℤ → ℤ → Ordering
value_cmp HighestFirst v w = int_cmp w v
value_cmp LowestFirst v w = int_cmp v w

-- which of two entries comes first: by value, and with the same value by the bytes of their keys
abbrev pub entry_cmp : ByValue → Entry → Entry → Ordering
entry_cmp order a b = ordering_then (value_cmp order a.1 b.1) (slice_cmp nat_cmp a.0 b.0)

-- an entry put into its place among others that are in order
abbrev pub put_by_value : ByValue → Entry → List Entry → List Entry
put_by_value order e [] = e ∷ []
put_by_value order e (x ∷ xs) = if is_lt (entry_cmp order x e) then x ∷ put_by_value order e xs else e ∷ x ∷ xs

-- some entries in order
abbrev pub sort_by_value : ByValue → List Entry → List Entry
sort_by_value order [] = []
sort_by_value order (e ∷ es) = put_by_value order e (sort_by_value order es)

-- the first of some entries in order, so many at the most
abbrev pub best : ByValue → ℕ → List Entry → List Entry
best order most es = take most (sort_by_value order es)

-- no entry of a list comes before another entry
abbrev pub IsFirst : ByValue → Entry → List Entry → Type 0
IsFirst order e [] = Unit {0}
IsFirst order e (x ∷ xs) = (is_gt (entry_cmp order e x) ≡ false) × IsFirst order e xs

-- no entry of a list comes before one that is ahead of it
abbrev pub IsInOrder : ByValue → List Entry → Type 0
IsInOrder order [] = Unit {0}
IsInOrder order (x ∷ xs) = IsFirst order x xs × IsInOrder order xs

-- ---- how they are found

-- a number that is lower the earlier a value comes; and the value, if it is given that number
abbrev pub turn_of : ByValue → ℤ → ℤ
turn_of HighestFirst (pos n) = negsuc n
turn_of HighestFirst (negsuc n) = pos n
turn_of LowestFirst v = v

-- an entry with its number in the place of its value, or the other way round
abbrev pub turned_entry : ByValue → Entry → Entry
turned_entry order e = (e.0, turn_of order e.1)

-- a number and a key as an entry
abbrev pub found_entry : {A : Type 0} → ℤ × Vec ℕ A → Entry
found_entry found = (found.1.items, found.0)

-- which of two entries that are kept comes first
abbrev pub kept_cmp : {A : Type 0} → ℤ × Vec ℕ A → ℤ × Vec ℕ A → Ordering
kept_cmp a b = ordering_then (int_cmp a.0 b.0) (slice_cmp nat_cmp a.1.items b.1.items)

-- after an entry more, those that are kept are the best of those that were kept and of it
abbrev pub KeepsBest : {A : Type 0} → ℕ → List (ℤ × Vec ℕ A) → Entry → List (ℤ × Vec ℕ A) → Type 0
KeepsBest most old e new = sort_by_value LowestFirst (map found_entry new) ≡ best LowestFirst most (e ∷ map found_entry old)

-- after an entry more, those that are kept are those that were and it
abbrev pub KeepsOneMore : {A : Type 0} → List (ℤ × Vec ℕ A) → Entry → List (ℤ × Vec ℕ A) → Type 0
KeepsOneMore old e new = sort_by_value LowestFirst (map found_entry new) ≡ sort_by_value LowestFirst (e ∷ map found_entry old)

-- an entry comes before the last of those that are kept, which is on top
abbrev pub PrecedesLast : {A : Type 0} → Entry → List (ℤ × Vec ℕ A) → Type 0
PrecedesLast e [] = ⊥
PrecedesLast e (last ∷ kept) = is_lt (entry_cmp LowestFirst e (found_entry last)) ≡ true

-- no entry of a list comes behind another entry
abbrev pub IsLast : ByValue → Entry → List Entry → Type 0
IsLast order e [] = Unit {0}
IsLast order e (x ∷ xs) = (is_gt (entry_cmp order x e) ≡ false) × IsLast order e xs

-- an entry comes behind all that are kept
abbrev pub FollowsAll : {A : Type 0} → Entry → List (ℤ × Vec ℕ A) → Type 0
FollowsAll e kept = IsLast LowestFirst e (map found_entry kept)

-- whether an entry comes before the last of those that are kept, or else behind all of them
abbrev pub TellsIfBefore : {A : Type 0} → Entry → List (ℤ × Vec ℕ A) → Bool → Type 0
TellsIfBefore e kept is_before = MatchBool is_before (PrecedesLast e kept) (FollowsAll e kept)
