-- What a caller sees of a walk that is under way.
use Rattle.std.specs.Prelude.{◌≡◌, ◌<◌, ℕ, ℤ, List, [], ◌∷◌, length}
use Rattle.std.specs.Str.{IsUtf8}
use Rattle.std.specs.Coded.{Coded, code_by, coded×, coded_ℕ, coded_ℤ, coded_list}
use Rattle.std.proofs.Common.{refl}
use Rattle.cedar_tree.specs.Queries.{Entry}
use Rattle.cedarwood.specs.declared.queries.entries.EntryError.{EntryError}
use Rattle.cedarwood.specs.declared.queries.entries.EntryError.TheVariants.{Memory, Utf8}

-- a prefix walk: the items that it has left, how many bytes of its query it has still to look at, and how many the query has
pub record PrefixWalk : Type 0 where
  pub rest : List (ℤ × ℕ)
  pub left : ℕ
  pub query : ℕ

-- a prefix walk as plain data, for `impl Model` alone
abbrev pub prefix_walk_code : Coded PrefixWalk
prefix_walk_code =
    code_by (List (ℤ × ℕ) × (ℕ × ℕ)) (coded× (coded_list (coded× coded_ℤ coded_ℕ)) (coded× coded_ℕ coded_ℕ))
    (λ w. (w.rest, (w.left, w.query)))
    (λ p. record { rest = p.0; left = p.1.0; query = p.1.1 })
    (λ _. refl)

-- a prefix walk with a count of its comparisons: the items that it has left, the count, and how many bytes the query has
pub record CountedWalk : Type 0 where
  pub rest : List (ℤ × ℕ)
  pub ticks : ℕ
  pub query : ℕ

-- a counted prefix walk as plain data, for `impl Model` alone
abbrev pub counted_walk_code : Coded CountedWalk
counted_walk_code =
    code_by (List (ℤ × ℕ) × (ℕ × ℕ)) (coded× (coded_list (coded× coded_ℤ coded_ℕ)) (coded× coded_ℕ coded_ℕ))
    (λ w. (w.rest, (w.ticks, w.query)))
    (λ p. record { rest = p.0; ticks = p.1.0; query = p.1.1 })
    (λ _. refl)

-- a text entry couldn't be given: its key isn't UTF-8, the error has its number, and the walk goes on behind it; or there was no memory
-- for it, and nothing is left
abbrev pub IsEntryError : List Entry → EntryError → List Entry → Type 0
IsEntryError rest (Utf8 value) later = (entry : Entry) × (rest ≡ entry ∷ later) × (value ≡ entry.1) × (IsUtf8 entry.0 → ⊥)
IsEntryError rest Memory later = (later ≡ []) × (0 < length rest)
