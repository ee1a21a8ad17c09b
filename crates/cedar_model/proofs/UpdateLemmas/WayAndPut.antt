-- An update is a number moved out of the way, if one is there, and then the put.
use Rattle.std.proofs.Common.{◌≡◌, ◌⊎◌, ℕ, ◌<◌, ◌≤◌, ◌+◌, refl, subst, inl, inr, arith, Option, None, Some}
use Rattle.std.specs.Prelude.{MatchOption}
use Rattle.cedar_model.specs.Edit.Steps.{MakesBlocks}
use Rattle.cedar_model.specs.Table.TableFields.{Fields}
use Rattle.cedar_model.proofs.UpdateLemmas.BlocksMade.{made_then}

pub some_or_none : (m : Option ℕ) → (m ≡ None) ⊎ ((n : ℕ) × (m ≡ Some n))
some_or_none None = inl refl
some_or_none (Some n) = inr (n, refl)

pub each_moved : (m : Option ℕ) (P : ℕ → Type 0) → ((n : ℕ) → m ≡ Some n → P n) → MatchOption m (Unit {0}) P
each_moved None P h = tt
each_moved (Some n) P h = h n refl

-- the blocks of a key of so many bytes: first those that made way, then those of the put
module _ (old mid after : Fields) (bytes : ℕ) (m : Option ℕ) (same : m ≡ None → mid ≡ old) (first : (n : ℕ) × (n ≤ 1) × MakesBlocks n old mid) where
  pub all_made : ((n : ℕ) × (n ≤ bytes) × MakesBlocks n mid after) → ((k : ℕ) → m ≡ Some k → (n : ℕ) × (n < bytes) × MakesBlocks n mid after) → (n : ℕ) × (n ≤ bytes) × MakesBlocks n old after
  all_made next behind = elim (some_or_none m) [
    | inl none_moved ↦ (next.0, next.1, subst (λ (T : Fields). MakesBlocks next.0 T after) (same none_moved) next.2)
    | inr some ↦
        let rest = behind some.0 some.1 in
        let one : first.0 ≤ 1 = first.1 in
        let few : rest.0 < bytes = rest.1 in
        (first.0 + rest.0, omega (arith, one, few), made_then first.0 rest.0 old mid after first.2 rest.2)
  ]

  pub fewer_made : ((n : ℕ) × (n < bytes) × MakesBlocks n mid after) → ((k : ℕ) → m ≡ Some k → (n : ℕ) × (n + 1 < bytes) × MakesBlocks n mid after) → (n : ℕ) × (n < bytes) × MakesBlocks n old after
  fewer_made next behind = elim (some_or_none m) [
    | inl none_moved ↦ (next.0, next.1, subst (λ (T : Fields). MakesBlocks next.0 T after) (same none_moved) next.2)
    | inr some ↦
        let rest = behind some.0 some.1 in
        let one : first.0 ≤ 1 = first.1 in
        let few : rest.0 + 1 < bytes = rest.1 in
        (first.0 + rest.0, omega (arith, one, few), made_then first.0 rest.0 old mid after first.2 rest.2)
  ]
