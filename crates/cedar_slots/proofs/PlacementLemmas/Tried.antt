-- How many blocks a search for places has tried: all others count what they counted before.
use Rattle.std.proofs.Common.{◌≡◌, ℕ, ◌+◌, ◌≤◌, [], ◌∷◌, refl, sym, subst, ◌∙◌, arith}
use Rattle.cedar_slots.specs.Blocks.{BlockFields, counts_at}
use Rattle.cedar_slots.specs.Ring.{occurs}
use Rattle.cedar_slots.specs.Tried.{TriesAtMost}
use Rattle.cedar_slots.proofs.RingsLemmas.Ring.{occurs_other, occurs_same}

pub tries_none : (n : ℕ) (blocks : BlockFields) → TriesAtMost n blocks blocks
tries_none n blocks = ([], omega arith, λ b _. refl)

-- one block more
pub tries_one_more : (n : ℕ) (before mid after : BlockFields) (e : ℕ) → TriesAtMost n before mid
    → ((b : ℕ) → (b ≡ e → ⊥) → counts_at after.records b ≡ counts_at mid.records b) → TriesAtMost (n + 1) before after
tries_one_more n before mid after e held others = (e ∷ held.0, omega (arith, held.1), kept)
  where
    kept : (b : ℕ) → occurs b (e ∷ held.0) ≡ 0 → counts_at after.records b ≡ counts_at before.records b
    kept b none =
        let other : b ≡ e → ⊥ = λ same. absurd (omega (arith, none, subst (λ x. occurs x (e ∷ held.0) ≡ 1 + occurs x held.0) (sym same) (occurs_same e held.0))) in
        others b other ∙ held.2 b (omega (arith, none, occurs_other b e held.0 other))

pub tries_fewer : (n m : ℕ) (before after : BlockFields) → n ≤ m → TriesAtMost n before after → TriesAtMost m before after
tries_fewer n m before after few held = (held.0, omega (arith, few, held.1), held.2)
