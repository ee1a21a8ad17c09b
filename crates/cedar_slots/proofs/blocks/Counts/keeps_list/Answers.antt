use Rattle.std.proofs.Common.{◌≡◌, ◌∙◌, arith, inl, inr, of_z, sym, true, w32}
use Rattle.std.specs.Prelude.{nat_eq, not}
use Rattle.std.proofs.lemmas.Bool.Decides.{eqb_tells}
use Rattle.std.proofs.lemmas.Int.{ints}
use Rattle.cedar_slots.proofs.ListsLemmas.LinkedBlocks.{kind_of_open}
use Rattle.cedar_slots.proofs.blocks.Counts.keeps_list.Goals as goal

differ : (a b : _) → not (nat_eq a b) ≡ true → a ≡ b → ⊥
differ a b h e = elim (eqb_tells a b) [ inl p ↦ let yes = p.0 in cc | inr p ↦ p.1 e ]

pub returns-else-self-max_trial : goal.returns-else-self-max_trial
returns-else-self-max_trial c = λ differs.
    let trial : of_z w32 c.args.before.trial ≡ of_z w32 c.args.max_trial → ⊥ = differ _ _ differs in
    kind_of_open c.args.max_trial c.args.self (λ e. omega (arith, ints, e)) (λ e. omega (arith, ints, e)) (λ e. omega (arith, ints, e))
    ∙ sym (kind_of_open c.args.max_trial c.args.before (λ e. omega (arith, ints, e)) (λ e. omega (arith, ints, e)) (λ e. omega (arith, ints, e, trial)))
