use Rattle.std.proofs.Common.{arith, sym, inl, inr}
use Rattle.std.proofs.lemmas.Int.{ints}
use Rattle.cedar_slots.proofs.ListsLemmas.LinkedBlocks.{kind_of_closed, kind_of_open}
use Rattle.cedar_slots.proofs.blocks.Blocks.list_of.Goals as goal

pub returns-then-counts-max_trial : goal.returns-then-counts-max_trial
returns-then-counts-max_trial g c =
    sym (kind_of_closed c.args.self.now.max_trial c.args.counts (omega (arith, ints)) (elim c.if-counts-max_trial.either [ inl h ↦ inl (omega (arith, ints)) | inr h ↦ inr (omega (arith, ints)) ]))

pub returns-else-counts-max_trial : goal.returns-else-counts-max_trial
returns-else-counts-max_trial g c =
    sym (kind_of_open c.args.self.now.max_trial c.args.counts (omega (arith, ints)) (omega (arith, ints)) (omega (arith, ints)))
