use Rattle.std.proofs.Common.{OnOk, subst, sym}
use Rattle.either_layout.specs.Layouts.{inner_layout}
use Rattle.either_layout.specs.Loads.{table_in}
use Rattle.either_layout.specs.Words.{most_slots, PassesAgain}
use Rattle.either_layout.specs.declared.any.AnyCedar.{AnyCedar}
use Rattle.either_layout.proofs.any.AnyCedar.save_v1_0_to_writer.Goals as goal

pub returns-in-Default-clause-passes : goal.returns-in-Default-clause-passes
returns-in-Default-clause-passes g c =
    subst (λ (a : AnyCedar). OnOk c.save_v1_0_to_writer.result (PassesAgain (inner_layout a) most_slots 0 (table_in a))) (sym c.in-Default.is) c.save_v1_0_to_writer.ensures.passes

pub returns-in-Reduced-clause-passes : goal.returns-in-Reduced-clause-passes
returns-in-Reduced-clause-passes g c =
    subst (λ (a : AnyCedar). OnOk c.save_v1_0_to_writer-in-Reduced.result (PassesAgain (inner_layout a) most_slots 0 (table_in a))) (sym c.in-Reduced.is) c.save_v1_0_to_writer-in-Reduced.ensures.passes
