use Rattle.std.proofs.Common.{IfOk, OnOk, subst, sym}
use Rattle.either_layout.specs.Layouts.{inner_layout}
use Rattle.either_layout.specs.Loads.{table_in}
use Rattle.either_layout.specs.Words.{IsSavedAt, most_slots, PassesAgain, table_bytes}
use Rattle.either_layout.specs.declared.any.AnyCedar.{AnyCedar}
use Rattle.either_layout.proofs.any.AnyCedar.save_to_path.Goals as goal

pub returns-in-Default-clause-saved : goal.returns-in-Default-clause-saved
returns-in-Default-clause-saved g c =
    subst (λ (a : AnyCedar). IfOk c.save_to_path.result (IsSavedAt c.args.path.now (table_bytes 1 (table_in a)))) (sym c.in-Default.is) c.save_to_path.ensures.saved

pub returns-in-Reduced-clause-saved : goal.returns-in-Reduced-clause-saved
returns-in-Reduced-clause-saved g c =
    subst (λ (a : AnyCedar). IfOk c.save_to_path-in-Reduced.result (IsSavedAt c.args.path.now (table_bytes 1 (table_in a)))) (sym c.in-Reduced.is) c.save_to_path-in-Reduced.ensures.saved

pub returns-in-Default-clause-passes : goal.returns-in-Default-clause-passes
returns-in-Default-clause-passes g c =
    subst (λ (a : AnyCedar). OnOk c.save_to_path.result (PassesAgain (inner_layout a) most_slots 1 (table_in a))) (sym c.in-Default.is) c.save_to_path.ensures.passes

pub returns-in-Reduced-clause-passes : goal.returns-in-Reduced-clause-passes
returns-in-Reduced-clause-passes g c =
    subst (λ (a : AnyCedar). OnOk c.save_to_path-in-Reduced.result (PassesAgain (inner_layout a) most_slots 1 (table_in a))) (sym c.in-Reduced.is) c.save_to_path-in-Reduced.ensures.passes
