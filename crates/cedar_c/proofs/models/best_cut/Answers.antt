use Rattle.std.proofs.Common.{IfSome, subst, sym}
use Rattle.cedar_words.specs.Words.{IsBestCut}
use Rattle.either_layout.specs.Words.{inner_dictionary}
use Rattle.either_layout.specs.declared.any.AnyCedar.{AnyCedar}
use Rattle.cedar_c.specs.BestCuts.{key_costs, unknown_runs}
use Rattle.cedar_c.proofs.models.best_cut.Goals as goal

pub returns-in-Default-on_layout : goal.returns-in-Default-on_layout
returns-in-Default-on_layout c =
    subst (λ (a : AnyCedar). IfSome c.best_of_either.result (λ tokens. IsBestCut (inner_dictionary a).state.tree (key_costs c.args.costs.now) (unknown_runs c.args.costs.now c.args.text.now) c.args.text.now tokens.items)) (sym c.in-Default-on_layout.is) c.best_of_either.ensures

pub returns-in-Reduced-on_layout : goal.returns-in-Reduced-on_layout
returns-in-Reduced-on_layout c =
    subst (λ (a : AnyCedar). IfSome c.best_of_either-2.result (λ tokens. IsBestCut (inner_dictionary a).state.tree (key_costs c.args.costs.now) (unknown_runs c.args.costs.now c.args.text.now) c.args.text.now tokens.items)) (sym c.in-Reduced-on_layout.is) c.best_of_either-2.ensures
