use Rattle.std.proofs.Common.{◌<◌, rules, sym, subst}
use Rattle.cedar_table.specs.Table.Views.{cells}
use Rattle.cedar_model.proofs.EditLemmas.LabelsWritten.{held_still, linked_behind}
use Rattle.cedar_table.proofs.chain.link_behind.Goals as goal

pub set_sibling-requires-2 : goal.set_sibling-requires-2
set_sibling-requires-2 g c =
    let first = c.set_sibling.ensures in (
      search rules,
      (
        first.sound,
        (
          subst (λ n. c.args.before < n) (sym first.frame.size) c.requires.before_in,
          held_still (cells c.args.table.now) (cells c.set_sibling.new.self) c.args.before (first.set.check c.args.before) c.requires.before_held,
        ),
      ),
    )

pub returns-clause-linked : goal.returns-clause-linked
returns-clause-linked g c =
    linked_behind (cells c.args.table.now) (cells c.set_sibling.new.self) (cells c.set_sibling-2.new.self) c.args.before c.args.slot c.sibling-next.result c.args.label c.requires.apart c.set_sibling.ensures.set c.set_sibling-2.ensures.set c.sibling-next.ensures
