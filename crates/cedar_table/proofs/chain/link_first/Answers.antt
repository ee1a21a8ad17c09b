use Rattle.std.proofs.Common.{◌<◌, rules, sym, subst}
use Rattle.cedar_table.specs.Table.Views.{cells}
use Rattle.cedar_model.proofs.EditLemmas.LabelsWritten.{held_still, linked_child}
use Rattle.cedar_table.proofs.chain.link_first.Goals as goal

pub set_child-requires : goal.set_child-requires
set_child-requires g c =
    let first = c.set_sibling.ensures in (
      search rules,
      (
        first.sound,
        (
          subst (λ n. c.args.node < n) (sym first.frame.size) c.requires.node_in,
          held_still (cells c.args.table.now) (cells c.set_sibling.new.self) c.args.node (first.set.check c.args.node) c.requires.node_held,
        ),
      ),
    )

pub returns-clause-linked : goal.returns-clause-linked
returns-clause-linked g c =
    linked_child (cells c.args.table.now) (cells c.set_sibling.new.self) (cells c.set_child.new.self) c.args.node c.args.slot c.child-next.result c.args.label c.requires.apart c.set_sibling.ensures.set c.set_child.ensures.set c.child-next.ensures
