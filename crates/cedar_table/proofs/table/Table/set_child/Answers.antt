use Rattle.cedar_table.specs.Table.Views.{cells}
use Rattle.cedar_model.proofs.EditLemmas.LabelsWritten.{sets_child}
use Rattle.cedar_table.proofs.table.Table.set_child.Goals as goal

pub returns-clause-set : goal.returns-clause-set
returns-clause-set g c = sets_child (cells c.args.self.now) (cells c.write_info.new.self) c.args.slot c.sibling.result c.args.label c.write_info.ensures.written c.sibling.ensures
