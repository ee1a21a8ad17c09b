use Rattle.cedar_table.specs.Table.Views.{cells}
use Rattle.cedar_model.proofs.EditLemmas.LabelsWritten.{sets_sibling}
use Rattle.cedar_table.proofs.table.Table.set_sibling.Goals as goal

pub returns-clause-set : goal.returns-clause-set
returns-clause-set g c = sets_sibling (cells c.args.self.now) (cells c.write_info.new.self) c.args.slot c.args.label c.child.result c.write_info.ensures.written c.child.ensures
