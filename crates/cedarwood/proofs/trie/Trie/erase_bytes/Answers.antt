use Rattle.std.proofs.Common.{subst}
use Rattle.cedar_model.specs.Meaning.Marks.{marks, MarksCut}
use Rattle.cedar_table.specs.Table.Views.{fields}
use Rattle.cedarwood.specs.Dictionary.{Dictionary}
use Rattle.cedarwood.proofs.MarkedLemmas.{is_marked}
use Rattle.cedarwood.proofs.MemoryLemmas.{table_fits}
use Rattle.cedarwood.proofs.trie.Trie.erase_bytes.Goals as goal

pub returns-clause-marks : goal.returns-clause-marks
returns-clause-marks g c = subst (λ (d : Dictionary). MarksCut d.marked (marks (fields c.erase.new.table)) c.args.key.now) c.self.view_is c.erase.ensures.marks_cut

pub returns-clause-marked : goal.returns-clause-marked
returns-clause-marked g c = is_marked g.row.SLOTS (fields c.erase.new.table) c.erase.ensures.well_formed

pub erase-requires : goal.erase-requires
erase-requires g c = (search table_fits, c.self.invariant)
