use Rattle.std.proofs.Common.{subst}
use Rattle.cedar_model.specs.Meaning.Marks.{MarksCut}
use Rattle.cedarwood.proofs.trie.Trie.erase.Goals as goal

pub returns-clause-marks : goal.returns-clause-marks
returns-clause-marks g c = subst (MarksCut c.args.self.now.marked c.erase_bytes.new.self.marked) c.as_bytes.ensures.value c.erase_bytes.ensures.marks
