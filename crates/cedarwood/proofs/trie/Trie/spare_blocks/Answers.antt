use Rattle.std.proofs.Common.{◌∙◌, ◌-◌, ◌/◌, ap}
use Rattle.cedarwood.specs.Dictionary.{Dictionary}
use Rattle.cedarwood.proofs.MemoryLemmas.{table_fits}
use Rattle.cedarwood.proofs.trie.Trie.spare_blocks.Goals as goal

pub spare_blocks-requires : goal.spare_blocks-requires
spare_blocks-requires g c = search table_fits

pub returns : goal.returns
returns g c = c.spare_blocks.ensures ∙ ap (λ (d : Dictionary). (d.capacity - d.size) / 256) c.self.view_is
