use Rattle.std.proofs.Common.{◌∙◌, ap}
use Rattle.cedarwood.specs.Dictionary.{Dictionary}
use Rattle.cedarwood.proofs.MemoryLemmas.{table_fits}
use Rattle.cedarwood.proofs.trie.Trie.node_capacity.Goals as goal

pub capacity-requires : goal.capacity-requires
capacity-requires g c = search table_fits

pub returns : goal.returns
returns g c = c.capacity.ensures ∙ ap (λ (d : Dictionary). d.capacity) c.self.view_is
