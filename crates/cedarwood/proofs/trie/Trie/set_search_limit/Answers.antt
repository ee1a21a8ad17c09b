use Rattle.std.proofs.Common.{ap}
use Rattle.cedarwood.specs.Dictionary.{Dictionary}
use Rattle.cedarwood.proofs.trie.Trie.set_search_limit.Goals as goal

pub returns : goal.returns
returns g c = ap (λ (d : Dictionary). record d { search_limit = c.args.blocks }) c.self.view_is
