use Rattle.std.proofs.Common.{false, subst}
use Rattle.cedarwood.specs.Batches.{FindsKey, IsErasure}
use Rattle.cedarwood.specs.Dictionary.{Dictionary}
use Rattle.cedarwood.proofs.MemoryLemmas.{table_fits}
use Rattle.cedarwood.proofs.trie.Trie.find_bytes.Goals as goal

pub returns-clause-found : goal.returns-clause-found
returns-clause-found g c =
    subst (λ (d : Dictionary). FindsKey d c.args.key.now c.find_in.result) c.self.view_is (c.find_in.ensures.found c.self.inside.search_limit)

pub returns-clause-absent : goal.returns-clause-absent
returns-clause-absent g c =
    λ none. subst (λ (d : Dictionary). IsErasure d d c.args.key.now false) c.self.view_is (c.find_in.ensures.absent c.self.inside.search_limit none)

pub find_in-requires : goal.find_in-requires
find_in-requires g c = (search table_fits, c.self.invariant)
