use Rattle.std.proofs.Common.{◌∙◌}
use Rattle.cedarwood.specs.Walks.{PrefixWalk}
use Rattle.cedarwood.proofs.CollectLemmas.{all_given}
use Rattle.cedarwood.proofs.MemoryLemmas.{table_fits}
use Rattle.cedarwood.proofs.trie.Trie.common_prefix_search_bytes.Goals as goal

pub returns-clause-found : goal.returns-clause-found
returns-clause-found g c =
    let ran = c.in_ok-found.ensures.ran in
    ran.2.0 ∙ all_given (λ (walk : PrefixWalk). walk.rest) ran.0 c.common_prefix_iter_bytes.result ran.1 ∙ c.common_prefix_iter_bytes.ensures.rest

pub allocator-requires : goal.allocator-requires
allocator-requires g c = search table_fits
