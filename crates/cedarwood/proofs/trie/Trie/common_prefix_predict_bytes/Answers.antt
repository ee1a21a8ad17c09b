use Rattle.std.proofs.Common.{◌∙◌, List, ℕ, ℤ}
use Rattle.cedarwood.proofs.CollectLemmas.{all_given}
use Rattle.cedarwood.proofs.MemoryLemmas.{table_fits}
use Rattle.cedarwood.proofs.trie.Trie.common_prefix_predict_bytes.Goals as goal

pub returns-clause-found : goal.returns-clause-found
returns-clause-found g c =
    let ran = c.in_ok-found.ensures.ran in
    ran.2.0 ∙ all_given (λ (rest : List (ℤ × ℕ)). rest) ran.0 c.common_prefix_predict_iter_bytes.result ran.1 ∙ c.common_prefix_predict_iter_bytes.ensures

pub allocator-requires : goal.allocator-requires
allocator-requires g c = search table_fits
