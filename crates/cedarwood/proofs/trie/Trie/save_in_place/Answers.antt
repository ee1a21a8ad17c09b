use Rattle.cedarwood.proofs.MemoryLemmas.{table_fits}
use Rattle.cedarwood.proofs.trie.Trie.save_in_place.Goals as goal

pub allocator-requires : goal.allocator-requires
allocator-requires g c = search table_fits
