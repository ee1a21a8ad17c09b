use Rattle.cedarwood.proofs.MemoryLemmas.{table_fits}
use Rattle.cedarwood.proofs.clone.TrieClone.clone.Goals as goal

pub clone-requires : goal.clone-requires
clone-requires g c = search table_fits
