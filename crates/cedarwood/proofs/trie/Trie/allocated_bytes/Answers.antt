use Rattle.std.proofs.Common.{arith}
use Rattle.cedarwood.proofs.MemoryLemmas.{table_fits}
use Rattle.cedarwood.proofs.trie.Trie.allocated_bytes.Goals as goal

pub overflow_mul-result : goal.overflow_mul-result
overflow_mul-result g c =
    let t = c.self.invariant.table in
    omega (arith, c.capacity-capacity.ensures, t.within, t.limit.most)

pub capacity-capacity-requires : goal.capacity-capacity-requires
capacity-capacity-requires g c = search table_fits
