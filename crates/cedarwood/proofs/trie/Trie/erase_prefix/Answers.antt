use Rattle.std.proofs.Common.{subst}
use Rattle.cedarwood.specs.Erasures.{IsErasedUnder}
use Rattle.cedarwood.proofs.trie.Trie.erase_prefix.Goals as goal

pub returns : goal.returns
returns g c = record { erased = subst (λ q. IsErasedUnder c.args.self.now c.erase_prefix_bytes.new.self q c.erase_prefix_bytes.result) c.as_bytes.ensures.value c.erase_prefix_bytes.ensures.erased }
