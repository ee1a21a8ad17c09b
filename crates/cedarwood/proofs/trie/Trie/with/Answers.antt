use denote.Param.{copied, number, param}
use Rattle.std.proofs.Common.{rules}
use Rattle.cedarwood.proofs.DictionaryLemmas.{limit_of}
use Rattle.cedarwood.proofs.MemoryLemmas.{table_fits}
use Rattle.cedarwood.proofs.trie.Trie.with.Goals as goal

pub new-requires : goal.new-requires
new-requires g c = (table_fits (param 0 g.row.L) (param 1 (number g.row.SLOTS)) (copied 2 g.row.A) g.L.Layout g.A.Allocator (search), (search rules, limit_of g.row.SLOTS c.requires.limit))
