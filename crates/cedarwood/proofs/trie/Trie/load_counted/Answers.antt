use denote.Param.{copied, number, param}
use Rattle.std.proofs.Common.{refl, rules}
use Rattle.std.proofs.lemmas.Result.{err_from_is_err_and}
use Rattle.cedar_table.specs.Table.Views.{fields}
use Rattle.cedar_file.proofs.LoadLemmas.{stands_in, stays_refused}
use Rattle.cedarwood.proofs.DictionaryLemmas.{limit_of}
use Rattle.cedarwood.proofs.MemoryLemmas.{table_fits}
use Rattle.cedarwood.proofs.trie.Trie.load_counted.Goals as goal

pub load_table-requires : goal.load_table-requires
load_table-requires g c = (table_fits (param 0 g.row.L) (param 1 (number g.row.SLOTS)) (copied 2 g.row.A) g.L.Layout g.A.Allocator (search rules), limit_of g.row.SLOTS c.requires.limit)

pub returns-in_err-table-clause-loads : goal.returns-in_err-table-clause-loads
returns-in_err-table-clause-loads g c =
    let p = err_from_is_err_and c.from_residual.result c.from_residual.ensures.1 in
    rw (p.1, p.2) (stays_refused (λ t. fields t) (λ trie. trie.table) g.L.Layout.kind g.row.SLOTS c.args.memory_limit _ _ _ _ _ c.in_err-table.ensures.loads)

pub returns-clause-loads : goal.returns-clause-loads
returns-clause-loads g c = stands_in (λ t. fields t) (λ trie. trie.table) g.L.Layout.kind g.row.SLOTS c.args.memory_limit _ _ _ _ c.in_ok-table.table _ refl c.in_ok-table.ensures.loads

pub returns-in_err-table-clause-told : goal.returns-in_err-table-clause-told
returns-in_err-table-clause-told g c =
    let p = err_from_is_err_and c.from_residual.result c.from_residual.ensures.1 in
    rw (p.1, p.2) c.in_err-table.ensures.told

pub returns-clause-told : goal.returns-clause-told
returns-clause-told g c = c.in_ok-table.ensures.told
