use Rattle.std.proofs.Common.{◌≡◌, arith, refl, ap}
use Rattle.std.proofs.lemmas.Result.{on_ok_weaker}
use Rattle.cedar_table.specs.Table.Views.{fields}
use Rattle.cedarwood.proofs.SaveLemmas.{file_passes, is_file}
use Rattle.cedarwood.proofs.MemoryLemmas.{table_fits}
use Rattle.cedarwood.proofs.trie.Trie.save_to_writer.Goals as goal

pub returns-clause-file : goal.returns-clause-file
returns-clause-file g c =
    let seen : fields c.self.inside.table ≡ c.args.self.now.table = ap (λ d. d.table) c.self.view_is in
    on_ok_weaker c.write_table.result (λ fits. is_file 1 g.row.SLOTS (fields c.self.inside.table) c.args.self.now.table (omega arith) seen c.self.invariant fits) c.write_table.ensures.fits

pub returns-clause-passes : goal.returns-clause-passes
returns-clause-passes g c =
    let seen : fields c.self.inside.table ≡ c.args.self.now.table = ap (λ d. d.table) c.self.view_is in
    on_ok_weaker c.write_table.result
    (λ fits. file_passes 1 g.L.Layout.kind g.row.SLOTS (fields c.self.inside.table) c.args.self.now.table (omega arith) seen refl c.self.invariant fits) c.write_table.ensures.fits

pub write_table-requires : goal.write_table-requires
write_table-requires g c = search table_fits
