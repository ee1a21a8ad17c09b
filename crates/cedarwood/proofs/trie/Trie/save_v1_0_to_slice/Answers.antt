use Rattle.std.proofs.Common.{◌≡◌, ◌≤◌, ◌++◌, ◌∙◌, ap, drop, length, subst, sym}
use Rattle.cedar_format.specs.Tables.{table_bytes}
use Rattle.cedar_model.specs.Table.TableFields.{Fields}
use Rattle.cedar_table.specs.Table.Views.{fields}
use Rattle.cedarwood.specs.Dictionary.{Dictionary}
use Rattle.cedarwood.proofs.MemoryLemmas.{table_fits}
use Rattle.cedarwood.proofs.trie.Trie.save_v1_0_to_slice.Goals as goal

pub put_table-requires : goal.put_table-requires
put_table-requires g c =
    let seen : fields c.self.inside.table ≡ c.args.self.now.table = ap (λ (d : Dictionary). d.table) c.self.view_is in
    (search table_fits, subst (λ (T : Fields). length (table_bytes 0 T) ≤ length c.args.bytes.now) (sym seen) c.requires.room)

pub returns-clause-bytes : goal.returns-clause-bytes
returns-clause-bytes g c =
    let seen : fields c.self.inside.table ≡ c.args.self.now.table = ap (λ (d : Dictionary). d.table) c.self.view_is in
    subst (λ (T : Fields). c.put_table.new.bytes ≡ table_bytes 0 T ++ drop c.put_table.result c.args.bytes.now) seen c.put_table.ensures.bytes

pub returns-clause-len : goal.returns-clause-len
returns-clause-len g c =
    let seen : fields c.self.inside.table ≡ c.args.self.now.table = ap (λ (d : Dictionary). d.table) c.self.view_is in
    c.put_table.ensures.len ∙ ap (λ (T : Fields). length (table_bytes 0 T)) seen
