use Rattle.std.proofs.Common.{◌≡◌, ◌∙◌, ap, length}
use Rattle.cedar_format.specs.Tables.{table_bytes}
use Rattle.cedar_model.specs.Table.TableFields.{Fields}
use Rattle.cedar_table.specs.Table.Views.{fields}
use Rattle.cedarwood.specs.Dictionary.{Dictionary}
use Rattle.cedarwood.proofs.MemoryLemmas.{table_fits}
use Rattle.cedarwood.proofs.trie.Trie.saved_len.Goals as goal

pub returns : goal.returns
returns g c =
    let seen : fields c.self.inside.table ≡ c.args.self.now.table = ap (λ (d : Dictionary). d.table) c.self.view_is in
    c.table_len.ensures ∙ ap (λ (T : Fields). length (table_bytes 1 T)) seen

pub table_len-requires : goal.table_len-requires
table_len-requires g c = search table_fits
