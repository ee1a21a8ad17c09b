use Rattle.std.proofs.Common.{◌≡◌, refl, ap, subst, sym}
use Rattle.std.specs.Io.Buffered.{writer_contents, writer_inner}
use Rattle.cedar_table.specs.Table.Views.{fields}
use Rattle.cedar_format.specs.Words.{device_of}
use Rattle.cedarwood.specs.Words.{Appends, table_bytes}
use Rattle.cedarwood.proofs.SaveLemmas.{file_passes, is_file, written_through}
use Rattle.cedarwood.proofs.MemoryLemmas.{table_fits}
use Rattle.cedarwood.proofs.trie.Trie.write_buffered.Goals as goal

pub returns-clause-file : goal.returns-clause-file
returns-clause-file g c =
    let seen : fields c.self.inside.table ≡ c.args.self.now.table = ap (λ d. d.table) c.self.view_is in
    is_file c.args.minor g.row.SLOTS (fields c.self.inside.table) c.args.self.now.table c.requires.version seen c.self.invariant c.in_default.ensures.fits

pub returns-clause-passes : goal.returns-clause-passes
returns-clause-passes g c =
    let seen : fields c.self.inside.table ≡ c.args.self.now.table = ap (λ d. d.table) c.self.view_is in
    file_passes c.args.minor g.L.Layout.kind g.row.SLOTS (fields c.self.inside.table) c.args.self.now.table c.requires.version seen refl c.self.invariant c.in_default.ensures.fits

pub returns-clause-bytes : goal.returns-clause-bytes
returns-clause-bytes g c =
    let seen : fields c.self.inside.table ≡ c.args.self.now.table = ap (λ d. d.table) c.self.view_is in
    let contents = g.W.Write.contents in
    let made = c.args.writer in
    let filled = c.into_inner-buffered.result in
    let grown : Appends (writer_contents contents made) (writer_contents contents filled) (table_bytes c.args.minor c.args.self.now.table) =
    subst (λ T. Appends (writer_contents contents made) (writer_contents contents filled) (table_bytes c.args.minor T)) seen
    (subst (λ w. Appends (writer_contents contents w) (writer_contents contents filled) (table_bytes c.args.minor (fields c.self.inside.table))) c.new-watched.ensures.device
    (subst (λ w. Appends (writer_contents contents (device_of c.new-watched.result)) (writer_contents contents w) (table_bytes c.args.minor (fields c.self.inside.table))) (sym c.into_inner-buffered.ensures) c.in_default.ensures.bytes)) in
    written_through contents (table_bytes c.args.minor c.args.self.now.table) (writer_inner made) c.into_parts-written.result.0 made filled c.flush.new.self refl c.requires.buffer grown c.in_default-flush.ensures.bytes
    c.in_default-flush.ensures.ok c.into_parts-written.ensures.inner

pub write_table-requires : goal.write_table-requires
write_table-requires g c = search table_fits
