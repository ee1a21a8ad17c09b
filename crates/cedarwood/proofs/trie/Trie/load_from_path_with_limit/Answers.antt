use Rattle.cedar_format.specs.declared.error.CedarPersistenceError.TheVariants.{Io}
use Rattle.cedarwood.proofs.LoadLemmas.{loads_from, opened_formed, opened_lacks, unopened}
use Rattle.cedarwood.proofs.trie.Trie.load_from_path_with_limit.Goals as goal

pub returns-clause-formed : goal.returns-clause-formed
returns-clause-formed g c = opened_formed g.L.Layout.kind g.row.SLOTS c.args.memory_limit _ c.load_opened.result c.load_opened.ensures.loads

pub returns-clause-lacks : goal.returns-clause-lacks
returns-clause-lacks g c = opened_lacks g.L.Layout.kind g.row.SLOTS c.args.memory_limit _ c.load_opened.result c.load_opened.ensures.loads

pub returns-clause-loads : goal.returns-clause-loads
returns-clause-loads g c =
    loads_from g.L.Layout.kind g.row.SLOTS c.args.memory_limit g.F.File.Read.remaining c.args.path.now c.in_ok-opened.opened c.into_file.result c.load_opened.result
    c.in_ok-opened.ensures.noted c.into_file.ensures c.load_opened.ensures.loads

pub returns-in_err-opened-clause-loads : goal.returns-in_err-opened-clause-loads
returns-in_err-opened-clause-loads g c =
    unopened g.L.Layout.kind g.row.SLOTS c.args.memory_limit g.F.File.Read.remaining c.args.path.now c.from_residual.result (Io c.in_err-opened.field-0.0) c.from_residual.ensures.1 tt
