use Rattle.std.proofs.Common.{◌∙◌, IfErr, subst}
use Rattle.cedar_cli.specs.Loads.{LacksWithin}
use Rattle.cedar_cli.specs.Options.{request_in}
use Rattle.cedar_cli.specs.Words.{layout_byte}
use Rattle.cedar_cli.proofs.Begun.{asks_load, begins_loaded, begins_new}
use Rattle.cedar_cli.proofs.program.first_trie.Goals as goal

pub returns-in-Some-clause-begun : goal.returns-in-Some-clause-begun
returns-in-Some-clause-begun g c = begins_loaded g.L.Layout.kind c.args.options c.in-Some.path c.load.result c.in-Some.is

pub returns-in-Ok-clause-begun : goal.returns-in-Ok-clause-begun
returns-in-Ok-clause-begun g c = begins_new g.L.Layout.kind c.args.options c.in-Ok.trie c.in-None.is c.in-Ok.ensures.made.tree c.in-Ok.ensures.made.unmarked (c.in-Ok.ensures.made.ordered ∙ c.ordered-builder.ensures.ordered)

pub returns-in-Some-clause-ends : goal.returns-in-Some-clause-ends
returns-in-Some-clause-ends g c = λ read written.
    c.load.ensures.ends (request_in c.args.options) read read written (asks_load c.args.options c.in-Some.path c.in-Some.is)

pub returns-in-Some-clause-lacks : goal.returns-in-Some-clause-lacks
returns-in-Some-clause-lacks g c =
    subst (λ limit. IfErr c.load.result (LacksWithin (layout_byte g.L.Layout.kind) g.row.SLOTS limit)) c.limit_or_default.ensures c.load.ensures.lacks
