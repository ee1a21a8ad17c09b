use Rattle.std.proofs.Common.{◌∙◌, arith}
use Rattle.plain_tree.proofs.ChildrenLemmas.{is_bare_seen}
use Rattle.plain_tree.proofs.node.Node.is_bare.Goals as goal

pub returns-then-is_none : goal.returns-then-is_none
returns-then-is_none g c =
    c.is_empty.ensures
    ∙ is_bare_seen c.self.inside.label c.self.inside.number c.self.inside.children.items c.args.self.now c.self.view_is c.if-is_none.ensures c.self.inside.children.len (omega (arith, c.self.inside.children.ok.0))
