use Rattle.std.proofs.Common.{ℕ, ◌∙◌, ap, nat_lt, length}
use Rattle.std.specs.Option.{unwrap_or}
use Rattle.cedar_tree.specs.Tree.{Tree}
use Rattle.plain_tree.proofs.ChildrenLemmas.{position-or_length}
use Rattle.plain_tree.proofs.node.place.Goals as goal

pub returns : goal.returns
returns g c =
    rw c.if-not-ordered.false (c.unwrap_or.ensures ∙ ap (λ (o : _). unwrap_or o (length c.args.children.now)) c.first_above.ensures
    ∙ position-or_length (λ (child : ℕ × Tree). nat_lt c.args.label child.0) c.args.children.now)
