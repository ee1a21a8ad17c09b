use Rattle.std.proofs.Common.{subst, sym}
use Rattle.cedar_replies.specs.declared.question.Figure.{Figure}
use Rattle.cedar_replies.specs.Replies.{IsFigure}
use Rattle.cedar_replies.proofs.reply.figure_of.Goals as goal

pub returns-in-UsedSlots : goal.returns-in-UsedSlots
returns-in-UsedSlots g c =
    subst (λ (which : Figure). IsFigure g.L.Layout.kind c.args.trie.now which c.used_node_slots.result) (sym c.in-UsedSlots.is)
    (c.used_node_slots.ensures.marked, c.used_node_slots.ensures.by_default)
