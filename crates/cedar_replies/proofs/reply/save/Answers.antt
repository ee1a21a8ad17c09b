use Rattle.std.proofs.Common.{rules}
use Rattle.cedarwood.specs.Tables.{IsTableFile}
use Rattle.cedar_replies.proofs.reply.save.Goals as goal
use Rattle.cedar_replies.proofs.reply.save.Goals.{then-in_1_0, else-in_1_0}

pub returns-in-Ok : goal.returns-in-Ok
returns-in-Ok g c = elim c.if-in_1_0.branch [
  | then-in_1_0 w ↦
      let file : IsTableFile 0 g.row.SLOTS c.args.trie.now.table c.into_inner.result.items = search rules in
      rw w.if-in_1_0.true file
  | else-in_1_0 w ↦
      let file : IsTableFile 1 g.row.SLOTS c.args.trie.now.table c.into_inner.result.items = search rules in
      rw w.if-in_1_0.false file
]
