use Rattle.std.proofs.Common.{sym, subst}
use Rattle.cedar_replies.specs.declared.answer.Reply.TheVariants as answer
use Rattle.cedar_replies.specs.Replies.{IsReply}
use Rattle.cedar_replies.proofs.reply.reply_to.Goals as goal

pub returns-in-Stats : goal.returns-in-Stats
returns-in-Stats g c =
    let e = c.memory_stats.ensures in
    subst (λ question. IsReply {A = g.row.A.Denot} g.L.Layout.kind g.row.SLOTS c.args.trie.now question (answer.Stats c.memory_stats.result)) (sym c.in-Stats.is)
    (record { entries = e.entries; used = (e.used, e.used_by_default); capacity = e.capacity; bytes = e.bytes })
