use Rattle.std.proofs.Common.{subst, sym}
use Rattle.cedar_replies.specs.declared.answer.CompletionReply.TheVariants as answer
use Rattle.cedar_replies.specs.Replies.{IsCompletionReply}
use Rattle.cedar_replies.proofs.completions.completion_reply.Goals as goal

pub returns-in-Near : goal.returns-in-Near
returns-in-Near g c =
    subst (λ query. IsCompletionReply {A = g.row.A.Denot} c.args.trie.now.state query (answer.Wanted c.near.result)) (sym c.in-Near.is) c.near.ensures
