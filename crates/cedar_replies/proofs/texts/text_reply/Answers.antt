use Rattle.std.proofs.Common.{subst, sym}
use Rattle.cedar_replies.specs.declared.answer.TextReply.TheVariants as answer
use Rattle.cedar_replies.specs.Replies.{CollectsAll, IsTextReply}
use Rattle.cedar_replies.proofs.texts.text_reply.Goals as goal

pub returns-in-Fronts : goal.returns-in-Fronts
returns-in-Fronts g c =
    let reply = answer.Fronts c.collect_fronts.result in
    subst (λ query. IsTextReply {A = g.row.A.Denot} c.args.trie.now.state.tree c.args.text.now query reply) (sym c.in-Fronts.is)
    (subst (λ items. CollectsAll c.collect_fronts.result items) c.fronts.ensures c.collect_fronts.ensures)

pub returns-in-Segment : goal.returns-in-Segment
returns-in-Segment g c =
    let reply = answer.Tokens c.collect_tokens.result in
    subst (λ query. IsTextReply {A = g.row.A.Denot} c.args.trie.now.state.tree c.args.text.now query reply) (sym c.in-Segment.is)
    (subst (λ items. CollectsAll c.collect_tokens.result items) c.segment.ensures c.collect_tokens.ensures)

pub returns-in-SegmentFrom : goal.returns-in-SegmentFrom
returns-in-SegmentFrom g c =
    let reply = answer.Tokens c.collect_tokens-in-SegmentFrom.result in
    subst (λ query. IsTextReply {A = g.row.A.Denot} c.args.trie.now.state.tree c.args.text.now query reply) (sym c.in-SegmentFrom.is)
    (subst (λ items. CollectsAll c.collect_tokens-in-SegmentFrom.result items) c.segment_from.ensures c.collect_tokens-in-SegmentFrom.ensures)

pub returns-in-LeftmostLongest : goal.returns-in-LeftmostLongest
returns-in-LeftmostLongest g c =
    let reply = answer.Keys c.collect_keywords.result in
    subst (λ query. IsTextReply {A = g.row.A.Denot} c.args.trie.now.state.tree c.args.text.now query reply) (sym c.in-LeftmostLongest.is)
    (subst (λ items. CollectsAll c.collect_keywords.result items) c.leftmost_longest.ensures c.collect_keywords.ensures)

pub returns-in-LeftmostLongestFrom : goal.returns-in-LeftmostLongestFrom
returns-in-LeftmostLongestFrom g c =
    let reply = answer.Keys c.collect_keywords-in-LeftmostLongestFrom.result in
    subst (λ query. IsTextReply {A = g.row.A.Denot} c.args.trie.now.state.tree c.args.text.now query reply) (sym c.in-LeftmostLongestFrom.is)
    (subst (λ items. CollectsAll c.collect_keywords-in-LeftmostLongestFrom.result items) c.leftmost_longest_from-words.ensures c.collect_keywords-in-LeftmostLongestFrom.ensures)

pub returns-in-Matches : goal.returns-in-Matches
returns-in-Matches g c =
    let reply = answer.Keys c.collect_matches.result in
    subst (λ query. IsTextReply {A = g.row.A.Denot} c.args.trie.now.state.tree c.args.text.now query reply) (sym c.in-Matches.is)
    (subst (λ items. CollectsAll c.collect_matches.result items) c.matches.ensures c.collect_matches.ensures)

pub returns-in-MatchesFrom : goal.returns-in-MatchesFrom
returns-in-MatchesFrom g c =
    let reply = answer.Keys c.collect_matches-in-MatchesFrom.result in
    subst (λ query. IsTextReply {A = g.row.A.Denot} c.args.trie.now.state.tree c.args.text.now query reply) (sym c.in-MatchesFrom.is)
    (subst (λ items. CollectsAll c.collect_matches-in-MatchesFrom.result items) c.matches_from.ensures c.collect_matches-in-MatchesFrom.ensures)

pub returns-in-CheapestCuts : goal.returns-in-CheapestCuts
returns-in-CheapestCuts g c =
    let reply = answer.Cuts c.best_cuts.result in
    subst (λ query. IsTextReply {A = g.row.A.Denot} c.args.trie.now.state.tree c.args.text.now query reply) (sym c.in-CheapestCuts.is) c.best_cuts.ensures
