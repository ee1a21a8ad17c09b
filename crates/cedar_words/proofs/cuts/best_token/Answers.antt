use Rattle.std.proofs.Common.{◌∙◌, ◌-◌, ◌<◌, ◌≤◌, length, subst, sym}
use Rattle.cedar_words.proofs.KeptLemmas.{told_here}
use Rattle.cedar_words.proofs.ModelCutLemmas.{step_here}
use Rattle.cedar_words.proofs.cuts.best_token.Goals as goal

pub returns-then-len-gt0-clause-within : goal.returns-then-len-gt0-clause-within
returns-then-len-gt0-clause-within g c =
    let t = g.T.Fronts.fronts_of c.args.trie.now in
    let text = c.args.text.now in
    let key = g.M.CostModel.key_cost c.args.model.now in
    let run = g.M.CostModel.unknown_at c.args.model.now text in
    let costs = c.args.costs.now in
    let some = subst (λ n. 0 < n) c.from-len.ensures c.if-len-gt0.true in
    let here = told_here t key run text costs c.args.kept.now c.args.place c.kept_at-told.result c.requires.some c.requires.kept c.kept_at-told.ensures some in
    subst (λ n. n ≤ length text - c.args.place) (sym (c.from-len.ensures ∙ here.0)) (step_here t key run text costs c.args.place c.requires.some c.requires.costs).within

pub returns-then-len-gt0-clause-len : goal.returns-then-len-gt0-clause-len
returns-then-len-gt0-clause-len g c =
    let t = g.T.Fronts.fronts_of c.args.trie.now in
    let text = c.args.text.now in
    let key = g.M.CostModel.key_cost c.args.model.now in
    let run = g.M.CostModel.unknown_at c.args.model.now text in
    let costs = c.args.costs.now in
    let some = subst (λ n. 0 < n) c.from-len.ensures c.if-len-gt0.true in
    let here = told_here t key run text costs c.args.kept.now c.args.place c.kept_at-told.result c.requires.some c.requires.kept c.kept_at-told.ensures some in
    c.from-len.ensures ∙ here.0

pub returns-then-len-gt0-clause-value : goal.returns-then-len-gt0-clause-value
returns-then-len-gt0-clause-value g c =
    let t = g.T.Fronts.fronts_of c.args.trie.now in
    let text = c.args.text.now in
    let key = g.M.CostModel.key_cost c.args.model.now in
    let run = g.M.CostModel.unknown_at c.args.model.now text in
    let costs = c.args.costs.now in
    let some = subst (λ n. 0 < n) c.from-len.ensures c.if-len-gt0.true in
    let here = told_here t key run text costs c.args.kept.now c.args.place c.kept_at-told.result c.requires.some c.requires.kept c.kept_at-told.ensures some in
    c.kept_value.ensures ∙ here.1
