use Rattle.std.proofs.Common.{◌∙◌, subst, sym}
use Rattle.cedar_words.specs.Ranked.{WaysGoOn, lists_of}
use Rattle.cedar_words.proofs.TableLemmas.{cuts_found, lists_length, ways_closed}
use Rattle.cedar_words.proofs.ranked.ranked_cuts.Goals as goal

pub tokens_of_all-requires-clause-closed : goal.tokens_of_all-requires-clause-closed
tokens_of_all-requires-clause-closed g c =
    let text = c.args.text.now in
    let table = c.in_ok-table.table.items in
    let t = g.T.Fronts.fronts_of c.args.trie.now in
    let key = g.M.CostModel.key_cost c.args.model.now in
    let run = g.M.CostModel.unknown_at c.args.model.now text in
    subst (λ vs. WaysGoOn (lists_of vs)) (sym c.deref.ensures.value)
    (ways_closed c.args.most t key run text (lists_of table) c.in_ok-table.ensures.ways (lists_length table ∙ c.in_ok-table.ensures.len))

pub returns : goal.returns
returns g c =
    let text = c.args.text.now in
    cuts_found c.args.most (g.T.Fronts.fronts_of c.args.trie.now) (g.M.CostModel.key_cost c.args.model.now) (g.M.CostModel.unknown_at c.args.model.now text) text c.deref.result.now c.in_ok-table.table.items c.tokens_of_all.result c.deref.ensures.value c.in_ok-table.ensures.len c.in_ok-table.ensures.ways c.tokens_of_all.ensures
