use Rattle.std.proofs.lemmas.Result.{err_from_is_err_and}
use Rattle.cedar_words.specs.Models.{IsBestCut}
use Rattle.cedar_words.specs.Runs.{cost_in_table}
use Rattle.cedar_replies.specs.Texts.{run_in_table}
use Rattle.cedar_replies.proofs.CollectLemmas.{no_text, refused, some_text}
use Rattle.cedar_replies.proofs.EmptyTextLemmas.{no_best_cut}
use Rattle.cedar_replies.proofs.texts.best_cut.Goals as goal

pub returns-then-is_empty : goal.returns-then-is_empty
returns-then-is_empty g c =
    let empty = no_text c.args.text.now c.is_empty.result c.is_empty.ensures c.if-is_empty.true in
    no_best_cut c.args.trie.now.state.tree (cost_in_table c.args.model.now.costs.now c.args.model.now.beyond) (run_in_table c.args.model.now.runs.now c.args.model.now.beyond) c.args.text.now c.new.result.items empty c.new.ensures.items

pub returns-in_err-cheapest_by : goal.returns-in_err-cheapest_by
returns-in_err-cheapest_by g c =
    let p = err_from_is_err_and c.from_residual.result c.from_residual.ensures.1 in
    let some = some_text c.args.text.now c.is_empty.result c.is_empty.ensures c.if-is_empty.false in
    refused c.from_residual.result p.0 (λ found. IsBestCut c.args.trie.now.state.tree (cost_in_table c.args.model.now.costs.now c.args.model.now.beyond) (run_in_table c.args.model.now.runs.now c.args.model.now.beyond) c.args.text.now found.items) c.args.text.now p.1 p.2 some
