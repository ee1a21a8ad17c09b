use Rattle.std.proofs.Common.{ap}
use Rattle.cedar_words.specs.Ranked.{lists_of}
use Rattle.cedar_words.specs.Runs.{cost_in_table}
use Rattle.cedar_replies.specs.Texts.{run_in_table}
use Rattle.cedar_replies.proofs.FewCutsLemmas.{no_cuts}
use Rattle.cedar_replies.proofs.texts.best_cuts.Goals as goal

pub returns-then-most-eq0 : goal.returns-then-most-eq0
returns-then-most-eq0 g c =
    let m = c.args.model.now in
    no_cuts c.args.most c.args.trie.now.state.tree (cost_in_table m.costs.now m.beyond) (run_in_table m.runs.now m.beyond) c.args.text.now (lists_of c.new.result.items) c.if-most-eq0.true (ap lists_of c.new.ensures.items)
