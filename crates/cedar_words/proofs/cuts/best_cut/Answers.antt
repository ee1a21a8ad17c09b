use Rattle.std.proofs.Common.{subst, sym}
use Rattle.cedar_words.specs.ModelSteps.{AreCostsBy, AreKeptBy}
use Rattle.cedar_words.proofs.ModelCutLemmas.{best_found}
use Rattle.cedar_words.proofs.cuts.best_cut.Goals as goal

pub best_tokens-requires : goal.best_tokens-requires
best_tokens-requires g c =
    let t = g.T.Fronts.fronts_of c.args.trie.now in
    let text = c.args.text.now in
    let key = g.M.CostModel.key_cost c.args.model.now in
    let run = g.M.CostModel.unknown_at c.args.model.now text in
    record {
      costs = subst (λ l. AreCostsBy t key run text l) (sym c.deref.ensures.value) c.in_ok-ends.ensures.costs;
      kept = subst (λ l. AreKeptBy t key run text l c.deref-2.result.now) (sym c.deref.ensures.value) (subst (λ l. AreKeptBy t key run text c.in_ok-ends.ends.costs.items l) (sym c.deref-2.ensures.value) c.in_ok-ends.ensures.kept);
    }

pub returns : goal.returns
returns g c =
    let text = c.args.text.now in
    best_found (g.T.Fronts.fronts_of c.args.trie.now) (g.M.CostModel.key_cost c.args.model.now) (g.M.CostModel.unknown_at c.args.model.now text) text c.deref.result.now c.in_ok-ends.ends.costs.items c.best_tokens.result c.deref.ensures.value c.in_ok-ends.ensures.costs c.best_tokens.ensures
