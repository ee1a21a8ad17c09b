use Rattle.std.proofs.Common.{subst, sym}
use Rattle.cedar_words.specs.Steps.{AreCosts, AreMarks}
use Rattle.cedar_words.proofs.CutLemmas.{found_by}
use Rattle.cedar_words.proofs.costs.cut_by.Goals as goal

pub tokens_along-requires : goal.tokens_along-requires
tokens_along-requires g c =
    let t = g.T.FirstStep.tree c.args.trie.now in
    let text = c.args.text.now in
    let u = g.P.BytePrice.price_at c.args.unknown.now text in
    record {
      costs = subst (λ l. AreCosts t u text l) (sym c.deref.ensures.value) c.in_ok-known.ensures.costs;
      marks = subst (λ l. AreMarks t u text l c.deref-2.result.now) (sym c.deref.ensures.value) (subst (λ l. AreMarks t u text c.in_ok-known.known.costs.items l) (sym c.deref-2.ensures.value) c.in_ok-known.ensures.marks);
    }

pub returns : goal.returns
returns g c =
    let text = c.args.text.now in
    found_by (g.T.FirstStep.tree c.args.trie.now) (g.P.BytePrice.price_at c.args.unknown.now text) text c.deref.result.now c.in_ok-known.known.costs.items c.tokens_along.result c.deref.ensures.value c.in_ok-known.ensures.costs c.tokens_along.ensures
