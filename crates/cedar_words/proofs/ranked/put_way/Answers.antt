use Rattle.std.proofs.Common.{◌≡◌, ◌∙◌, ◌++◌, ◌∷◌, List, ap, drop, subst, sym, take}
use Rattle.cedar_words.specs.Ranked.{insert_way}
use Rattle.cedar_words.specs.declared.ranked.Way.{Way}
use Rattle.cedar_words.proofs.ranked.put_way.Goals as goal

pub returns : goal.returns
returns g c =
    let way = c.args.way in
    let at = c.index_of-index.result in
    let splits = subst (λ (ws : List Way). insert_way way ws ≡ take at ws ++ way ∷ drop at ws) c.deref.ensures.value c.index_of-index.ensures.splits in
    c.truncate.ensures.items ∙ ap (take c.args.most) (c.in_ok-insert.ensures.items ∙ sym splits)
