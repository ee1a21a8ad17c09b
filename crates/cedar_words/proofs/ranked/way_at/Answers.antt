use Rattle.std.proofs.lemmas.Grind.{common_steps}
use Rattle.std.proofs.Common.{◌∙◌, ◌<◌, List, ap, length, subst, sym, arith}
use Rattle.cedar_words.specs.declared.ranked.Way.{Way}
use Rattle.cedar_words.proofs.TableLemmas.{list_at}
use Rattle.cedar_words.proofs.ranked.way_at.Goals as goal

pub bounds-ways-rank : goal.bounds-ways-rank
bounds-ways-rank g c =
    let here = list_at c.args.table.now c.args.left c.index-table-left.result c.requires.low ∙ sym (ap (λ v. v.items) c.index-table-left.is) ∙ sym c.deref-ways.ensures.value in
    subst (λ (ws : List Way). c.args.rank < length ws) here c.requires.rank

pub returns : goal.returns
returns g c = grind (arith, common_steps)

pub offset_bounds-ways-rank : goal.offset_bounds-ways-rank
offset_bounds-ways-rank g c = grind (arith, common_steps)
