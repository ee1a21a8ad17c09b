use Rattle.std.proofs.Common.{rules, ◌≡◌, Some, ap, subst, sym}
use Rattle.cedarwood.specs.Tree.{Tree}
use Rattle.cedar_words.specs.Runs.{cost_in_table}
use Rattle.cedar_c.specs.BestCuts.{kind_run, LacksRoomForBestCut, WritesBestCut}
use Rattle.cedar_c.specs.Content.{content_tree}
use Rattle.cedar_c.specs.Readings.{shown_in}
use Rattle.cedar_c.proofs.models.cedar_cheapest_by.Goals as goal

pub returns-clause-cut : goal.returns-clause-cut
returns-clause-cut c =
    let shown : shown_in c.args.handle.now ≡ Some c.dictionary.result.now = search rules in
    let runs = kind_run c.args.kinds.now c.args.beside_keys c.args.most c.args.unknown c.args.text.now in
    let told = c.write_cheapest_by.new in
    λ ok. subst (λ (t : Tree). WritesBestCut t (cost_in_table c.args.costs.now c.args.beyond) runs c.args.text.now c.args.found.now told.found told.needed) (sym (ap content_tree shown))
    (c.write_cheapest_by.ensures.cut ok)

pub returns-clause-room : goal.returns-clause-room
returns-clause-room c =
    let shown : shown_in c.args.handle.now ≡ Some c.dictionary.result.now = search rules in
    let runs = kind_run c.args.kinds.now c.args.beside_keys c.args.most c.args.unknown c.args.text.now in
    λ lacks. subst (λ (t : Tree). LacksRoomForBestCut t (cost_in_table c.args.costs.now c.args.beyond) runs c.args.text.now c.args.found.now c.write_cheapest_by.new.needed)
    (sym (ap content_tree shown)) (c.write_cheapest_by.ensures.room lacks)
