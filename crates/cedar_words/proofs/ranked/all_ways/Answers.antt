use Rattle.std.proofs.Common.{◌≡◌, ◌∙◌, ◌+◌, ◌-◌, ◌<◌, ◌++◌, ◌∷◌, [], List, ap, arith, drop, length, subst, sym}
use Rattle.std.proofs.lemmas.List.{length_push}
use Rattle.cedarwood.specs.Queries.{front}
use Rattle.cedar_words.specs.Ranked.{AreWays, best_ways, lists_of}
use Rattle.cedar_words.specs.declared.ranked.Way.{Way}
use Rattle.cedar_words.proofs.TableLemmas.{lists_length, lists_push, ways_begin, ways_more}
use Rattle.cedar_words.proofs.ranked.all_ways.Goals as goal

pub loop-left-init : goal.loop-left-init
loop-left-init g c =
    let t = g.T.Fronts.fronts_of c.args.trie.now in
    let text = c.args.text.now in
    let key = g.M.CostModel.key_cost c.args.model.now in
    let run = g.M.CostModel.unknown_at c.args.model.now text in
    let none = c.in_ok-table.ensures.items in
    let pushed = c.in_ok-push.ensures.items ∙ ap (λ vs. vs ++ c.in_ok-end_ways.field-0 ∷ []) none in (
      ap length pushed,
      subst (λ vs. AreWays c.args.most t key run text (lists_of vs)) (sym pushed) (ways_begin c.args.most t key run text c.in_ok-end_ways.field-0.items c.in_ok-end_ways.ensures),
    )

pub loop-left-preserved : goal.loop-left-preserved
loop-left-preserved g c =
    let t = g.T.Fronts.fronts_of c.args.trie.now in
    let text = c.args.text.now in
    let most = c.args.most in
    let key = g.M.CostModel.key_cost c.args.model.now in
    let run = g.M.CostModel.unknown_at c.args.model.now text in
    let table = c.loop-left.table.items in
    let left = c.loop-left.left in
    let place = length text - left in
    let ways = c.in_ok-ways.ways in
    let many : length table ≡ left = c.loop-left.invariant.0 in
    let some : 0 < left = omega arith in
    let is = c.in_ok-ways.ensures ∙ ap (λ vs. best_ways most key (lists_of vs) (run place) (front t (drop place text))) c.deref.ensures.value in
    let more = ways_more most t key run text (lists_of table) ways.items left some (lists_length table ∙ many) is c.loop-left.invariant.1 in
    let pushed = c.in_ok-push-2.ensures.items in (
      ap length pushed ∙ length_push table ways ∙ ap (λ n. n + 1) many,
      subst (λ (l : List (List Way)). AreWays most t key run text l) (sym (ap lists_of pushed ∙ lists_push table ways)) more,
    )
