use Rattle.std.proofs.lemmas.Grind.{common_steps}
use Rattle.std.proofs.Common.{◌≡◌, ◌∙◌, ◌+◌, ◌-◌, ◌<◌, ◌≤◌, ap, arith, drop, length, sym, take}
use Rattle.std.proofs.lemmas.List.{length-drop, take_all}
use Rattle.cedarwood.specs.Queries.{front}
use Rattle.cedar_words.proofs.LatticeLemmas.{edges_new, edges_passed, stop_new}
use Rattle.cedar_words.proofs.edges.next_edge.Goals as goal

pub loop-stop-preserved : goal.loop-stop-preserved
loop-stop-preserved g c =
    let t = g.T.Fronts.fronts_of c.args.trie.now in
    let key = g.M.CostModel.key_cost c.args.model.now in
    let text = c.args.text.now in
    let run = g.M.CostModel.unknown_at c.args.model.now text in
    let stop = c.loop-stop.stop in
    let place = stop.place + 1 in
    let here : stop.place < length text = c.loop-stop-test.true in
    let within : place ≤ length text = omega (arith, here) in
    let left = length-drop place text in
    let all : take (length text - place) (drop place text) ≡ drop place text = take_all (length text - place) (drop place text) (omega (arith, left)) in
    let is = c.fronts.ensures ∙ ap (front t) all in
    let told = c.stop_at.ensures in (
      edges_new t key run text place c.stop_at.result _ _ told.place told.keys told.run is ∙ sym (edges_passed t key run text stop _ c.in_default.is c.in_default-run.is) ∙ c.loop-stop.invariant.0,
      stop_new t run text place c.stop_at.result _ _ within told.place told.keys told.run is,
    )

pub returns : goal.returns
returns g c = grind (arith, common_steps)
