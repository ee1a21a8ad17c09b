use Rattle.std.proofs.Common.{◌≡◌, ◌∙◌, ◌-◌, ◌++◌, List, ap, arith, drop, length, subst, sym, take}
use Rattle.std.proofs.lemmas.List.{length-drop, take_all}
use Rattle.cedarwood.specs.Queries.{front}
use Rattle.cedar_words.specs.Lattice.{own_run}
use Rattle.cedar_words.specs.Ranked.{best_ways, key_ways, lists_of, put_ways, run_ways}
use Rattle.cedar_words.specs.Steps.{AreWithin}
use Rattle.cedar_words.specs.declared.models.UnknownRun.{UnknownRun}
use Rattle.cedar_words.specs.declared.ranked.Way.{Way}
use Rattle.cedar_words.proofs.StepLemmas.{fronts_within}
use Rattle.cedar_words.proofs.ranked.ways_from.Goals as goal

pub put_all-requires-clause-within : goal.put_all-requires-clause-within
put_all-requires-clause-within g c =
    let t = g.T.Fronts.fronts_of c.args.trie.now in
    let text = c.args.text.now in
    let place = c.args.place in
    let left = length-drop place text in
    let all : take (length text - place) (drop place text) ≡ drop place text = take_all (length text - place) (drop place text) (omega (arith, left)) in
    let many : length (drop place text) ≡ length c.args.later.now = left ∙ sym c.requires.later in
    subst (λ fronts. AreWithin (length c.args.later.now) fronts) (sym (c.fronts.ensures ∙ ap (front t) all)) (subst (λ n. AreWithin n (front t (drop place text))) many (fronts_within t (drop place text)))

pub returns : goal.returns
returns g c =
    let t = g.T.Fronts.fronts_of c.args.trie.now in
    let text = c.args.text.now in
    let place = c.args.place in
    let most = c.args.most in
    let key = g.M.CostModel.key_cost c.args.model.now in
    let later = lists_of c.args.later.now in
    let run = c.unknown-run.result in
    let left = length-drop place text in
    let all : take (length text - place) (drop place text) ≡ drop place text = take_all (length text - place) (drop place text) (omega (arith, left)) in
    let found = c.fronts.result.rest in
    c.in_ok-put_all.ensures
    ∙ ap (λ (ws : List Way). put_ways most ws (key_ways key later found ++ run_ways later (own_run run found))) c.new-ways.ensures.items
    ∙ ap (best_ways most key later run) (c.fronts.ensures ∙ ap (front t) all)
    ∙ ap (λ (r : UnknownRun). best_ways most key later r (front t (drop place text))) c.unknown-run.ensures
