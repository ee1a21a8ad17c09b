use Rattle.std.proofs.Common.{◌∙◌, ◌-◌, ap, arith, drop, length, subst, sym}
use Rattle.std.proofs.lemmas.List.{length-drop}
use Rattle.cedarwood.specs.Queries.{front}
use Rattle.cedar_words.specs.Spots.{spots_left}
use Rattle.cedar_words.specs.Steps.{AreWithin}
use Rattle.cedar_words.proofs.SpotLemmas.{from_left, rest_of, spots_within}
use Rattle.cedar_words.proofs.StepLemmas.{fronts_within}
use Rattle.cedar_words.proofs.spots.matches_from.Goals as goal

pub invariant_of-result : goal.invariant_of-result
invariant_of-result g c =
    let t = c.args.trie.now.state.tree in
    let text = c.args.text.now in
    let start = c.min-start.result in
    let low = c.min-start.ensures in
    let is = c.common_prefix_iter_bytes.ensures.rest ∙ ap (front t) (rest_of text start) in (
      omega (arith, low),
      subst (λ fronts. AreWithin (length text - start) fronts) (sym is) (subst (λ n. AreWithin n (front t (drop start text))) (length-drop start text) (fronts_within t (drop start text))),
    )

pub returns : goal.returns
returns g c =
    let t = c.args.trie.now.state.tree in
    let text = c.args.text.now in
    let start = c.min-start.result in
    let is = c.common_prefix_iter_bytes.ensures.rest ∙ ap (front t) (rest_of text start) in
    ap (λ fronts. spots_left t text start fronts) is ∙ sym (from_left t text start) ∙ spots_within t text c.args.place start c.min-start.ensures
