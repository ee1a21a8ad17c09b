use Rattle.std.proofs.Common.{rules, ◌∙◌, ◌+◌, ◌-◌, ◌<◌, ◌∷◌, ◌^◌, ℤ, FitsSigned, ap, arith, drop, length, subst, sym, w32}
use Rattle.std.proofs.lemmas.Int.{to_z-of_z}
use Rattle.std.proofs.lemmas.List.{length-drop}
use Rattle.cedarwood.specs.Queries.{front}
use Rattle.cedar_words.specs.Spots.{spots_left}
use Rattle.cedar_words.specs.Steps.{AreWithin}
use Rattle.cedar_words.proofs.SpotLemmas.{left_end, left_next, rest_of}
use Rattle.cedar_words.proofs.StepLemmas.{fronts_within}
use Rattle.cedar_words.proofs.spots.next_match.Goals as goal

pub overflow_add-result : goal.overflow_add-result
overflow_add-result g c =
    let within = subst (λ fronts. AreWithin (length c.args.text.now - c.loop-place.place) fronts) c.in-Some.ensures c.loop-place.invariant.2 in
    let first : c.in-Some.others < length c.args.text.now - c.loop-place.place = within.0 in
    let short : length c.args.text.now < 2 ^ 64 = search rules in
    omega (arith, first, short)

pub returns-in-Some-clause-gives : goal.returns-in-Some-clause-gives
returns-in-Some-clause-gives g c =
    let t = g.T.Fronts.fronts_of c.args.trie.now in
    let text = c.args.text.now in
    let place = c.loop-place.place in
    let fits : FitsSigned w32 c.in-Some.value = search rules in
    sym c.loop-place.invariant.0 ∙ ap (λ fronts. spots_left t text place fronts) c.in-Some.ensures
    ∙ ap (λ (v : ℤ). (place, c.in-Some.others + 1, v) ∷ spots_left t text place c.next_front.new.self.rest) (sym (to_z-of_z w32 c.in-Some.value fits))

pub returns-in-Some-clause-place : goal.returns-in-Some-clause-place
returns-in-Some-clause-place g c = c.loop-place.invariant.1

pub returns-in-Some-clause-within : goal.returns-in-Some-clause-within
returns-in-Some-clause-within g c = (subst (λ fronts. AreWithin (length c.args.text.now - c.loop-place.place) fronts) c.in-Some.ensures c.loop-place.invariant.2).1

pub loop-place-preserved : goal.loop-place-preserved
loop-place-preserved g c =
    let t = g.T.Fronts.fronts_of c.args.trie.now in
    let text = c.args.text.now in
    let place = c.loop-place.place in
    let is = c.fronts.ensures ∙ ap (front t) (rest_of text (place + 1)) in
    let left = length-drop (place + 1) text in (
      ap (λ fronts. spots_left t text (place + 1) fronts) is ∙ sym (left_next t text place) ∙ ap (λ fronts. spots_left t text place fronts) (sym c.in_default.ensures) ∙ c.loop-place.invariant.0,
      omega arith,
      subst (λ fronts. AreWithin (length text - (place + 1)) fronts) (sym is) (subst (λ n. AreWithin n (front t (drop (place + 1) text))) left (fronts_within t (drop (place + 1) text))),
    )

pub returns-clause-gives : goal.returns-clause-gives
returns-clause-gives g c =
    let t = g.T.Fronts.fronts_of c.args.trie.now in
    let gone = left_end t c.args.text.now c.loop-place.place c.loop-place.walk.rest (omega arith) c.loop-place.invariant.2 in
    (sym c.loop-place.invariant.0 ∙ gone, gone)
