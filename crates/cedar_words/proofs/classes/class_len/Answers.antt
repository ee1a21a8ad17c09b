use Rattle.std.proofs.Common.{rules, ◌≡◌, ◌∙◌, ◌+◌, ◌-◌, ◌<◌, false, ap, arith, drop, length, slice_index_or, subst, take}
use Rattle.std.proofs.lemmas.List.{drop-drop, length-drop, take_all}
use Rattle.cedar_words.specs.Runs.{class_rest, character_code, is_continuation}
use Rattle.cedar_words.proofs.classes.class_len.Goals as goal

pub loop-more-preserved : goal.loop-more-preserved
loop-more-preserved g c =
    let alike = g.C.CharacterClasses.alike c.args.classes.now in
    let text = c.args.text.now in
    let first = c.character_code-first.result in
    let end = c.loop-more.end in
    let left = length-drop end text in
    let all : take (length text - end) (drop end text) ≡ drop end text = take_all (length text - end) (drop end text) (omega (arith, left)) in
    let some : 0 < length (drop end text) = subst (λ bytes. 0 < length bytes) all c.in-Some.ensures.some in
    let goes = subst (λ bytes. class_rest alike first c.loop-more.left bytes ≡ 1 + class_rest alike first c.in-Some.more (drop 1 bytes)) all c.in-Some.ensures.goes ∙ ap (λ bytes. 1 + class_rest alike first c.in-Some.more bytes) (drop-drop 1 end text) in
    let was = c.loop-more.invariant.2 in
    let low = c.loop-more.invariant.0 in (
      omega (arith, low),
      omega (arith, some, left),
      omega (arith, was, goes, low),
    )

pub returns : goal.returns
returns g c =
    let alike = g.C.CharacterClasses.alike c.args.classes.now in
    let text = c.args.text.now in
    let place = c.args.place in
    let first = c.character_code-first.result in
    let end = c.loop-more.end in
    let left = length-drop end text in
    let behind = length-drop place text in
    let all : take (length text - end) (drop end text) ≡ drop end text = take_all (length text - end) (drop end text) (omega (arith, left)) in
    let whole : take (length text - place) (drop place text) ≡ drop place text = take_all (length text - place) (drop place text) (omega (arith, behind)) in
    let isnt : is_continuation (slice_index_or text place 0) ≡ false = search rules in
    let is : first ≡ character_code (drop place text) = c.character_code-first.ensures ∙ ap character_code whole in
    let none = subst (λ bytes. class_rest alike first c.loop-more.left bytes ≡ 0) all c.in_default.ensures.goes in
    let was = subst (λ code. class_rest alike code (c.args.most - 1) (drop (place + 1) text) ≡ end - (place + 1) + class_rest alike first c.loop-more.left (drop end text)) is c.loop-more.invariant.2 in
    let low = c.loop-more.invariant.0 in
    rw isnt (omega (arith, was, none, low))
