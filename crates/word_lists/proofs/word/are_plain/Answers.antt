use Rattle.std.proofs.Common.{rules, ◌≡◌, ◌∙◌, [], get_or, refl, sym}
use Rattle.word_lists.proofs.ListedLines.{none_left}
use Rattle.word_lists.proofs.WordLines.{first_byte, plain_all, plain_more}
use Rattle.word_lists.proofs.word.are_plain.Goals as goal

pub loop-rest-init : goal.loop-rest-init
loop-rest-init c = ([], refl, refl)

pub loop-rest-preserved : goal.loop-rest-preserved
loop-rest-preserved c =
    let i = c.loop-rest.invariant in
    let rest = c.loop-rest.rest.now in
    let some : rest ≡ [] → ⊥ = search rules in
    plain_more c.args.text c.args.bytes.now i.0 rest (get_or rest 0 0) i.1 (first_byte rest some) i.2 (sym c.is_plain.ensures ∙ c.if-not-is_plain.false)

pub returns : goal.returns
returns c = λ _.
    let i = c.loop-rest.invariant in
    let none = none_left c.loop-rest.rest.now (sym c.loop-rest-test.false ∙ c.is_empty.ensures) in
    plain_all c.args.text c.args.bytes.now i.0 c.loop-rest.rest.now i.1 none i.2
