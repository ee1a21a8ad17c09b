use Rattle.std.proofs.Common.{rules, ◌≡◌, ◌++◌, ◌∷◌, ◌+◌, ◌-◌, ◌<◌, ◌≤◌, ◌∙◌, [], List, ℕ, ap, append-nil, append_assoc, arith, drop, length, length-append, length-drop, refl, sym, take}
use Rattle.std.proofs.lemmas.List.{take_all}
use Rattle.cedarwood.specs.State.{State}
use Rattle.cedarwood.specs.Words.{entries_of}
use Rattle.word_lists.specs.Stored.{lines_in, lines_stored, pairs_stored}
use Rattle.word_lists.proofs.ListedLines.{next_in, none_left}
use Rattle.word_lists.proofs.PlainLines.{pairs_step}
use Rattle.word_lists.proofs.sorted.plain_pairs.Goals as goal

pub loop-rest-init : goal.loop-rest-init
loop-rest-init g c = ([], refl, λ (s : State). ap (λ l. pairs_stored s (entries_of l)) (sym c.new-pairs.ensures.items), refl, omega arith)

pub loop-rest-preserved : goal.loop-rest-preserved
loop-rest-preserved g c =
    let i = c.loop-rest.invariant in
    let came = i.0 in
    let rest = c.loop-rest.rest.now in
    let len = c.first_len-len.result in
    let first = take len rest in
    let left = take (length rest - len) (drop len rest) in
    let some : 0 < length rest = search (rules, arith) in
    let one : 0 < len = c.first_len-len.ensures.some in
    let within : len ≤ length rest = c.first_len-len.ensures.within in
    let whole : left ≡ drop len rest = take_all (length rest - len) (drop len rest) (omega (arith, length-drop len rest)) in
    let step = next_in rest first left some c.first_len-len.ensures.first (whole ∙ c.first_len-len.ensures.rest) in
    let at : c.loop-rest.number ≡ 1 + length came = i.3 in
    let room : length came + length rest ≤ length c.args.list.now = i.4 in
    let gone : length left ≡ length rest - len = ap (λ (l : List ℕ). length l) whole ∙ length-drop len rest in (
      came ++ first ∷ [],
      i.1 ∙ ap (λ l. came ++ l) step ∙ sym (append_assoc came (first ∷ []) (lines_in left)),
      λ (s : State). pairs_step s c.loop-rest.number came first c.body.result.now (entries_of c.loop-rest.pairs.items) (entries_of c.push_line.new.pairs.items) at c.body.ensures.body (i.2 s)
          (c.in_ok-plain.ensures c.if-not-plain.false s),
      omega (arith, at, length-append came (first ∷ [])),
      omega (arith, room, gone, one, within, length-append came (first ∷ [])),
    )

pub returns : goal.returns
returns g c = λ (s : State).
    let i = c.loop-rest.invariant in
    let none = none_left c.loop-rest.rest.now (sym c.loop-rest-test.false ∙ c.is_empty.ensures) in
    ap (lines_stored s 1) (i.1 ∙ ap (λ l. i.0 ++ lines_in l) none ∙ append-nil i.0) ∙ i.2 s
