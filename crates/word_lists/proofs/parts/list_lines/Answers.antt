use Rattle.std.proofs.Common.{rules, ◌≡◌, ◌++◌, ◌-◌, ◌<◌, ◌∙◌, Bor, List, ℕ, ap, append-nil, arith, drop, length, length-drop, map, sym, take}
use Rattle.std.proofs.lemmas.List.{take_all}
use Rattle.word_lists.specs.Stored.{lines_in}
use Rattle.word_lists.specs.Texts.{body_of}
use Rattle.word_lists.proofs.ListedLines.{listed_more, next_in, none_left}
use Rattle.word_lists.proofs.parts.list_lines.Goals as goal

pub loop-rest-init : goal.loop-rest-init
loop-rest-init g c = ap (λ (l : List (Bor (List ℕ))). map (λ line. line.now) l ++ map body_of (lines_in c.args.text.now)) (sym c.new-lines.ensures.items)

pub loop-rest-preserved : goal.loop-rest-preserved
loop-rest-preserved g c =
    let rest = c.loop-rest.rest.now in
    let len = c.first_len-len.result in
    let first = take len rest in
    let left = take (length rest - len) (drop len rest) in
    let some : 0 < length rest = search (rules, arith) in
    let whole : left ≡ drop len rest = take_all (length rest - len) (drop len rest) (omega (arith, length-drop len rest)) in
    listed_more (lines_in c.args.text.now) c.loop-rest.lines.items c.push.new.self.items c.body.result rest first left
    (next_in rest first left some c.first_len-len.ensures.first (whole ∙ c.first_len-len.ensures.rest)) c.in_ok-push.ensures.items c.body.ensures.body c.loop-rest.invariant

pub returns : goal.returns
returns g c =
    let none = none_left c.loop-rest.rest.now (sym c.loop-rest-test.false ∙ c.is_empty.ensures) in
    sym (c.loop-rest.invariant ∙ ap (λ l. map (λ (line : Bor (List ℕ)). line.now) c.loop-rest.lines.items ++ map body_of (lines_in l)) none
    ∙ append-nil (map (λ (line : Bor (List ℕ)). line.now) c.loop-rest.lines.items))
