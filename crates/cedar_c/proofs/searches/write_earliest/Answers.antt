use Rattle.std.proofs.Common.{◌<◌, ◌^◌, ◌∙◌, inl, inr, ap, arith, length, refl, rules, sym}
use Rattle.std.proofs.lemmas.List.{length-set}
use Rattle.cedar_scan.specs.Resumed.{earliest_behind}
use Rattle.cedar_scan.proofs.BehindLemmas.{earliest_goes_on, no_earliest}
use Rattle.cedar_c.proofs.ScannerLemmas.{begins_apart, in_text_apart, none_apart, spot_apart}
use Rattle.cedar_c.proofs.searches.write_earliest.Goals as goal

pub loop-count-init : goal.loop-count-init
loop-count-init g c = (begins_apart (earliest_behind c.args.scanner.now) c.args.text.now c.args.next.now c.args.found.now c.earliest_from-walk.result.rest c.earliest_from-walk.ensures.rest, refl)

-- the match that comes next, and what is left behind it
goes_on : goal.loop-count-preserved
goes_on g c =
    let l = c.loop-count in
    let so_far = l.invariant.0 in
    let text = c.args.text.now in
    let s = c.in-Some.spot in
    let later = c.next.new.self.rest in
    let is = c.in-Some.ensures.steps in
    let on = earliest_goes_on c.args.scanner.now l.next text s later (in_text_apart (earliest_behind c.args.scanner.now) text c.args.next.now l.next l.count l.found l.walk.rest so_far s later is (no_earliest c.args.scanner.now c.args.text.now)) (sym so_far.left_is ∙ is) in
    let size = ap length c.put_spot.ensures ∙ length-set l.found l.count _ in
    (rw c.put_spot.ensures (spot_apart (earliest_behind c.args.scanner.now) text c.args.next.now l.next l.count l.found l.walk.rest so_far s later is c.loop-count-test.true on), size ∙ l.invariant.1)

pub loop-count-preserved : goal.loop-count-preserved
loop-count-preserved g c = goes_on g c

pub overflow_add-next : goal.overflow_add-next
overflow_add-next g c =
    let l = c.loop-count in
    let text = c.args.text.now in
    let s = c.in-Some.spot in
    let later = c.next.new.self.rest in
    let is = c.in-Some.ensures.steps in
    let on = earliest_goes_on c.args.scanner.now l.next text s later (in_text_apart (earliest_behind c.args.scanner.now) text c.args.next.now l.next l.count l.found l.walk.rest l.invariant.0 s later is (no_earliest c.args.scanner.now c.args.text.now)) (sym l.invariant.0.left_is ∙ is) in
    let inside = on.inside in
    let short : length text < 2 ^ 64 = search rules in
    omega (arith, inside, short)

pub returns-in_default-clause-told : goal.returns-in_default-clause-told
returns-in_default-clause-told g c =
    let l = c.loop-count in
    let text = c.args.text.now in
    none_apart (earliest_behind c.args.scanner.now) text c.args.next.now l.next l.count l.found l.walk.rest l.invariant.0 c.max.result c.in_default.ensures.steps.0 (no_earliest c.args.scanner.now c.args.text.now c.max.result (let most = c.max.ensures in omega (arith, most)))

pub returns-in_default-clause-full : goal.returns-in_default-clause-full
returns-in_default-clause-full g c = let most = c.max.ensures in inl (omega (arith, most))

pub returns-in_default-clause-within : goal.returns-in_default-clause-within
returns-in_default-clause-within g c =
    let l = c.loop-count in
    let low = l.invariant.0.within.1 in
    let most = c.max.ensures in
    (l.invariant.0.within.0, omega (arith, low, most))

pub returns-clause-told : goal.returns-clause-told
returns-clause-told g c = c.loop-count.invariant.0.told

pub returns-clause-full : goal.returns-clause-full
returns-clause-full g c =
    let l = c.loop-count in
    let low = l.invariant.0.within.0 in
    let full = c.loop-count-test.false in
    inr (omega (arith, low, full))

pub returns-clause-within : goal.returns-clause-within
returns-clause-within g c = c.loop-count.invariant.0.within

pub returns-clause-ends : goal.returns-clause-ends
returns-clause-ends g c = c.loop-count.invariant.0.ends
