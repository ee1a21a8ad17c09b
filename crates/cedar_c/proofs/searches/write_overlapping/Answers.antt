use Rattle.std.proofs.Common.{◌<◌, ◌^◌, ◌∷◌, ◌∙◌, inl, inr, ap, arith, length, refl, rules}
use Rattle.std.proofs.lemmas.List.{length-set}
use Rattle.cedar_c.proofs.ScannerLemmas.{before_next, begins_ends, end_inside, none_ending, stays_at, too_many}
use Rattle.cedar_c.proofs.searches.write_overlapping.Goals as goal

pub loop-next-init : goal.loop-next-init
loop-next-init g c = (begins_ends c.args.scanner.now c.args.text.now c.args.next.now c.args.found.now c.overlapping_from-walk.result.rest c.overlapping_from-walk.ensures.rest, refl)

pub overflow_add-spot : goal.overflow_add-spot
overflow_add-spot g c =
    let l = c.loop-next in
    let inside = end_inside c.args.scanner.now c.args.text.now c.args.next.now l.next l.whole l.count l.found l.walk.rest l.invariant.0 c.in-Some.spot c.next.new.self.rest c.in-Some.ensures.steps in
    let short : length c.args.text.now < 2 ^ 64 = search rules in
    omega (arith, inside, short)

-- without room for the next key
pub returns-then-count-found-clause-told : goal.returns-then-count-found-clause-told
returns-then-count-found-clause-told g c =
    let l = c.loop-next in
    (before_next c.args.scanner.now c.args.text.now c.args.next.now l.next l.whole l.count l.found l.walk.rest l.invariant.0 c.in-Some.spot c.next.new.self.rest c.in-Some.ensures.steps c.move_before.new.next c.move_before.new.whole c.move_before.ensures).0.told

pub returns-then-count-found-clause-full : goal.returns-then-count-found-clause-full
returns-then-count-found-clause-full g c =
    let l = c.loop-next in
    let s = c.in-Some.spot in
    let later = c.next.new.self.rest in
    let now = before_next c.args.scanner.now c.args.text.now c.args.next.now l.next l.whole l.count l.found l.walk.rest l.invariant.0 s later c.in-Some.ensures.steps c.move_before.new.next c.move_before.new.whole c.move_before.ensures in
    inr (too_many c.args.scanner.now c.args.text.now c.args.next.now c.move_before.new.next c.move_before.new.whole l.count l.found (s ∷ later) now.0 s later refl now.1 c.if-count-found.true)

pub returns-then-count-found-clause-ends : goal.returns-then-count-found-clause-ends
returns-then-count-found-clause-ends g c =
    let l = c.loop-next in
    (before_next c.args.scanner.now c.args.text.now c.args.next.now l.next l.whole l.count l.found l.walk.rest l.invariant.0 c.in-Some.spot c.next.new.self.rest c.in-Some.ensures.steps c.move_before.new.next c.move_before.new.whole c.move_before.ensures).0.ends

pub loop-next-preserved : goal.loop-next-preserved
loop-next-preserved g c =
    let l = c.loop-next in
    let s = c.in-Some.spot in
    let later = c.next.new.self.rest in
    let now = before_next c.args.scanner.now c.args.text.now c.args.next.now l.next l.whole l.count l.found l.walk.rest l.invariant.0 s later c.in-Some.ensures.steps c.move_before.new.next c.move_before.new.whole c.move_before.ensures in
    let within = l.invariant.0.within.1 in
    let other = c.if-count-found.false in
    let room : l.count < length l.found = omega (arith, within, other) in
    let size = ap length c.put_spot.ensures ∙ length-set l.found l.count _ in
    (rw c.put_spot.ensures (stays_at c.args.scanner.now c.args.text.now c.args.next.now c.move_before.new.next c.move_before.new.whole l.count l.found (s ∷ later) now.0 s later refl now.1 room), size ∙ l.invariant.1)

pub returns-clause-told : goal.returns-clause-told
returns-clause-told g c =
    let l = c.loop-next in
    let most = c.max.ensures in
    none_ending c.args.scanner.now c.args.text.now c.args.next.now l.next l.whole l.count c.max.result l.found l.walk.rest l.invariant.0 c.in_default.ensures.steps.0 (omega (arith, most))

pub returns-clause-full : goal.returns-clause-full
returns-clause-full g c = let most = c.max.ensures in inl (omega (arith, most))
