use Rattle.std.proofs.Common.{◌+◌, ◌-◌, ◌∷◌, length, take, drop, refl, ◌∙◌, ap, sym, arith, length-drop}
use Rattle.cedar_store.proofs.Payloads.{rest_is}
use Rattle.cedar_salvage.specs.Whole.{found_in}
use Rattle.cedar_salvage.proofs.Finding.{found_next, none_behind, passed}
use Rattle.cedar_salvage.proofs.record.next_whole.Goals as goal

pub loop-at-init : goal.loop-at-init
loop-at-init c = record { within = omega arith; same = refl }

pub loop-at-preserved : goal.loop-at-preserved
loop-at-preserved c =
    let before = c.loop-at.invariant in
    let bytes = c.args.bytes.now in
    let at = c.loop-at.at in
    record {
      within = omega arith;
      same = passed bytes (take (length bytes - at) (drop at bytes)) at (rest_is at bytes) (omega arith) c.in-None.ensures.none ∙ before.same;
    }

pub returns-in-Some-clause-less : goal.returns-in-Some-clause-less
returns-in-Some-clause-less c =
    let bytes = c.args.bytes.now in
    let end = c.loop-at.at + 9 + length c.in-Some.payload.now in
    omega (arith, ap length (rest_is end bytes), length-drop end bytes)

pub returns-in-Some-clause-some : goal.returns-in-Some-clause-some
returns-in-Some-clause-some c =
    let before = c.loop-at.invariant in
    let bytes = c.args.bytes.now in
    let at = c.loop-at.at in
    let p = c.in-Some.payload.now in
    sym before.same
    ∙ found_next bytes (take (length bytes - at) (drop at bytes)) p at (rest_is at bytes) c.in-Some.ensures.read
    ∙ ap (λ l. p ∷ found_in l) (sym (rest_is (at + 9 + length p) bytes))

pub returns-clause-none : goal.returns-clause-none
returns-clause-none c =
    let before = c.loop-at.invariant in
    sym before.same ∙ none_behind c.args.bytes.now c.loop-at.at (omega arith)
