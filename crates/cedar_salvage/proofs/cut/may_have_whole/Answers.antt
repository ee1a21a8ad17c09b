use Rattle.std.proofs.Common.{◌-◌, length, take, drop, refl, ◌∙◌, ap, sym, arith, inl, inr}
use Rattle.cedar_store.proofs.Payloads.{rest_is}
use Rattle.cedar_salvage.specs.Whole.{found_in, has_some}
use Rattle.cedar_salvage.proofs.Finding.{none_behind, passed, some_found}
use Rattle.cedar_salvage.proofs.Looking.{looks_on}
use Rattle.cedar_salvage.proofs.cut.may_have_whole.Goals as goal

pub loop-at-init : goal.loop-at-init
loop-at-init c = record { within = omega arith; same = refl; looked = omega arith }

pub loop-at-preserved : goal.loop-at-preserved
loop-at-preserved c =
    let before = c.loop-at.invariant in
    let bytes = c.args.bytes.now in
    let at = c.loop-at.at in
    let b = take (length bytes - at) (drop at bytes) in
    record {
      within = omega arith;
      same = passed bytes b at (rest_is at bytes) (omega arith) c.in-None.ensures.none ∙ before.same;
      looked = omega (arith, before.looked, c.look_at-look.ensures, looks_on bytes b at (rest_is at bytes) (omega arith));
    }

pub returns-then-look-left-clause-some : goal.returns-then-look-left-clause-some
returns-then-look-left-clause-some c told =
    let before = c.loop-at.invariant in
    let bytes = c.args.bytes.now in
    let at = c.loop-at.at in
    let b = take (length bytes - at) (drop at bytes) in
    inr (omega (arith, before.looked, c.look_at-look.ensures, looks_on bytes b at (rest_is at bytes) (omega arith)))

pub returns-in-Some-clause-some : goal.returns-in-Some-clause-some
returns-in-Some-clause-some c told =
    let before = c.loop-at.invariant in
    let bytes = c.args.bytes.now in
    let at = c.loop-at.at in
    inl (sym (some_found (take (length bytes - at) (drop at bytes)) _ _ c.in-Some.ensures.read ∙ ap has_some (ap found_in (rest_is at bytes) ∙ before.same)))

pub returns-clause-none : goal.returns-clause-none
returns-clause-none c told =
    let before = c.loop-at.invariant in
    let bytes = c.args.bytes.now in
    ap has_some (sym before.same ∙ none_behind bytes c.loop-at.at (omega arith))
