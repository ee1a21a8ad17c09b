use Rattle.std.proofs.Common.{◌≡◌, ◌∙◌, ◌∷◌, ◌<◌, ◌≤◌, ◌+◌, ◌^◌, ap, length, subst, arith, refl, suc, take}
use Rattle.std.proofs.lemmas.List.{length-set, take-set-le}
use Rattle.cedar_c.specs.Matches.{Fit}
use Rattle.cedar_c.specs.Scans.{found_spot}
use Rattle.cedar_c.proofs.ScanLemmas.{told_more}
use Rattle.cedar_c.proofs.scans.tell.Goals as goal

pub loop-front-preserved : goal.loop-front-preserved
loop-front-preserved g c =
    let xs = c.loop-front.found in
    let at = c.loop-front.at in
    let kept = c.loop-front.invariant in
    let within : at ≤ length xs = kept.3 in
    let room : at < length xs = omega (arith, within, c.if-at-found.false) in
    let first : g.F.Finds.left c.loop-front.walk ≡ c.in-Some.front ∷ g.F.Finds.left c.next_found.new.self = c.in-Some.ensures in
    let new = c.put_at.ensures in
    let same : length c.put_at.new.found ≡ length xs = ap length new ∙ length-set xs at (found_spot c.args.place c.in-Some.front) in
    let behind : c.args.count ≤ at = kept.4 in
    let longer : at + length (g.F.Finds.left c.loop-front.walk) ≡ c.args.count + length (g.F.Finds.left c.args.walk.now) = kept.2 in
    let one : length (g.F.Finds.left c.loop-front.walk) ≡ suc (length (g.F.Finds.left c.next_found.new.self)) = ap length first in
    let fits : (c.in-Some.front.1 + 1 < 2 ^ 64) × Fit 1 (g.F.Finds.left c.next_found.new.self) = subst (Fit 1) first kept.7 in (
      rw new (told_more xs at c.args.place c.in-Some.front (g.F.Finds.left c.loop-front.walk) (g.F.Finds.left c.next_found.new.self) room first ∙ kept.0),
      ap (take c.args.count) new ∙ take-set-le c.args.count xs at (found_spot c.args.place c.in-Some.front) behind ∙ kept.1,
      omega (arith, longer, one),
      omega (arith, same, room),
      omega (arith, behind),
      same ∙ kept.5,
      refl,
      fits.1,
    )
