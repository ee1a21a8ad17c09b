use Rattle.std.proofs.Common.{◌≡◌, ◌∙◌, ◌∷◌, ◌++◌, ap, sym, subst, take, drop, length, arith}
use Rattle.cedar_c.specs.Matches.{Fit, filled_matches, all_longer}
use Rattle.cedar_c.proofs.MatchLemmas.{all_written}
use Rattle.cedar_c.proofs.walks.fill.Goals as goal

pub put_at-requires : goal.put_at-requires
put_at-requires g c =
    let left = g.F.Finds.left c.loop-found.walk in
    let first : left ≡ c.in-Some.found ∷ g.F.Finds.left c.next_found.new.self = c.in-Some.ensures in
    (subst (Fit c.args.more) first c.loop-found.invariant.2).0

pub loop-found-preserved : goal.loop-found-preserved
loop-found-preserved g c =
    let left = g.F.Finds.left c.loop-found.walk in
    let later = g.F.Finds.left c.next_found.new.self in
    let more = c.args.more in
    let matches = c.loop-found.matches in
    let count = c.loop-found.count in
    let first : left ≡ c.in-Some.found ∷ later = c.in-Some.ensures in (
      c.put_at.ensures (all_longer more later)
          ∙ ap (λ l. take count matches ++ filled_matches (drop count matches) (all_longer more l)) (sym first) ∙ c.loop-found.invariant.0,
      omega (arith, c.loop-found.invariant.1, ap length first),
      (subst (Fit more) first c.loop-found.invariant.2).1,
    )

pub returns-clause-filled : goal.returns-clause-filled
returns-clause-filled g c =
    let left = g.F.Finds.left c.loop-found.walk in
    let more = c.args.more in
    sym (all_written c.loop-found.matches c.loop-found.count (all_longer more left) (ap (all_longer more) c.in_default.ensures)) ∙ c.loop-found.invariant.0
