use Rattle.std.proofs.Common.{◌≡◌, ◌∷◌, ◌∙◌, ap, sym, subst}
use Rattle.cedar_c.specs.Matches.{all_longer, Fit}
use Rattle.cedar_c.proofs.MatchLemmas.{all_written}
use Rattle.cedar_c.proofs.pages.fill_page.Goals as goal

pub put_at-requires : goal.put_at-requires
put_at-requires g c =
    let left = g.F.Finds.left c.loop-count.walk in
    let first : left ≡ c.in-Some.found ∷ g.F.Finds.left c.next_found.new.self = c.in-Some.ensures in
    (subst (Fit c.args.more) first c.loop-count.invariant.4).0

pub returns-in_default-clause-filled : goal.returns-in_default-clause-filled
returns-in_default-clause-filled g c =
    let left = g.F.Finds.left c.loop-count.walk in
    let more = c.args.more in
    sym (all_written c.loop-count.matches c.loop-count.count (all_longer more left) (ap (all_longer more) c.in_default.ensures)) ∙ c.loop-count.invariant.0
