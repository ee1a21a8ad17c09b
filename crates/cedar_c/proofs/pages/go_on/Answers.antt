use Rattle.std.proofs.Common.{◌∙◌, ap, sym, subst}
use Rattle.cedar_c.specs.Matches.{Fit, filled_matches, all_longer}
use Rattle.cedar_c.proofs.LengthLemmas.{fit_drop}
use Rattle.cedar_c.proofs.MatchLemmas.{nothing_filled}
use Rattle.cedar_c.proofs.pages.go_on.Goals as goal

pub fill_page-count-requires : goal.fill_page-count-requires
fill_page-count-requires g c =
    subst (Fit c.args.more) (sym (c.pass.ensures.passed c.if-not-pass.false)) (fit_drop c.args.more c.args.next.now (g.F.Finds.left c.args.walk.now) c.requires.fit)

pub returns-then-not-pass-clause-filled : goal.returns-then-not-pass-clause-filled
returns-then-not-pass-clause-filled g c =
    let matches = c.args.matches.now in
    sym (ap (λ l. filled_matches matches (all_longer c.args.more l)) (c.pass.ensures.ended c.if-not-pass.true) ∙ nothing_filled matches)
