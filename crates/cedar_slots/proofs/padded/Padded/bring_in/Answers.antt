use Rattle.std.proofs.Common.{rules, length, subst, sym, ◌≤◌}
use Rattle.cedar_slots.proofs.Blanks.{le-padded, padded-resized_by}
use Rattle.cedar_slots.proofs.padded.Padded.bring_in.Goals as goal

pub returns-clause-items : goal.returns-clause-items
returns-clause-items g c =
    let within = subst (λ v. c.args.used ≤ length v.items) (sym c.self.view_is) c.requires.within in
    rw (c.resize.ensures.items, ← c.self.view_is) (padded-resized_by g.T.Blank.BLANK c.BLANK.result c.self.inside.len c.args.used _ c.self.inside.front.items _ (search rules) (search rules) (search rules) (le-padded g.T.Blank.BLANK c.self.inside.len c.args.used c.self.inside.front.items (search rules) within))
