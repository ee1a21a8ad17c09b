use Rattle.std.proofs.Common.{rules}
use Rattle.cedar_slots.proofs.Blanks.{padded-set}
use Rattle.cedar_slots.proofs.padded.Padded.set.Goals as goal

pub returns-clause-items : goal.returns-clause-items
returns-clause-items g c = rw (← c.self.view_is) (padded-set g.T.Blank.BLANK c.self.inside.len c.self.inside.front.items c.args.index c.args.item (search rules))
