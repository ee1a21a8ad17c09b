use Rattle.std.proofs.Common.{rules}
use Rattle.cedar_slots.proofs.Blanks.{padded-more}
use Rattle.cedar_slots.proofs.padded.Padded.extend.Goals as goal

pub returns-clause-items : goal.returns-clause-items
returns-clause-items g c = rw (← c.self.view_is) (padded-more g.T.Blank.BLANK c.self.inside.len c.args.more c.self.inside.front.items (search rules))
