use Rattle.cedar_journal.proofs.Accepted.{crash_accepted, extent_accepted}
use Rattle.cedar_journal.proofs.laws.crashes_are_accepted.Goals as goal

pub returns-clause-extents : goal.returns-clause-extents
returns-clause-extents c = extent_accepted

pub returns-clause-crashes : goal.returns-clause-crashes
returns-clause-crashes c = crash_accepted
