use Rattle.cedar_journal.specs.Journal.{IsSettled}
use Rattle.trial_run.proofs.kept.append.Given as goal

-- the journal is at rest before each record
abbrev pub invariant-loop-turn : goal.invariant-loop-turn
invariant-loop-turn g l = IsSettled g.D.Device.seen g.D.Device.may_leave l.journal.device l.journal.format l.journal.end
