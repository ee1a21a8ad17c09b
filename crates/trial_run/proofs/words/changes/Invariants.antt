use Rattle.cedar_store.specs.Store.{IsReady}
use Rattle.trial_run.proofs.words.changes.Given as goal

-- the store is ready before each change
abbrev pub invariant-loop-turn : goal.invariant-loop-turn
invariant-loop-turn g l = IsReady g.D.Device.seen g.D.Device.may_leave l.store.journal.device l.store.journal.format l.store.journal.end l.store.words.state l.store.failed
