use Rattle.std.proofs.Common.{ap}
use Rattle.std.proofs.lemmas.Bool.{true≢false}
use Rattle.cedar_store.specs.Batches.{puts}
use Rattle.cedar_store.specs.Told.{change_told}
use Rattle.cedar_store.proofs.last_puts.is_update.Goals as goal

pub returns-in-Update : goal.returns-in-Update
returns-in-Update c = λ e. absurd (true≢false e)

pub returns-in-Erase : goal.returns-in-Erase
returns-in-Erase c = λ _ path. ap (λ d. puts path (change_told d)) c.in-Erase.is
