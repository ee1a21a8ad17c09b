-- Why a batch isn't made.
use Rattle.std.proofs.Common.{ℕ, List, Bool}
use Rattle.cedar_store.specs.declared.error.DurableError.{DurableError}
use Rattle.cedar_store.specs.declared.error.DurableError.TheVariants as error
use Rattle.cedar_store.specs.Causes.{BatchCause, IsRefusedAt, Leaves, PrepareCause}
use Rattle.cedar_store.specs.Changes.{Change}

pub refused_cause : (changes : List Change) (end : ℕ) (e : DurableError) → IsRefusedAt changes e → PrepareCause changes end e
refused_cause changes end (error.RefusedAt index e) cause = cause
refused_cause changes end (error.Refused e) cause = absurd cause
refused_cause changes end error.TooLong cause = absurd cause
refused_cause changes end error.Full cause = absurd cause
refused_cause changes end error.NoRoom cause = absurd cause
refused_cause changes end error.Foreign cause = cause
refused_cause changes end (error.Damaged place) cause = cause
refused_cause changes end error.Corrupt cause = cause
refused_cause changes end (error.Device e) cause = cause
refused_cause changes end error.Failed cause = cause

pub batch_cause : (failed : Bool) (changes : List Change) (end : ℕ) (broke lacked : Type 0) (e : DurableError) → PrepareCause changes end e → BatchCause failed changes end broke lacked e
batch_cause failed changes end broke lacked (error.RefusedAt index e) cause = cause
batch_cause failed changes end broke lacked (error.Refused e) cause = cause
batch_cause failed changes end broke lacked error.TooLong cause = cause
batch_cause failed changes end broke lacked error.Full cause = cause
batch_cause failed changes end broke lacked error.NoRoom cause = absurd cause
batch_cause failed changes end broke lacked error.Foreign cause = cause
batch_cause failed changes end broke lacked (error.Damaged place) cause = cause
batch_cause failed changes end broke lacked error.Corrupt cause = cause
batch_cause failed changes end broke lacked (error.Device e) cause = absurd cause
batch_cause failed changes end broke lacked error.Failed cause = absurd cause

-- what isn't prepared wasn't refused by the device
pub stays_prepared : (changes : List Change) (end : ℕ) (e : DurableError) (fails lacks stays : Type 0) → PrepareCause changes end e → stays → Leaves e fails lacks stays
stays_prepared changes end (error.RefusedAt index e) fails lacks stays cause same = same
stays_prepared changes end (error.Refused e) fails lacks stays cause same = same
stays_prepared changes end error.TooLong fails lacks stays cause same = same
stays_prepared changes end error.Full fails lacks stays cause same = same
stays_prepared changes end error.NoRoom fails lacks stays cause same = absurd cause
stays_prepared changes end error.Foreign fails lacks stays cause same = same
stays_prepared changes end (error.Damaged place) fails lacks stays cause same = same
stays_prepared changes end error.Corrupt fails lacks stays cause same = same
stays_prepared changes end (error.Device e) fails lacks stays cause same = absurd cause
stays_prepared changes end error.Failed fails lacks stays cause same = same
