-- What is known of something that isn't a file.
use Rattle.std.specs.Prelude.{ℕ, List}
use Rattle.whole_files.specs.declared.sending.Sent.{Sent}
use Rattle.whole_files.specs.declared.special.Special.{Special}
use Rattle.whole_files.specs.Calls.{Call}
use Rattle.whole_files.specs.Sending.{told_after}

-- the calls on something that isn't a file, the newest first
abbrev pub sent_calls : {F : Type 0} → Sent F → List Call
sent_calls sent = sent.history.calls

-- the calls on something that isn't a file and is open, the newest first
abbrev pub special_calls : {F G D : Type 0} → Special F G D → List Call
special_calls special = sent_calls special.sent

-- what the calls on something that isn't a file and is open say
abbrev pub special_told : {F G D : Type 0} → Special F G D → List ℕ
special_told special = told_after (special_calls special)
