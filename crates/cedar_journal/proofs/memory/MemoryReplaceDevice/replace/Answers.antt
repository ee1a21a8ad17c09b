use Rattle.std.proofs.Common.{◌≡◌, ◌⊎◌, inl, inr, ℕ, List, ◌∙◌, rules}
use Rattle.cedar_journal.specs.Past.{only_bytes}
use Rattle.cedar_journal.proofs.Kept.{elapses_to}
use Rattle.cedar_journal.proofs.Moments.{goes_on, started}
use Rattle.cedar_journal.proofs.memory.MemoryReplaceDevice.replace.Goals as goal

pub returns-in-Ok-clause-time : goal.returns-in-Ok-clause-time
returns-in-Ok-clause-time g c =
    let past = c.in-Ok.ensures.past in
    elapses_to c.args.self.now.past.items c.copy_over.new.past.items past.0 c.args.self.now.bytes.items c.copy_over.new.file.items past.1 past.2

pub returns-in-Ok-clause-any_moment : goal.returns-in-Ok-clause-any_moment
returns-in-Ok-clause-any_moment g c =
    let old = c.args.self.now in
    let past = c.in-Ok.ensures.past in
    let time = elapses_to old.past.items c.copy_over.new.past.items past.0 old.bytes.items c.copy_over.new.file.items past.1 past.2 in
    let P : List ℕ → Type 0 = λ f. (f ≡ old.bytes.items) ⊎ (f ≡ c.args.bytes.now) in
    let is : c.copy_over.new.file.items ≡ c.args.bytes.now = search rules in
    goes_on _ _ old old _ P _ (started _ _ old P (λ f left. inl (only_bytes old.past.items old.bytes.items f left))) time (λ f now. inr (now ∙ is))
