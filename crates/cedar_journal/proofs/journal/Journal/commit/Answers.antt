use Rattle.std.proofs.Common.{◌≡◌, inl, ℕ, ◌+◌, List, [], ◌∷◌, length, sym, ◌∙◌, ap, subst}
use Rattle.cedar_journal.specs.Device.{Holds, Only}
use Rattle.cedar_journal.specs.Files.{file_payloads}
use Rattle.cedar_journal.specs.Formats.{overhead}
use Rattle.cedar_journal.specs.Frames.{payload_of}
use Rattle.cedar_journal.specs.Journal.{IsBeforeOrAfter, IsSettled}
use Rattle.cedar_journal.proofs.Moments.{started, goes_on}
use Rattle.cedar_journal.proofs.Crash.{gate_crash, longer, longer_ends, longer_front, opened_file, opened_stands, settled_at}
use Rattle.cedar_journal.proofs.journal.Journal.commit.Goals as goal

pub returns-in_err-write_over-clause-any_moment : goal.returns-in_err-write_over-clause-any_moment
returns-in_err-write_over-clause-any_moment g c =
    let s = c.requires.settled in
    let P : List ℕ → Type 0 = IsBeforeOrAfter (file_payloads (g.D.Device.seen c.args.self.now.device)) (payload_of c.args.frame.now) in
    let file = g.D.Device.seen c.args.self.now.device in
    let bytes = payload_of c.args.frame.now in
    let here : (f : List ℕ) → g.D.Device.may_leave c.write_over.new.self f → P f = λ f now.
    gate_crash file c.args.self.now.format c.args.self.now.end s.split s.front bytes c.requires.rest c.requires.staged c.requires.short _ _ s.durable c.write_over.ensures.crash f now in
    let at_start = started g.D.Device.moment g.D.Device.left_since c.args.self.now.device P (λ f left. inl (ap file_payloads (s.durable f (g.met.D.Device.only_now c.args.self.now.device f left)))) in
    goes_on g.D.Device.moment g.D.Device.left_since c.args.self.now.device c.args.self.now.device c.write_over.new.self P _ at_start c.write_over.ensures.time here

pub returns-in_err-sync-clause-any_moment : goal.returns-in_err-sync-clause-any_moment
returns-in_err-sync-clause-any_moment g c =
    let s = c.requires.settled in
    let P : List ℕ → Type 0 = IsBeforeOrAfter (file_payloads (g.D.Device.seen c.args.self.now.device)) (payload_of c.args.frame.now) in
    let file = g.D.Device.seen c.args.self.now.device in
    let bytes = payload_of c.args.frame.now in
    let here : (f : List ℕ) → g.D.Device.may_leave c.write_over.new.self f → P f = λ f now.
    gate_crash file c.args.self.now.format c.args.self.now.end s.split s.front bytes c.requires.rest c.requires.staged c.requires.short _ _ s.durable c.write_over.ensures.crash f now in
    let at_start = started g.D.Device.moment g.D.Device.left_since c.args.self.now.device P (λ f left. inl (ap file_payloads (s.durable f (g.met.D.Device.only_now c.args.self.now.device f left)))) in
    let opened = goes_on g.D.Device.moment g.D.Device.left_since c.args.self.now.device c.args.self.now.device c.write_over.new.self P _ at_start c.write_over.ensures.time here in
    goes_on g.D.Device.moment g.D.Device.left_since c.args.self.now.device c.write_over.new.self c.sync.new.self P _ opened c.sync.ensures.time (λ f now. here f (c.sync.ensures.crash f now))

pub returns-clause-any_moment : goal.returns-clause-any_moment
returns-clause-any_moment g c =
    let s = c.requires.settled in
    let P : List ℕ → Type 0 = IsBeforeOrAfter (file_payloads (g.D.Device.seen c.args.self.now.device)) (payload_of c.args.frame.now) in
    let file = g.D.Device.seen c.args.self.now.device in
    let bytes = payload_of c.args.frame.now in
    let here : (f : List ℕ) → g.D.Device.may_leave c.write_over.new.self f → P f = λ f now.
    gate_crash file c.args.self.now.format c.args.self.now.end s.split s.front bytes c.requires.rest c.requires.staged c.requires.short _ _ s.durable c.write_over.ensures.crash f now in
    let at_start = started g.D.Device.moment g.D.Device.left_since c.args.self.now.device P (λ f left. inl (ap file_payloads (s.durable f (g.met.D.Device.only_now c.args.self.now.device f left)))) in
    let opened = goes_on g.D.Device.moment g.D.Device.left_since c.args.self.now.device c.args.self.now.device c.write_over.new.self P _ at_start c.write_over.ensures.time here in
    goes_on g.D.Device.moment g.D.Device.left_since c.args.self.now.device c.write_over.new.self c.sync.new.self P _ opened c.sync.ensures.time (λ f now. here f (c.sync.ensures.crash f now))

pub returns-clause-longer : goal.returns-clause-longer
returns-clause-longer g c = ap (λ n. c.args.self.now.end + n) c.len.ensures

pub returns-clause-acknowledged : goal.returns-clause-acknowledged
returns-clause-acknowledged g c =
    let s = c.requires.settled in
    let seen = g.D.Device.seen in
    let file = seen c.args.self.now.device in
    let f = c.args.self.now.format in
    let end = c.args.self.now.end in
    let bytes = payload_of c.args.frame.now in
    let gate = subst (λ x. Holds file end (x ∷ []) (seen c.write_over.new.self)) c.open_gate.ensures c.in_ok-write_over.ensures.written in
    let is = c.sync.ensures.seen ∙ opened_file file f end s.split s.front bytes c.requires.rest c.requires.staged c.requires.short (seen c.write_over.new.self) gate in
    opened_stands file f end s.split s.front bytes c.requires.rest c.requires.staged c.requires.short (seen c.sync.new.self) is

pub returns-clause-settled : goal.returns-clause-settled
returns-clause-settled g c =
    let s = c.requires.settled in
    let seen = g.D.Device.seen in
    let file = seen c.args.self.now.device in
    let f = c.args.self.now.format in
    let end = c.args.self.now.end in
    let bytes = payload_of c.args.frame.now in
    let tail = c.requires.rest in
    let staged = c.requires.staged in
    let gate = subst (λ x. Holds file end (x ∷ []) (seen c.write_over.new.self)) c.open_gate.ensures c.in_ok-write_over.ensures.written in
    let is = c.sync.ensures.seen ∙ opened_file file f end s.split s.front bytes tail staged c.requires.short (seen c.write_over.new.self) gate in
    let durable = subst (λ d. Only d (g.D.Device.may_leave c.sync.new.self)) (sym c.sync.ensures.seen) c.in_ok-sync.ensures.durable in
    let same : end + c.len.result ≡ end + (overhead f + length bytes) = ap (λ n. end + n) c.len.ensures in
    subst (λ n. IsSettled seen g.D.Device.may_leave c.sync.new.self f n) (sym same)
    (settled_at seen g.D.Device.may_leave c.sync.new.self f (end + (overhead f + length bytes)) (longer file f end s.split s.front bytes tail staged c.requires.short) tail
    (longer_ends file f end s.split s.front bytes tail staged c.requires.short) (longer_front file f end s.split s.front bytes tail staged c.requires.short) is durable)
