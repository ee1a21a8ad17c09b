use Rattle.std.proofs.Common.{◌≡◌, ℕ, ◌+◌, List, [], ◌∷◌, ◌++◌, length, take, sym, ◌∙◌, ap, subst, arith, rules}
use Rattle.std.specs.Prelude.{IsErrOf}
use Rattle.cedar_journal.specs.declared.device.DeviceError.TheVariants.{NoRoom}
use Rattle.cedar_journal.specs.Device.{Holds, Only, Torn}
use Rattle.cedar_journal.specs.Formats.{frame_of}
use Rattle.cedar_journal.specs.Files.{file_payloads}
use Rattle.cedar_journal.specs.Frames.{payload_of}
use Rattle.cedar_journal.proofs.Moments.{goes_on, joins, started, weakens}
use Rattle.cedar_journal.proofs.Crash.{behind_gate, closed_stands, front_ends, gated_stands, long_enough, settled_at, stage_crash, staged_at, staged_file}
use Rattle.cedar_journal.proofs.journal.Journal.stage.Goals as goal

pub returns-in-Err-clause-any_moment : goal.returns-in-Err-clause-any_moment
returns-in-Err-clause-any_moment g c =
    let s = c.requires in
    let P : List ℕ → Type 0 = λ f. file_payloads f ≡ file_payloads (g.D.Device.seen c.args.self.now.device) in
    let file = g.D.Device.seen c.args.self.now.device in
    let here : (f : List ℕ) → g.D.Device.may_leave c.write_at.new.self f → P f = λ f now.
    stage_crash file c.args.self.now.format c.args.self.now.end s.split s.front _ _ _ s.durable c.write_at.ensures.crash f now in
    let at_start = started g.D.Device.moment g.D.Device.left_since c.args.self.now.device P (λ f left. ap file_payloads (s.durable f (g.met.D.Device.only_now c.args.self.now.device f left))) in
    let written = goes_on g.D.Device.moment g.D.Device.left_since c.args.self.now.device c.args.self.now.device c.write_at.new.self P _ at_start c.write_at.ensures.time here in
    written

pub returns-in_err-sync-in-Ok-clause-any_moment : goal.returns-in_err-sync-in-Ok-clause-any_moment
returns-in_err-sync-in-Ok-clause-any_moment g c =
    let s = c.requires in
    let P : List ℕ → Type 0 = λ f. file_payloads f ≡ file_payloads (g.D.Device.seen c.args.self.now.device) in
    let file = g.D.Device.seen c.args.self.now.device in
    let here : (f : List ℕ) → g.D.Device.may_leave c.write_at.new.self f → P f = λ f now.
    stage_crash file c.args.self.now.format c.args.self.now.end s.split s.front _ _ _ s.durable c.write_at.ensures.crash f now in
    let at_start = started g.D.Device.moment g.D.Device.left_since c.args.self.now.device P (λ f left. ap file_payloads (s.durable f (g.met.D.Device.only_now c.args.self.now.device f left))) in
    let written = goes_on g.D.Device.moment g.D.Device.left_since c.args.self.now.device c.args.self.now.device c.write_at.new.self P _ at_start c.write_at.ensures.time here in
    goes_on g.D.Device.moment g.D.Device.left_since c.args.self.now.device c.write_at.new.self c.sync.new.self P _ written c.sync.ensures.time (λ f now. here f (c.sync.ensures.crash f now))

pub returns-in_ok-sync-in-Ok-clause-any_moment : goal.returns-in_ok-sync-in-Ok-clause-any_moment
returns-in_ok-sync-in-Ok-clause-any_moment g c =
    let s = c.requires in
    let P : List ℕ → Type 0 = λ f. file_payloads f ≡ file_payloads (g.D.Device.seen c.args.self.now.device) in
    let file = g.D.Device.seen c.args.self.now.device in
    let here : (f : List ℕ) → g.D.Device.may_leave c.write_at.new.self f → P f = λ f now.
    stage_crash file c.args.self.now.format c.args.self.now.end s.split s.front _ _ _ s.durable c.write_at.ensures.crash f now in
    let at_start = started g.D.Device.moment g.D.Device.left_since c.args.self.now.device P (λ f left. ap file_payloads (s.durable f (g.met.D.Device.only_now c.args.self.now.device f left))) in
    let written = goes_on g.D.Device.moment g.D.Device.left_since c.args.self.now.device c.args.self.now.device c.write_at.new.self P _ at_start c.write_at.ensures.time here in
    goes_on g.D.Device.moment g.D.Device.left_since c.args.self.now.device c.write_at.new.self c.sync.new.self P _ written c.sync.ensures.time (λ f now. here f (c.sync.ensures.crash f now))

pub returns-in_err-cut_off-in-Err-NoRoom-clause-any_moment : goal.returns-in_err-cut_off-in-Err-NoRoom-clause-any_moment
returns-in_err-cut_off-in-Err-NoRoom-clause-any_moment g c =
    let s = c.requires in
    let P : List ℕ → Type 0 = λ f. file_payloads f ≡ file_payloads (g.D.Device.seen c.args.self.now.device) in
    let file = g.D.Device.seen c.args.self.now.device in
    let here : (f : List ℕ) → g.D.Device.may_leave c.write_at.new.self f → P f = λ f now.
    stage_crash file c.args.self.now.format c.args.self.now.end s.split s.front _ _ _ s.durable c.write_at.ensures.crash f now in
    let at_start = started g.D.Device.moment g.D.Device.left_since c.args.self.now.device P (λ f left. ap file_payloads (s.durable f (g.met.D.Device.only_now c.args.self.now.device f left))) in
    let written = goes_on g.D.Device.moment g.D.Device.left_since c.args.self.now.device c.args.self.now.device c.write_at.new.self P _ at_start c.write_at.ensures.time here in
    let end = c.args.self.now.end in
    let front = take end file in
    let mid = g.D.Device.seen c.write_at.new.self in
    let none : IsErrOf c.write_at.result NoRoom = search rules in
    let gated : take (end + 1) mid ≡ front ++ 0 ∷ [] = behind_gate file c.args.self.now.format end s.split s.front _ mid (c.write_at.ensures.no_room none) in
    joins g.D.Device.moment g.D.Device.left_since c.args.self.now.device c.write_at.new.self c.cut_off.new.device P written
    (weakens g.D.Device.moment g.D.Device.left_since c.write_at.new.self c.cut_off.new.device _ P (λ f same. gated_stands file c.args.self.now.format end s.split s.front f (same ∙ gated)) c.cut_off.ensures.any_moment)

pub returns-in_ok-cut_off-in-Err-NoRoom-clause-any_moment : goal.returns-in_ok-cut_off-in-Err-NoRoom-clause-any_moment
returns-in_ok-cut_off-in-Err-NoRoom-clause-any_moment g c =
    let s = c.requires in
    let P : List ℕ → Type 0 = λ f. file_payloads f ≡ file_payloads (g.D.Device.seen c.args.self.now.device) in
    let file = g.D.Device.seen c.args.self.now.device in
    let here : (f : List ℕ) → g.D.Device.may_leave c.write_at.new.self f → P f = λ f now.
    stage_crash file c.args.self.now.format c.args.self.now.end s.split s.front _ _ _ s.durable c.write_at.ensures.crash f now in
    let at_start = started g.D.Device.moment g.D.Device.left_since c.args.self.now.device P (λ f left. ap file_payloads (s.durable f (g.met.D.Device.only_now c.args.self.now.device f left))) in
    let written = goes_on g.D.Device.moment g.D.Device.left_since c.args.self.now.device c.args.self.now.device c.write_at.new.self P _ at_start c.write_at.ensures.time here in
    let end = c.args.self.now.end in
    let front = take end file in
    let mid = g.D.Device.seen c.write_at.new.self in
    let none : IsErrOf c.write_at.result NoRoom = search rules in
    let gated : take (end + 1) mid ≡ front ++ 0 ∷ [] = behind_gate file c.args.self.now.format end s.split s.front _ mid (c.write_at.ensures.no_room none) in
    joins g.D.Device.moment g.D.Device.left_since c.args.self.now.device c.write_at.new.self c.cut_off.new.device P written
    (weakens g.D.Device.moment g.D.Device.left_since c.write_at.new.self c.cut_off.new.device _ P (λ f same. gated_stands file c.args.self.now.format end s.split s.front f (same ∙ gated)) c.cut_off.ensures.any_moment)

pub cut_off-requires : goal.cut_off-requires
cut_off-requires g c =
    let s = c.requires in
    let file = g.D.Device.seen c.args.self.now.device in
    let end = c.args.self.now.end in
    let front = take end file in
    let mid = g.D.Device.seen c.write_at.new.self in
    let none : IsErrOf c.write_at.result NoRoom = search rules in
    let gated : take (end + 1) mid ≡ front ++ 0 ∷ [] = behind_gate file c.args.self.now.format end s.split s.front _ mid (c.write_at.ensures.no_room none) in
    record {
      within = long_enough file c.args.self.now.format end s.split s.front _ mid (c.write_at.ensures.no_room none);
      front = λ f left.
          let from = c.write_at.ensures.crash f left in
          behind_gate file c.args.self.now.format end s.split s.front _ f (subst (λ d. Torn (end + 1) (length c.bytes.result.now) d f) (s.durable from.0 from.1) from.2) ∙ sym gated;
    }

pub returns-in_ok-cut_off-in-Err-NoRoom-clause-no_room : goal.returns-in_ok-cut_off-in-Err-NoRoom-clause-no_room
returns-in_ok-cut_off-in-Err-NoRoom-clause-no_room g c =
    let s = c.requires in
    let file = g.D.Device.seen c.args.self.now.device in
    let end = c.args.self.now.end in
    let front = take end file in
    let mid = g.D.Device.seen c.write_at.new.self in
    let none : IsErrOf c.write_at.result NoRoom = search rules in
    let gated : take (end + 1) mid ≡ front ++ 0 ∷ [] = behind_gate file c.args.self.now.format end s.split s.front _ mid (c.write_at.ensures.no_room none) in
    let cut = c.in_ok-cut_off-in-Err-NoRoom.ensures.cut ∙ gated in
    λ _. settled_at g.D.Device.seen g.D.Device.may_leave c.cut_off.new.device c.args.self.now.format end front [] (front_ends file end s.split) s.front cut c.in_ok-cut_off-in-Err-NoRoom.ensures.durable

pub returns-in_ok-cut_off-in-Err-NoRoom-clause-same_left : goal.returns-in_ok-cut_off-in-Err-NoRoom-clause-same_left
returns-in_ok-cut_off-in-Err-NoRoom-clause-same_left g c =
    let s = c.requires in
    let file = g.D.Device.seen c.args.self.now.device in
    let end = c.args.self.now.end in
    let front = take end file in
    let mid = g.D.Device.seen c.write_at.new.self in
    let none : IsErrOf c.write_at.result NoRoom = search rules in
    let gated : take (end + 1) mid ≡ front ++ 0 ∷ [] = behind_gate file c.args.self.now.format end s.split s.front _ mid (c.write_at.ensures.no_room none) in
    λ _. closed_stands file c.args.self.now.format end s.split s.front (g.D.Device.seen c.cut_off.new.device) [] (c.in_ok-cut_off-in-Err-NoRoom.ensures.cut ∙ gated)

pub returns-in_ok-sync-in-Ok-clause-staged : goal.returns-in_ok-sync-in-Ok-clause-staged
returns-in_ok-sync-in-Ok-clause-staged g c =
    let s = c.requires in
    let seen = g.D.Device.seen in
    let file = seen c.args.self.now.device in
    let f = c.args.self.now.format in
    let end = c.args.self.now.end in
    let bytes_are = c.bytes.ensures.bytes in
    let holds = subst (λ b. Holds file (end + 1) b (seen c.write_at.new.self)) bytes_are c.in-Ok.ensures.written in
    let is = staged_file file f end s.split s.front (frame_of f (payload_of c.args.frame.now)) (seen c.write_at.new.self) holds in
    let durable = subst (λ d. Only d (g.D.Device.may_leave c.sync.new.self)) (sym c.sync.ensures.seen) c.in_ok-sync-in-Ok.ensures.durable in
    staged_at seen g.D.Device.may_leave c.sync.new.self f end (take end file) (payload_of c.args.frame.now) _ (front_ends file end s.split) s.front
    c.bytes.ensures.short (omega arith) (c.sync.ensures.seen ∙ is) durable

pub returns-in_ok-sync-in-Ok-clause-same : goal.returns-in_ok-sync-in-Ok-clause-same
returns-in_ok-sync-in-Ok-clause-same g c =
    let s = c.requires in
    let seen = g.D.Device.seen in
    let file = seen c.args.self.now.device in
    let f = c.args.self.now.format in
    let end = c.args.self.now.end in
    let bytes_are = c.bytes.ensures.bytes in
    let holds = subst (λ b. Holds file (end + 1) b (seen c.write_at.new.self)) bytes_are c.in-Ok.ensures.written in
    let is = staged_file file f end s.split s.front (frame_of f (payload_of c.args.frame.now)) (seen c.write_at.new.self) holds in
    closed_stands file f end s.split s.front (seen c.sync.new.self) _ (c.sync.ensures.seen ∙ is)
