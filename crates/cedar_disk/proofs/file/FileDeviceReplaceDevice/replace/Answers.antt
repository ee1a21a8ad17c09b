use Rattle.std.proofs.Common.{◌≡◌, inl}
use Rattle.cedar_disk.specs.Accounts.{calls_of}
use Rattle.whole_files.specs.Calls.{refused_call}
use Rattle.cedar_disk.proofs.Steps.{leaves, refused_keeps}
use Rattle.cedar_disk.proofs.file.FileDeviceReplaceDevice.replace.Goals as goal

pub returns-then-not-has_name-clause-crash : goal.returns-then-not-has_name-clause-crash
returns-then-not-has_name-clause-crash g c =
    λ d left. inl (refused_keeps (calls_of c.args.self.now.account) (calls_of c.refuse.new.self) c.refuse.ensures.calls d left)

pub returns-then-not-has_name-clause-any_moment : goal.returns-then-not-has_name-clause-any_moment
returns-then-not-has_name-clause-any_moment g c =
    let old = calls_of c.args.self.now.account in
    let new = calls_of c.refuse.new.self in
    let is = c.refuse.ensures.calls in
    let all = leaves refused_call old new (λ d. d ≡ c.args.bytes.now) is (λ d left. inl (refused_keeps old new is d left)) in
    record { later = all.later; each = all.each; before = all.before }

pub returns-in_default-clause-crash : goal.returns-in_default-clause-crash
returns-in_default-clause-crash g c =
    λ d left. inl (refused_keeps (calls_of c.args.self.now.account) (calls_of c.refuse-in_default.new.self) c.refuse-in_default.ensures.calls d left)

pub returns-in_default-clause-kept_crash : goal.returns-in_default-clause-kept_crash
returns-in_default-clause-kept_crash g c =
    refused_keeps (calls_of c.args.self.now.account) (calls_of c.refuse-in_default.new.self) c.refuse-in_default.ensures.calls

pub returns-in_default-clause-any_moment : goal.returns-in_default-clause-any_moment
returns-in_default-clause-any_moment g c =
    let old = calls_of c.args.self.now.account in
    let new = calls_of c.refuse-in_default.new.self in
    let is = c.refuse-in_default.ensures.calls in
    let all = leaves refused_call old new (λ d. d ≡ c.args.bytes.now) is (λ d left. inl (refused_keeps old new is d left)) in
    record { later = all.later; each = all.each; before = all.before }
