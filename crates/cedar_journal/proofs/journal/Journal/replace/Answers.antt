use Rattle.std.proofs.Common.{◌≡◌, ◌⊎◌, ◌-◌, length, ◌∙◌, ap, subst, arith}
use Rattle.cedar_journal.specs.Device.{Only}
use Rattle.cedar_journal.proofs.Images.{either_stands, replaced_settled, replaced_stands, some_gate}
use Rattle.cedar_journal.proofs.Moments.{weakens}
use Rattle.cedar_journal.proofs.journal.Journal.replace.Goals as goal

pub returns-in_err-replace-clause-any_moment : goal.returns-in_err-replace-clause-any_moment
returns-in_err-replace-clause-any_moment g c =
    let image = c.args.image.now in
    let device = c.args.self.now.device in
    let may_leave = g.D.Device.may_leave device in
    weakens g.D.Device.moment g.D.Device.left_since device c.replace.new.self _ _
    (λ f left. either_stands (g.D.Device.seen device) image.bytes.items f may_leave c.requires.durable image.shape image.whole
    (subst (λ l. may_leave f ⊎ (f ≡ l)) c.bytes.ensures left))
    c.replace.ensures.any_moment

pub returns-clause-any_moment : goal.returns-clause-any_moment
returns-clause-any_moment g c =
    let image = c.args.image.now in
    let device = c.args.self.now.device in
    let may_leave = g.D.Device.may_leave device in
    weakens g.D.Device.moment g.D.Device.left_since device c.replace.new.self _ _
    (λ f left. either_stands (g.D.Device.seen device) image.bytes.items f may_leave c.requires.durable image.shape image.whole
    (subst (λ l. may_leave f ⊎ (f ≡ l)) c.bytes.ensures left))
    c.replace.ensures.any_moment

pub returns-clause-replaced : goal.returns-clause-replaced
returns-clause-replaced g c =
    let image = c.args.image.now in
    let is = c.in_ok-replace.ensures.replaced ∙ c.bytes.ensures in
    replaced_stands g.D.Device.seen g.D.Device.may_leave c.replace.new.self image.bytes.items image.shape image.whole is

pub returns-clause-settled : goal.returns-clause-settled
returns-clause-settled g c =
    let image = c.args.image.now in
    let is = c.in_ok-replace.ensures.replaced ∙ c.bytes.ensures in
    let some = some_gate image.bytes.items image.shape in
    let size = ap length c.bytes-2.ensures in
    replaced_settled g.D.Device.seen g.D.Device.may_leave c.replace.new.self image.bytes.items image.shape image.whole is (length c.bytes-2.result.now - 1) (omega (arith, some, size))
    (subst (λ l. Only l (g.D.Device.may_leave c.replace.new.self)) c.bytes.ensures c.in_ok-replace.ensures.durable)
