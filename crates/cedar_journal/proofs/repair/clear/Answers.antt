use Rattle.std.proofs.Common.{◌≡◌, ℕ, List, [], ◌∷◌, sym, ◌∙◌, ap, subst}
use Rattle.std.specs.Prelude.{Some}
use Rattle.cedar_journal.specs.Device.{Holds, Only, Torn, Cut}
use Rattle.cedar_journal.specs.Files.{file_payloads}
use Rattle.cedar_journal.proofs.Moments.{started, goes_on}
use Rattle.cedar_journal.proofs.HeaderCrash.{cut_leaves, torn_byte}
use Rattle.cedar_journal.proofs.repair.clear.Goals as goal

pub returns-in_err-cut-clause-any_moment : goal.returns-in_err-cut-clause-any_moment
returns-in_err-cut-clause-any_moment g c =
    let P : List ℕ → Type 0 = λ f. file_payloads f ≡ Some [] in
    let at_start = started g.D.Device.moment g.D.Device.left_since c.args.device.now P
    (λ f left. ap file_payloads (c.requires.restarted f (g.met.D.Device.only_now c.args.device.now f left)) ∙ c.requires.begun.stands) in
    let after_cut : (f : List ℕ) → g.D.Device.may_leave c.cut.new.self f → P f = λ f now.
    let from = c.cut.ensures.crash f now in
    cut_leaves (g.D.Device.seen c.args.device.now) f 0 c.requires.begun (subst (λ d. Cut 0 d f) (c.requires.restarted from.0 from.1) from.2) in
    let step1 = goes_on g.D.Device.moment g.D.Device.left_since c.args.device.now c.args.device.now c.cut.new.self P _ at_start c.cut.ensures.time after_cut in
    step1

pub returns-in_err-sync-clause-any_moment : goal.returns-in_err-sync-clause-any_moment
returns-in_err-sync-clause-any_moment g c =
    let P : List ℕ → Type 0 = λ f. file_payloads f ≡ Some [] in
    let at_start = started g.D.Device.moment g.D.Device.left_since c.args.device.now P
    (λ f left. ap file_payloads (c.requires.restarted f (g.met.D.Device.only_now c.args.device.now f left)) ∙ c.requires.begun.stands) in
    let after_cut : (f : List ℕ) → g.D.Device.may_leave c.cut.new.self f → P f = λ f now.
    let from = c.cut.ensures.crash f now in
    cut_leaves (g.D.Device.seen c.args.device.now) f 0 c.requires.begun (subst (λ d. Cut 0 d f) (c.requires.restarted from.0 from.1) from.2) in
    let step1 = goes_on g.D.Device.moment g.D.Device.left_since c.args.device.now c.args.device.now c.cut.new.self P _ at_start c.cut.ensures.time after_cut in
    let step2 = goes_on g.D.Device.moment g.D.Device.left_since c.args.device.now c.cut.new.self c.sync.new.self P _ step1 c.sync.ensures.time (λ f now. after_cut f (c.sync.ensures.crash f now)) in
    step2

pub returns-in_err-write_at-clause-any_moment : goal.returns-in_err-write_at-clause-any_moment
returns-in_err-write_at-clause-any_moment g c =
    let P : List ℕ → Type 0 = λ f. file_payloads f ≡ Some [] in
    let at_start = started g.D.Device.moment g.D.Device.left_since c.args.device.now P
    (λ f left. ap file_payloads (c.requires.restarted f (g.met.D.Device.only_now c.args.device.now f left)) ∙ c.requires.begun.stands) in
    let after_cut : (f : List ℕ) → g.D.Device.may_leave c.cut.new.self f → P f = λ f now.
    let from = c.cut.ensures.crash f now in
    cut_leaves (g.D.Device.seen c.args.device.now) f 0 c.requires.begun (subst (λ d. Cut 0 d f) (c.requires.restarted from.0 from.1) from.2) in
    let step1 = goes_on g.D.Device.moment g.D.Device.left_since c.args.device.now c.args.device.now c.cut.new.self P _ at_start c.cut.ensures.time after_cut in
    let step2 = goes_on g.D.Device.moment g.D.Device.left_since c.args.device.now c.cut.new.self c.sync.new.self P _ step1 c.sync.ensures.time (λ f now. after_cut f (c.sync.ensures.crash f now)) in
    let after_write : (f : List ℕ) → g.D.Device.may_leave c.write_at.new.self f → P f = λ f now.
    let from = c.write_at.ensures.crash f now in
    torn_byte f (subst (λ d. Torn 0 1 d f) (c.in_ok-sync.ensures.durable from.0 from.1 ∙ c.in_ok-cut.ensures.cut) from.2) in
    let step3 = goes_on g.D.Device.moment g.D.Device.left_since c.args.device.now c.sync.new.self c.write_at.new.self P _ step2 c.write_at.ensures.time after_write in
    step3

pub returns-in_err-sync-2-clause-any_moment : goal.returns-in_err-sync-2-clause-any_moment
returns-in_err-sync-2-clause-any_moment g c =
    let P : List ℕ → Type 0 = λ f. file_payloads f ≡ Some [] in
    let at_start = started g.D.Device.moment g.D.Device.left_since c.args.device.now P
    (λ f left. ap file_payloads (c.requires.restarted f (g.met.D.Device.only_now c.args.device.now f left)) ∙ c.requires.begun.stands) in
    let after_cut : (f : List ℕ) → g.D.Device.may_leave c.cut.new.self f → P f = λ f now.
    let from = c.cut.ensures.crash f now in
    cut_leaves (g.D.Device.seen c.args.device.now) f 0 c.requires.begun (subst (λ d. Cut 0 d f) (c.requires.restarted from.0 from.1) from.2) in
    let step1 = goes_on g.D.Device.moment g.D.Device.left_since c.args.device.now c.args.device.now c.cut.new.self P _ at_start c.cut.ensures.time after_cut in
    let step2 = goes_on g.D.Device.moment g.D.Device.left_since c.args.device.now c.cut.new.self c.sync.new.self P _ step1 c.sync.ensures.time (λ f now. after_cut f (c.sync.ensures.crash f now)) in
    let after_write : (f : List ℕ) → g.D.Device.may_leave c.write_at.new.self f → P f = λ f now.
    let from = c.write_at.ensures.crash f now in
    torn_byte f (subst (λ d. Torn 0 1 d f) (c.in_ok-sync.ensures.durable from.0 from.1 ∙ c.in_ok-cut.ensures.cut) from.2) in
    let step3 = goes_on g.D.Device.moment g.D.Device.left_since c.args.device.now c.sync.new.self c.write_at.new.self P _ step2 c.write_at.ensures.time after_write in
    let step4 = goes_on g.D.Device.moment g.D.Device.left_since c.args.device.now c.write_at.new.self c.sync-2.new.self P _ step3 c.sync-2.ensures.time (λ f now. after_write f (c.sync-2.ensures.crash f now)) in
    step4

pub returns-clause-any_moment : goal.returns-clause-any_moment
returns-clause-any_moment g c =
    let P : List ℕ → Type 0 = λ f. file_payloads f ≡ Some [] in
    let at_start = started g.D.Device.moment g.D.Device.left_since c.args.device.now P
    (λ f left. ap file_payloads (c.requires.restarted f (g.met.D.Device.only_now c.args.device.now f left)) ∙ c.requires.begun.stands) in
    let after_cut : (f : List ℕ) → g.D.Device.may_leave c.cut.new.self f → P f = λ f now.
    let from = c.cut.ensures.crash f now in
    cut_leaves (g.D.Device.seen c.args.device.now) f 0 c.requires.begun (subst (λ d. Cut 0 d f) (c.requires.restarted from.0 from.1) from.2) in
    let step1 = goes_on g.D.Device.moment g.D.Device.left_since c.args.device.now c.args.device.now c.cut.new.self P _ at_start c.cut.ensures.time after_cut in
    let step2 = goes_on g.D.Device.moment g.D.Device.left_since c.args.device.now c.cut.new.self c.sync.new.self P _ step1 c.sync.ensures.time (λ f now. after_cut f (c.sync.ensures.crash f now)) in
    let after_write : (f : List ℕ) → g.D.Device.may_leave c.write_at.new.self f → P f = λ f now.
    let from = c.write_at.ensures.crash f now in
    torn_byte f (subst (λ d. Torn 0 1 d f) (c.in_ok-sync.ensures.durable from.0 from.1 ∙ c.in_ok-cut.ensures.cut) from.2) in
    let step3 = goes_on g.D.Device.moment g.D.Device.left_since c.args.device.now c.sync.new.self c.write_at.new.self P _ step2 c.write_at.ensures.time after_write in
    let step4 = goes_on g.D.Device.moment g.D.Device.left_since c.args.device.now c.write_at.new.self c.sync-2.new.self P _ step3 c.sync-2.ensures.time (λ f now. after_write f (c.sync-2.ensures.crash f now)) in
    step4

pub returns-clause-cleared : goal.returns-clause-cleared
returns-clause-cleared g c =
    c.sync-2.ensures.seen ∙ subst (λ f. Holds f 0 (0 ∷ []) (g.D.Device.seen c.write_at.new.self)) (c.sync.ensures.seen ∙ c.in_ok-cut.ensures.cut) c.in_ok-write_at.ensures.written

pub returns-clause-durable : goal.returns-clause-durable
returns-clause-durable g c = subst (λ f. Only f (g.D.Device.may_leave c.sync-2.new.self)) (sym c.sync-2.ensures.seen) c.in_ok-sync-2.ensures.durable
