use Rattle.std.proofs.Common.{◌≡◌, ℕ, List, [], ◌∷◌, take, sym, ◌∙◌, ap, subst}
use Rattle.cedar_journal.specs.Device.{Holds, Only, Torn, Cut}
use Rattle.cedar_journal.specs.Files.{file_payloads}
use Rattle.cedar_journal.proofs.Moments.{started, goes_on}
use Rattle.cedar_journal.proofs.Crash.{closed_same, cut_keeps, file_size, settled_at, torn_end, written_end}
use Rattle.cedar_journal.proofs.repair.close_behind.Goals as goal

pub returns-in_err-cut-clause-any_moment : goal.returns-in_err-cut-clause-any_moment
returns-in_err-cut-clause-any_moment g c =
    let file = g.D.Device.seen c.args.device.now in
    let P : List ℕ → Type 0 = λ f. file_payloads f ≡ file_payloads (g.D.Device.seen c.args.device.now) in
    let at_start = started g.D.Device.moment g.D.Device.left_since c.args.device.now P (λ f left. ap file_payloads (c.requires.restarted f (g.met.D.Device.only_now c.args.device.now f left))) in
    let after_cut : (f : List ℕ) → g.D.Device.may_leave c.cut.new.self f → P f = λ f now.
    let from = c.cut.ensures.crash f now in
    cut_keeps file c.args.format c.args.end c.requires.records f (subst (λ d. Cut c.args.end d f) (c.requires.restarted from.0 from.1) from.2) in
    let cut = goes_on g.D.Device.moment g.D.Device.left_since c.args.device.now c.args.device.now c.cut.new.self P _ at_start c.cut.ensures.time after_cut in
    cut

pub returns-in_err-sync-clause-any_moment : goal.returns-in_err-sync-clause-any_moment
returns-in_err-sync-clause-any_moment g c =
    let file = g.D.Device.seen c.args.device.now in
    let P : List ℕ → Type 0 = λ f. file_payloads f ≡ file_payloads (g.D.Device.seen c.args.device.now) in
    let at_start = started g.D.Device.moment g.D.Device.left_since c.args.device.now P (λ f left. ap file_payloads (c.requires.restarted f (g.met.D.Device.only_now c.args.device.now f left))) in
    let after_cut : (f : List ℕ) → g.D.Device.may_leave c.cut.new.self f → P f = λ f now.
    let from = c.cut.ensures.crash f now in
    cut_keeps file c.args.format c.args.end c.requires.records f (subst (λ d. Cut c.args.end d f) (c.requires.restarted from.0 from.1) from.2) in
    let cut = goes_on g.D.Device.moment g.D.Device.left_since c.args.device.now c.args.device.now c.cut.new.self P _ at_start c.cut.ensures.time after_cut in
    let synced = goes_on g.D.Device.moment g.D.Device.left_since c.args.device.now c.cut.new.self c.sync.new.self P _ cut c.sync.ensures.time (λ f now. after_cut f (c.sync.ensures.crash f now)) in
    synced

pub returns-in_err-write_at-clause-any_moment : goal.returns-in_err-write_at-clause-any_moment
returns-in_err-write_at-clause-any_moment g c =
    let file = g.D.Device.seen c.args.device.now in
    let P : List ℕ → Type 0 = λ f. file_payloads f ≡ file_payloads (g.D.Device.seen c.args.device.now) in
    let at_start = started g.D.Device.moment g.D.Device.left_since c.args.device.now P (λ f left. ap file_payloads (c.requires.restarted f (g.met.D.Device.only_now c.args.device.now f left))) in
    let after_cut : (f : List ℕ) → g.D.Device.may_leave c.cut.new.self f → P f = λ f now.
    let from = c.cut.ensures.crash f now in
    cut_keeps file c.args.format c.args.end c.requires.records f (subst (λ d. Cut c.args.end d f) (c.requires.restarted from.0 from.1) from.2) in
    let cut = goes_on g.D.Device.moment g.D.Device.left_since c.args.device.now c.args.device.now c.cut.new.self P _ at_start c.cut.ensures.time after_cut in
    let synced = goes_on g.D.Device.moment g.D.Device.left_since c.args.device.now c.cut.new.self c.sync.new.self P _ cut c.sync.ensures.time (λ f now. after_cut f (c.sync.ensures.crash f now)) in
    let after_write : (f : List ℕ) → g.D.Device.may_leave c.write_at.new.self f → P f = λ f now.
    let from = c.write_at.ensures.crash f now in
    let was = c.in_ok-sync.ensures.durable from.0 from.1 ∙ c.in_ok-cut.ensures.cut in
    torn_end file c.args.format c.args.end c.requires.records f (subst (λ d. Torn c.args.end 1 d f) was from.2) in
    let written = goes_on g.D.Device.moment g.D.Device.left_since c.args.device.now c.sync.new.self c.write_at.new.self P _ synced c.write_at.ensures.time after_write in
    written

pub returns-in_err-sync-2-clause-any_moment : goal.returns-in_err-sync-2-clause-any_moment
returns-in_err-sync-2-clause-any_moment g c =
    let file = g.D.Device.seen c.args.device.now in
    let P : List ℕ → Type 0 = λ f. file_payloads f ≡ file_payloads (g.D.Device.seen c.args.device.now) in
    let at_start = started g.D.Device.moment g.D.Device.left_since c.args.device.now P (λ f left. ap file_payloads (c.requires.restarted f (g.met.D.Device.only_now c.args.device.now f left))) in
    let after_cut : (f : List ℕ) → g.D.Device.may_leave c.cut.new.self f → P f = λ f now.
    let from = c.cut.ensures.crash f now in
    cut_keeps file c.args.format c.args.end c.requires.records f (subst (λ d. Cut c.args.end d f) (c.requires.restarted from.0 from.1) from.2) in
    let cut = goes_on g.D.Device.moment g.D.Device.left_since c.args.device.now c.args.device.now c.cut.new.self P _ at_start c.cut.ensures.time after_cut in
    let synced = goes_on g.D.Device.moment g.D.Device.left_since c.args.device.now c.cut.new.self c.sync.new.self P _ cut c.sync.ensures.time (λ f now. after_cut f (c.sync.ensures.crash f now)) in
    let after_write : (f : List ℕ) → g.D.Device.may_leave c.write_at.new.self f → P f = λ f now.
    let from = c.write_at.ensures.crash f now in
    let was = c.in_ok-sync.ensures.durable from.0 from.1 ∙ c.in_ok-cut.ensures.cut in
    torn_end file c.args.format c.args.end c.requires.records f (subst (λ d. Torn c.args.end 1 d f) was from.2) in
    let written = goes_on g.D.Device.moment g.D.Device.left_since c.args.device.now c.sync.new.self c.write_at.new.self P _ synced c.write_at.ensures.time after_write in
    let ended = goes_on g.D.Device.moment g.D.Device.left_since c.args.device.now c.write_at.new.self c.sync-2.new.self P _ written c.sync-2.ensures.time (λ f now. after_write f (c.sync-2.ensures.crash f now)) in
    ended

pub returns-clause-any_moment : goal.returns-clause-any_moment
returns-clause-any_moment g c =
    let file = g.D.Device.seen c.args.device.now in
    let P : List ℕ → Type 0 = λ f. file_payloads f ≡ file_payloads (g.D.Device.seen c.args.device.now) in
    let at_start = started g.D.Device.moment g.D.Device.left_since c.args.device.now P (λ f left. ap file_payloads (c.requires.restarted f (g.met.D.Device.only_now c.args.device.now f left))) in
    let after_cut : (f : List ℕ) → g.D.Device.may_leave c.cut.new.self f → P f = λ f now.
    let from = c.cut.ensures.crash f now in
    cut_keeps file c.args.format c.args.end c.requires.records f (subst (λ d. Cut c.args.end d f) (c.requires.restarted from.0 from.1) from.2) in
    let cut = goes_on g.D.Device.moment g.D.Device.left_since c.args.device.now c.args.device.now c.cut.new.self P _ at_start c.cut.ensures.time after_cut in
    let synced = goes_on g.D.Device.moment g.D.Device.left_since c.args.device.now c.cut.new.self c.sync.new.self P _ cut c.sync.ensures.time (λ f now. after_cut f (c.sync.ensures.crash f now)) in
    let after_write : (f : List ℕ) → g.D.Device.may_leave c.write_at.new.self f → P f = λ f now.
    let from = c.write_at.ensures.crash f now in
    let was = c.in_ok-sync.ensures.durable from.0 from.1 ∙ c.in_ok-cut.ensures.cut in
    torn_end file c.args.format c.args.end c.requires.records f (subst (λ d. Torn c.args.end 1 d f) was from.2) in
    let written = goes_on g.D.Device.moment g.D.Device.left_since c.args.device.now c.sync.new.self c.write_at.new.self P _ synced c.write_at.ensures.time after_write in
    let ended = goes_on g.D.Device.moment g.D.Device.left_since c.args.device.now c.write_at.new.self c.sync-2.new.self P _ written c.sync-2.ensures.time (λ f now. after_write f (c.sync-2.ensures.crash f now)) in
    ended

pub returns-clause-settled : goal.returns-clause-settled
returns-clause-settled g c =
    let file = g.D.Device.seen c.args.device.now in
    let f = c.args.format in
    let end = c.args.end in
    let holds = subst (λ d. Holds d end (0 ∷ []) (g.D.Device.seen c.write_at.new.self)) (c.sync.ensures.seen ∙ c.in_ok-cut.ensures.cut) c.in_ok-write_at.ensures.written in
    let is = c.sync-2.ensures.seen ∙ written_end file f end c.requires.records (g.D.Device.seen c.write_at.new.self) holds in
    let durable = subst (λ d. Only d (g.D.Device.may_leave c.sync-2.new.self)) (sym c.sync-2.ensures.seen) c.in_ok-sync-2.ensures.durable in
    settled_at g.D.Device.seen g.D.Device.may_leave c.sync-2.new.self f end (take end file) [] (file_size file f end c.requires.records) c.requires.records.front is durable

pub returns-clause-same : goal.returns-clause-same
returns-clause-same g c =
    let file = g.D.Device.seen c.args.device.now in
    let f = c.args.format in
    let end = c.args.end in
    let holds = subst (λ d. Holds d end (0 ∷ []) (g.D.Device.seen c.write_at.new.self)) (c.sync.ensures.seen ∙ c.in_ok-cut.ensures.cut) c.in_ok-write_at.ensures.written in
    closed_same file f end c.requires.records (g.D.Device.seen c.sync-2.new.self) (c.sync-2.ensures.seen ∙ written_end file f end c.requires.records (g.D.Device.seen c.write_at.new.self) holds)
