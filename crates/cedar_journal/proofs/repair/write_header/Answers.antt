use Rattle.std.proofs.Common.{◌≡◌, ℕ, List, [], ◌∷◌, sym, ◌∙◌, ap, refl, subst}
use Rattle.std.specs.Prelude.{Some}
use Rattle.cedar_journal.specs.Device.{Holds, Only, Torn}
use Rattle.cedar_journal.specs.declared.format.Format.TheVariants.{Summed}
use Rattle.cedar_journal.specs.Files.{file_payloads, header_frame, journal_header}
use Rattle.cedar_journal.proofs.Moments.{started, goes_on}
use Rattle.cedar_journal.proofs.Crash.{settled_at}
use Rattle.cedar_journal.proofs.Headers.{byte_stands, header_is_front, header_stands}
use Rattle.cedar_journal.proofs.HeaderCrash.{torn_frame, torn_gate_of_header}
use Rattle.cedar_journal.proofs.repair.write_header.Goals as goal

pub returns-in_err-write_at-clause-any_moment : goal.returns-in_err-write_at-clause-any_moment
returns-in_err-write_at-clause-any_moment g c =
    let P : List ℕ → Type 0 = λ f. file_payloads f ≡ Some [] in
    let at_start = started g.D.Device.moment g.D.Device.left_since c.args.device.now P
    (λ f left. ap file_payloads (c.requires.durable f (g.met.D.Device.only_now c.args.device.now f left) ∙ c.requires.cleared) ∙ byte_stands 0) in
    let after_write : (f : List ℕ) → g.D.Device.may_leave c.write_at.new.self f → P f = λ f now.
    let from = c.write_at.ensures.crash f now in
    torn_frame f (subst (λ d. Torn 1 13 d f) (c.requires.durable from.0 from.1 ∙ c.requires.cleared) from.2) in
    let step1 = goes_on g.D.Device.moment g.D.Device.left_since c.args.device.now c.args.device.now c.write_at.new.self P _ at_start c.write_at.ensures.time after_write in
    step1

pub returns-in_err-sync-clause-any_moment : goal.returns-in_err-sync-clause-any_moment
returns-in_err-sync-clause-any_moment g c =
    let P : List ℕ → Type 0 = λ f. file_payloads f ≡ Some [] in
    let at_start = started g.D.Device.moment g.D.Device.left_since c.args.device.now P
    (λ f left. ap file_payloads (c.requires.durable f (g.met.D.Device.only_now c.args.device.now f left) ∙ c.requires.cleared) ∙ byte_stands 0) in
    let after_write : (f : List ℕ) → g.D.Device.may_leave c.write_at.new.self f → P f = λ f now.
    let from = c.write_at.ensures.crash f now in
    torn_frame f (subst (λ d. Torn 1 13 d f) (c.requires.durable from.0 from.1 ∙ c.requires.cleared) from.2) in
    let step1 = goes_on g.D.Device.moment g.D.Device.left_since c.args.device.now c.args.device.now c.write_at.new.self P _ at_start c.write_at.ensures.time after_write in
    let step2 = goes_on g.D.Device.moment g.D.Device.left_since c.args.device.now c.write_at.new.self c.sync.new.self P _ step1 c.sync.ensures.time (λ f now. after_write f (c.sync.ensures.crash f now)) in
    step2

pub returns-in_err-write_at-2-clause-any_moment : goal.returns-in_err-write_at-2-clause-any_moment
returns-in_err-write_at-2-clause-any_moment g c =
    let P : List ℕ → Type 0 = λ f. file_payloads f ≡ Some [] in
    let at_start = started g.D.Device.moment g.D.Device.left_since c.args.device.now P
    (λ f left. ap file_payloads (c.requires.durable f (g.met.D.Device.only_now c.args.device.now f left) ∙ c.requires.cleared) ∙ byte_stands 0) in
    let after_write : (f : List ℕ) → g.D.Device.may_leave c.write_at.new.self f → P f = λ f now.
    let from = c.write_at.ensures.crash f now in
    torn_frame f (subst (λ d. Torn 1 13 d f) (c.requires.durable from.0 from.1 ∙ c.requires.cleared) from.2) in
    let step1 = goes_on g.D.Device.moment g.D.Device.left_since c.args.device.now c.args.device.now c.write_at.new.self P _ at_start c.write_at.ensures.time after_write in
    let step2 = goes_on g.D.Device.moment g.D.Device.left_since c.args.device.now c.write_at.new.self c.sync.new.self P _ step1 c.sync.ensures.time (λ f now. after_write f (c.sync.ensures.crash f now)) in
    let written : g.D.Device.seen c.write_at.new.self ≡ 0 ∷ header_frame Summed =
    subst (λ f. Holds f 1 (header_frame Summed) (g.D.Device.seen c.write_at.new.self)) c.requires.cleared c.in_ok-write_at.ensures.written in
    let after_gate : (f : List ℕ) → g.D.Device.may_leave c.write_at-2.new.self f → P f = λ f now.
    let from = c.write_at-2.ensures.crash f now in
    torn_gate_of_header f (subst (λ d. Torn 0 1 d f) (c.in_ok-sync.ensures.durable from.0 from.1 ∙ written) from.2) in
    let step3 = goes_on g.D.Device.moment g.D.Device.left_since c.args.device.now c.sync.new.self c.write_at-2.new.self P _ step2 c.write_at-2.ensures.time after_gate in
    step3

pub returns-in_err-sync-2-clause-any_moment : goal.returns-in_err-sync-2-clause-any_moment
returns-in_err-sync-2-clause-any_moment g c =
    let P : List ℕ → Type 0 = λ f. file_payloads f ≡ Some [] in
    let at_start = started g.D.Device.moment g.D.Device.left_since c.args.device.now P
    (λ f left. ap file_payloads (c.requires.durable f (g.met.D.Device.only_now c.args.device.now f left) ∙ c.requires.cleared) ∙ byte_stands 0) in
    let after_write : (f : List ℕ) → g.D.Device.may_leave c.write_at.new.self f → P f = λ f now.
    let from = c.write_at.ensures.crash f now in
    torn_frame f (subst (λ d. Torn 1 13 d f) (c.requires.durable from.0 from.1 ∙ c.requires.cleared) from.2) in
    let step1 = goes_on g.D.Device.moment g.D.Device.left_since c.args.device.now c.args.device.now c.write_at.new.self P _ at_start c.write_at.ensures.time after_write in
    let step2 = goes_on g.D.Device.moment g.D.Device.left_since c.args.device.now c.write_at.new.self c.sync.new.self P _ step1 c.sync.ensures.time (λ f now. after_write f (c.sync.ensures.crash f now)) in
    let written : g.D.Device.seen c.write_at.new.self ≡ 0 ∷ header_frame Summed =
    subst (λ f. Holds f 1 (header_frame Summed) (g.D.Device.seen c.write_at.new.self)) c.requires.cleared c.in_ok-write_at.ensures.written in
    let after_gate : (f : List ℕ) → g.D.Device.may_leave c.write_at-2.new.self f → P f = λ f now.
    let from = c.write_at-2.ensures.crash f now in
    torn_gate_of_header f (subst (λ d. Torn 0 1 d f) (c.in_ok-sync.ensures.durable from.0 from.1 ∙ written) from.2) in
    let step3 = goes_on g.D.Device.moment g.D.Device.left_since c.args.device.now c.sync.new.self c.write_at-2.new.self P _ step2 c.write_at-2.ensures.time after_gate in
    let step4 = goes_on g.D.Device.moment g.D.Device.left_since c.args.device.now c.write_at-2.new.self c.sync-2.new.self P _ step3 c.sync-2.ensures.time (λ f now. after_gate f (c.sync-2.ensures.crash f now)) in
    step4

pub returns-clause-any_moment : goal.returns-clause-any_moment
returns-clause-any_moment g c =
    let P : List ℕ → Type 0 = λ f. file_payloads f ≡ Some [] in
    let at_start = started g.D.Device.moment g.D.Device.left_since c.args.device.now P
    (λ f left. ap file_payloads (c.requires.durable f (g.met.D.Device.only_now c.args.device.now f left) ∙ c.requires.cleared) ∙ byte_stands 0) in
    let after_write : (f : List ℕ) → g.D.Device.may_leave c.write_at.new.self f → P f = λ f now.
    let from = c.write_at.ensures.crash f now in
    torn_frame f (subst (λ d. Torn 1 13 d f) (c.requires.durable from.0 from.1 ∙ c.requires.cleared) from.2) in
    let step1 = goes_on g.D.Device.moment g.D.Device.left_since c.args.device.now c.args.device.now c.write_at.new.self P _ at_start c.write_at.ensures.time after_write in
    let step2 = goes_on g.D.Device.moment g.D.Device.left_since c.args.device.now c.write_at.new.self c.sync.new.self P _ step1 c.sync.ensures.time (λ f now. after_write f (c.sync.ensures.crash f now)) in
    let written : g.D.Device.seen c.write_at.new.self ≡ 0 ∷ header_frame Summed =
    subst (λ f. Holds f 1 (header_frame Summed) (g.D.Device.seen c.write_at.new.self)) c.requires.cleared c.in_ok-write_at.ensures.written in
    let after_gate : (f : List ℕ) → g.D.Device.may_leave c.write_at-2.new.self f → P f = λ f now.
    let from = c.write_at-2.ensures.crash f now in
    torn_gate_of_header f (subst (λ d. Torn 0 1 d f) (c.in_ok-sync.ensures.durable from.0 from.1 ∙ written) from.2) in
    let step3 = goes_on g.D.Device.moment g.D.Device.left_since c.args.device.now c.sync.new.self c.write_at-2.new.self P _ step2 c.write_at-2.ensures.time after_gate in
    let step4 = goes_on g.D.Device.moment g.D.Device.left_since c.args.device.now c.write_at-2.new.self c.sync-2.new.self P _ step3 c.sync-2.ensures.time (λ f now. after_gate f (c.sync-2.ensures.crash f now)) in
    step4

pub returns-clause-settled : goal.returns-clause-settled
returns-clause-settled g c =
    let seen = g.D.Device.seen in
    let written : seen c.write_at.new.self ≡ 0 ∷ header_frame Summed =
    subst (λ f. Holds f 1 (header_frame Summed) (seen c.write_at.new.self)) c.requires.cleared c.in_ok-write_at.ensures.written in
    let is : seen c.sync-2.new.self ≡ 1 ∷ header_frame Summed =
    c.sync-2.ensures.seen ∙ subst (λ f. Holds f 0 (1 ∷ []) (seen c.write_at-2.new.self)) (c.sync.ensures.seen ∙ written) c.in_ok-write_at-2.ensures.written in
    let durable = subst (λ f. Only f (g.D.Device.may_leave c.sync-2.new.self)) (sym c.sync-2.ensures.seen) c.in_ok-sync-2.ensures.durable in
    settled_at seen g.D.Device.may_leave c.sync-2.new.self Summed 13 (journal_header Summed) [] refl ([], header_is_front Summed) is durable

pub returns-clause-none : goal.returns-clause-none
returns-clause-none g c =
    let seen = g.D.Device.seen in
    let written : seen c.write_at.new.self ≡ 0 ∷ header_frame Summed =
    subst (λ f. Holds f 1 (header_frame Summed) (seen c.write_at.new.self)) c.requires.cleared c.in_ok-write_at.ensures.written in
    let is : seen c.sync-2.new.self ≡ 1 ∷ header_frame Summed =
    c.sync-2.ensures.seen ∙ subst (λ f. Holds f 0 (1 ∷ []) (seen c.write_at-2.new.self)) (c.sync.ensures.seen ∙ written) c.in_ok-write_at-2.ensures.written in
    ap file_payloads is ∙ header_stands
