use Rattle.std.specs.Prelude.{Some}
use Rattle.std.proofs.Common.{◌≡◌, ◌≤◌, ◌<◌, [], ◌∷◌, ◌++◌, ◌∙◌, ap, arith, drop, length, rules, subst, sym, take, get_or}
use Rattle.std.proofs.lemmas.List.{take_all, take_more}
use Rattle.cedar_store.specs.Batches.{IsFaultless, batch_length, change_length, record_of, change_at}
use Rattle.cedar_store.specs.Changes.{changes_of, erase_at}
use Rattle.cedar_store.specs.Told.{change_told, changes_told}
use Rattle.cedar_store.proofs.Payloads.{handed_on}
use Rattle.cedar_store.proofs.Recorded.{AreRecorded, batch_recorded, longer_cause, longest, none_recorded, one_recorded}
use Rattle.cedar_store.proofs.Withdrawn.{as_many, blank, told_at}
use Rattle.cedarwood.proofs.GeneralLemmas.{all_at}
use Rattle.cedar_store.proofs.frames.batch_payload.Goals as goal

pub loop-index-init : goal.loop-index-init
loop-index-init g c =
    let is : c.push.new.self.items ≡ 2 ∷ [] = search rules in
    let rest = ap (drop 1) is in
    record { front = is ∙ (λ k. 2 ∷ sym rest k); recorded = subst (AreRecorded []) (sym rest) none_recorded }

pub push_change-requires : goal.push_change-requires
push_change-requires g c =
    let cs = changes_told c.args.changes.now in
    let i = c.loop-index.index in
    let many = as_many c.args.changes.now in
    let low : i < length cs = omega (arith, many, c.loop-index-test.true) in
    let there : change_at cs i ≡ change_told (get_or c.args.changes.now i blank) = told_at c.args.changes.now i c.loop-index-test.true in
    subst IsFaultless there (all_at IsFaultless cs i (erase_at []) low c.requires)

pub loop-index-preserved : goal.loop-index-preserved
loop-index-preserved g c =
    let cs = changes_told c.args.changes.now in
    let i = c.loop-index.index in
    let many = as_many c.args.changes.now in
    let low : i < length cs = omega (arith, many, c.loop-index-test.true) in
    let there : change_at cs i ≡ change_told (get_or c.args.changes.now i blank) = told_at c.args.changes.now i c.loop-index-test.true in
    let before = c.loop-index.invariant in
    let bytes = drop 1 c.loop-index.payload.items in
    let r = c.in_ok-push_change.ensures.pushed in
    let is : c.push_change.new.bytes.items ≡ 2 ∷ (bytes ++ record_of r.payload) = r.behind ∙ ap (λ l. l ++ record_of r.payload) before.front in
    let rest = ap (drop 1) is in
    record {
      front = is ∙ (λ k. 2 ∷ sym rest k);
      recorded =
          subst (λ l. AreRecorded l (drop 1 c.push_change.new.bytes.items)) (sym (take_more cs i (erase_at []) low))
          (subst (AreRecorded (take i cs ++ change_at cs i ∷ [])) (sym rest)
          (one_recorded (take i cs) (change_at cs i) bytes r.payload before.recorded (r.change ∙ ap Some (sym there)) (r.size ∙ ap change_length (sym there)) r.short));
    }

pub returns-in_err-push_change-clause-cause : goal.returns-in_err-push_change-clause-cause
returns-in_err-push_change-clause-cause g c =
    let cs = changes_told c.args.changes.now in
    let i = c.loop-index.index in
    let many = as_many c.args.changes.now in
    let low : i < length cs = omega (arith, many, c.loop-index-test.true) in
    let there : change_at cs i ≡ change_told (get_or c.args.changes.now i blank) = told_at c.args.changes.now i c.loop-index-test.true in
    let less = longest cs i (erase_at []) low in
    handed_on c.from_residual-in_err-push_change.result c.in_err-push_change.field-0.0 _ c.from_residual-in_err-push_change.ensures.1
    (longer_cause (change_length (change_told (get_or c.args.changes.now i blank))) (batch_length cs) c.in_err-push_change.field-0.0 (omega (arith, less, ap change_length there)) c.in_err-push_change.ensures.cause)

pub returns-clause-change : goal.returns-clause-change
returns-clause-change g c =
    let cs = changes_told c.args.changes.now in
    let many = as_many c.args.changes.now in
    let ended : length cs ≤ c.loop-index.index = omega (arith, many, c.loop-index-test.false) in
    let done = c.loop-index.invariant in
    ap changes_of done.front
    ∙ batch_recorded cs (drop 1 c.loop-index.payload.items) (subst (λ l. AreRecorded l (drop 1 c.loop-index.payload.items)) (take_all c.loop-index.index cs ended) done.recorded)

pub returns-clause-length : goal.returns-clause-length
returns-clause-length g c =
    let cs = changes_told c.args.changes.now in
    let many = as_many c.args.changes.now in
    let ended : length cs ≤ c.loop-index.index = omega (arith, many, c.loop-index-test.false) in
    let done = c.loop-index.invariant in
    omega (arith, ap length done.front, done.recorded.size, ap batch_length (take_all c.loop-index.index cs ended))
