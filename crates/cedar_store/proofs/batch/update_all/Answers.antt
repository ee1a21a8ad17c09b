use Rattle.std.specs.Prelude.{Some, ◌⊎◌}
use Rattle.std.proofs.Common.{◌≡◌, ◌≤◌, ◌<◌, ◌∙◌, arith, ap, length, refl, subst, sym, get_or}
use Rattle.std.proofs.lemmas.List.{length-set, take-map}
use Rattle.cedar_store.specs.Batches.{AreHeld, HasKey, change_fault, IsFaultless, IsHeld, all_updated, only_updated, change_at}
use Rattle.cedarwood.specs.Fault.{IsShortage}
use Rattle.cedar_store.specs.Told.{change_told, changes_told}
use Rattle.cedar_store.proofs.Withdrawn.{all_done, all_held, all_more, as_many, first_held, none_noted, noted_more, blank, told_at, updated_all, updated_more}
use Rattle.cedar_store.proofs.batch.update_all.Goals as goal

pub loop-index-init : goal.loop-index-init
loop-index-init g c = record {
  updated = refl;
  noted = none_noted (g.T.Words.state c.args.words.now) (changes_told c.args.changes.now) c.args.held.now;
  keys = tt;
  faultless = tt;
  long = c.requires;
}

pub loop-index-preserved : goal.loop-index-preserved
loop-index-preserved g c =
    let s = (g.T.Words.state c.args.words.now) in
    let cs = changes_told c.args.changes.now in
    let i = c.loop-index.index in
    let before = c.loop-index.invariant in
    let many = as_many c.args.changes.now in
    let low : i < length cs = omega (arith, many, c.loop-index-test.true) in
    let there : change_at cs i ≡ change_told (get_or c.args.changes.now i blank) = told_at c.args.changes.now i c.loop-index-test.true in
    let done = c.in-Ok.ensures in
    record {
      updated = done.updated ∙ (λ k. only_updated (before.updated k) (sym there k)) ∙ sym (updated_more s cs i low);
      noted = noted_more s cs i c.loop-index.held c.in-Ok.before (omega (arith, before.long, c.loop-index-test.true)) before.noted
          (subst (λ t. IsHeld t (change_at cs i) c.in-Ok.before) before.updated (subst (λ d. IsHeld (g.T.Words.state c.loop-index.words) d c.in-Ok.before) (sym there) done.held));
      keys = all_more HasKey cs i low before.keys (subst HasKey (sym there) done.key);
      faultless = all_more IsFaultless cs i low before.faultless (subst IsFaultless (sym there) done.faultless);
      long = length-set c.loop-index.held i c.in-Ok.before ∙ before.long;
    }

pub returns-in-Err-clause-err : goal.returns-in-Err-clause-err
returns-in-Err-clause-err g c =
    let s = (g.T.Words.state c.args.words.now) in
    let cs = changes_told c.args.changes.now in
    let i = c.loop-index.index in
    let before = c.loop-index.invariant in
    let many = as_many c.args.changes.now in
    let fits : i ≤ length cs = omega (arith, many, c.loop-index-test.true) in
    let told = take-map change_told i c.args.changes.now in
    c.take_all_back.ensures s
    (subst (λ l. AreHeld s l c.loop-index.held) told (first_held s cs i c.loop-index.held fits before.noted))
    (c.in-Err.ensures.err ∙ before.updated ∙ ap (all_updated s) told)

pub returns-in-Err-clause-cause : goal.returns-in-Err-clause-cause
returns-in-Err-clause-cause g c =
    let cs = changes_told c.args.changes.now in
    let i = c.loop-index.index in
    let many = as_many c.args.changes.now in
    let low : i < length cs = omega (arith, many, c.loop-index-test.true) in
    let there : change_at cs i ≡ change_told (get_or c.args.changes.now i blank) = told_at c.args.changes.now i c.loop-index-test.true in
    (low, subst (λ d. (change_fault d ≡ Some c.in-Err.error) ⊎ IsShortage c.in-Err.error) (sym there) c.in-Err.ensures.cause)

pub returns-clause-updated : goal.returns-clause-updated
returns-clause-updated g c =
    let cs = changes_told c.args.changes.now in
    let many = as_many c.args.changes.now in
    let ended : length cs ≤ c.loop-index.index = omega (arith, many, c.loop-index-test.false) in
    updated_all (g.T.Words.state c.args.words.now) (g.T.Words.state c.loop-index.words) cs c.loop-index.index ended c.loop-index.invariant.updated

pub returns-clause-held : goal.returns-clause-held
returns-clause-held g c =
    let cs = changes_told c.args.changes.now in
    let many = as_many c.args.changes.now in
    let ended : length cs ≤ c.loop-index.index = omega (arith, many, c.loop-index-test.false) in
    all_held (g.T.Words.state c.args.words.now) cs c.loop-index.index c.loop-index.held ended c.loop-index.invariant.noted

pub returns-clause-keys : goal.returns-clause-keys
returns-clause-keys g c =
    let cs = changes_told c.args.changes.now in
    let many = as_many c.args.changes.now in
    let ended : length cs ≤ c.loop-index.index = omega (arith, many, c.loop-index-test.false) in
    all_done HasKey cs c.loop-index.index ended c.loop-index.invariant.keys

pub returns-clause-faultless : goal.returns-clause-faultless
returns-clause-faultless g c =
    let cs = changes_told c.args.changes.now in
    let many = as_many c.args.changes.now in
    let ended : length cs ≤ c.loop-index.index = omega (arith, many, c.loop-index-test.false) in
    all_done IsFaultless cs c.loop-index.index ended c.loop-index.invariant.faultless
