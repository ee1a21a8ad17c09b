use Rattle.std.specs.Prelude.{None}
use Rattle.std.proofs.Common.{◌≡◌, ◌<◌, ◌-◌, ◌∙◌, ap, arith, get_or, length, subst, sym, take}
use Rattle.std.proofs.lemmas.List.{take_all}
use Rattle.cedar_store.specs.Batches.{IsHeld, all_updated, only_updated, change_at}
use Rattle.cedar_store.specs.Told.{change_told, changes_told}
use Rattle.cedar_store.proofs.Withdrawn.{as_many, before_last, blank, told_at}
use Rattle.cedar_store.proofs.batch.take_all_back.Goals as goal

pub loop-left-init : goal.loop-left-init
loop-left-init g c =
    let cs = changes_told c.args.changes.now in
    let many = as_many c.args.changes.now in
    record {
      within = omega arith;
      back = λ s held is. is ∙ ap (all_updated s) (sym (take_all (length c.args.changes.now) cs (omega (arith, many))));
    }

pub loop-left-preserved : goal.loop-left-preserved
loop-left-preserved g c =
    let cs = changes_told c.args.changes.now in
    let many = as_many c.args.changes.now in
    let n = c.loop-left.left - 1 in
    let before = c.loop-left.invariant in
    let some = c.loop-left-test.true in
    let low : n < length c.args.changes.now = omega (arith, before.within, some) in
    let within : n < length cs = omega (arith, many, low) in
    let there : change_at cs n ≡ change_told (get_or c.args.changes.now n blank) = told_at c.args.changes.now n low in
    record {
      within = omega (arith, before.within, some);
      back = λ s held is.
          c.take_one_back.ensures (all_updated s (take n cs))
          (subst (λ d. IsHeld (all_updated s (take n cs)) d (get_or c.args.held.now n None)) there (held n within))
          (before_last s (g.T.Words.state c.loop-left.words) cs c.loop-left.left n (omega (arith, some)) within (before.back s held is) ∙ (λ k. only_updated (all_updated s (take n cs)) (there k)));
    }

pub returns : goal.returns
returns g c = λ s held is.
    let ended : c.loop-left.left ≡ 0 = omega (arith, c.loop-left-test.false) in
    c.loop-left.invariant.back s held is ∙ ap (λ n. all_updated s (take n (changes_told c.args.changes.now))) ended
