use Rattle.std.proofs.Common.{◌≡◌, ◌<◌, ◌+◌, ◌∙◌, ℕ, List, ap, arith, get_or, length, sym, subst}
use Rattle.std.proofs.lemmas.List.{length-replicate}
use Rattle.cedar_store.specs.Batches.{change_at}
use Rattle.cedar_store.specs.Links.{AreLinkedPuts, heads_with}
use Rattle.cedar_store.specs.Told.{change_told, changes_told}
use Rattle.cedar_store.proofs.Linked.{heads_stay, none_linked, one_linked}
use Rattle.cedar_store.proofs.Withdrawn.{as_many, blank, told_at}
use Rattle.cedar_store.proofs.last_puts.link_all.Goals as goal

pub loop-index-init : goal.loop-index-init
loop-index-init c =
    let many = as_many c.args.changes.now in
    record {
      places = ap length c.requires.places ∙ length-replicate {A = ℕ} (length c.args.changes.now) 0;
      linked = none_linked c.args.heads.now c.args.links.now (changes_told c.args.changes.now) (length c.args.changes.now) c.requires.places (c.requires.unlinked ∙ sym many);
    }

pub loop-index-preserved : goal.loop-index-preserved
loop-index-preserved c =
    let cs = changes_told c.args.changes.now in
    let i = c.loop-index.index in
    let heads = c.loop-index.heads in
    let links = c.loop-index.links in
    let before = c.loop-index.invariant in
    let many = as_many c.args.changes.now in
    let low : i < length cs = omega (arith, many, c.loop-index-test.true) in
    let there : change_at cs i ≡ change_told (get_or c.args.changes.now i blank) = told_at c.args.changes.now i c.loop-index-test.true in
    let change = change_told (get_or c.args.changes.now i blank) in
    record {
      places = ap length c.link.ensures.heads ∙ heads_stay heads i change ∙ before.places;
      linked =
          subst (λ (l : List ℕ). AreLinkedPuts l c.link.new.links cs (i + 1)) (sym c.link.ensures.heads)
          (subst (λ (l : List ℕ). AreLinkedPuts (heads_with heads i change) l cs (i + 1)) (sym c.link.ensures.links)
          (one_linked heads links cs i before.linked low change there (omega (arith, before.places, c.loop-index-test.true))));
    }

pub returns : goal.returns
returns c =
    let ended : c.loop-index.index ≡ length c.args.changes.now = omega (arith, c.loop-index-test.false, c.loop-index.auto.index-end) in
    subst (AreLinkedPuts c.loop-index.heads c.loop-index.links (changes_told c.args.changes.now)) ended c.loop-index.invariant.linked
