use Rattle.std.proofs.Common.{◌≡◌, ◌<◌, ◌+◌, ◌-◌, ◌∙◌, ap, arith, drop, false, get_or, length, sym}
use Rattle.cedar_store.specs.Batches.{change_at, is_put_by, puts}
use Rattle.cedar_store.specs.Links.{last_put, key_place}
use Rattle.cedar_store.specs.Told.{change_told, changes_told}
use Rattle.cedar_store.proofs.Late.{none_behind, none_from, one_less, put_from}
use Rattle.cedar_store.proofs.Linked.{comes_to, last_is_low, place_is_inside}
use Rattle.cedar_store.proofs.Withdrawn.{as_many, blank, told_at}
use Rattle.cedar_store.proofs.last_puts.is_linked.Goals as goal

pub loop-at-init : goal.loop-at-init
loop-at-init c =
    let cs = changes_told c.args.changes.now in
    let n = length c.args.changes.now in
    let many = as_many c.args.changes.now in
    let heads = c.args.heads.now in
    let places = length heads in
    let key = c.args.key.now in
    let place = key_place places key in
    let is : get_or heads c.place_of.result 0 ≡ last_put places place cs n =
    ap (λ p. get_or heads p 0) c.place_of.ensures.is ∙ c.requires.linked.last place (place_is_inside places key c.requires.some) in
    let low = last_is_low places place cs n in
    record {
      within = omega (arith, is, low);
      come = comes_to places key cs _ n is (omega (arith, many)) (none_behind key cs n (omega (arith, many)));
    }

pub loop-at-smaller : goal.loop-at-smaller
loop-at-smaller c =
    let cs = changes_told c.args.changes.now in
    let heads = c.args.heads.now in
    let places = length heads in
    let place = key_place places c.args.key.now in
    let last = c.loop-at.at - 1 in
    let before = c.loop-at.invariant in
    let some = c.loop-at-test.true in
    let is : get_or c.args.links.now last 0 ≡ last_put places place cs last =
    c.requires.linked.before last place (omega (arith, before.within, some)) (before.come.in_place (omega (arith, some))) in
    let low = last_is_low places place cs last in
    omega (arith, is, low, some)

pub loop-at-preserved : goal.loop-at-preserved
loop-at-preserved c =
    let cs = changes_told c.args.changes.now in
    let many = as_many c.args.changes.now in
    let heads = c.args.heads.now in
    let places = length heads in
    let key = c.args.key.now in
    let place = key_place places key in
    let last = c.loop-at.at - 1 in
    let before = c.loop-at.invariant in
    let some = c.loop-at-test.true in
    let inside : last < length c.args.changes.now = omega (arith, before.within, some) in
    let within : last < length cs = omega (arith, many, inside) in
    let there : change_at cs last ≡ change_told (get_or c.args.changes.now last blank) = told_at c.args.changes.now last inside in
    let is : get_or c.args.links.now last 0 ≡ last_put places place cs last =
    c.requires.linked.before last place inside (before.come.in_place (omega (arith, some))) in
    let low = last_is_low places place cs last in
    let next : c.loop-at.at ≡ last + 1 = omega (arith, some) in
    let behind : is_put_by key (drop (last + 1) cs) ≡ false = ap (λ k. is_put_by key (drop k cs)) (sym next) ∙ before.come.none_behind in
    record {
      within = omega (arith, is, low, inside);
      come = comes_to places key cs _ last is (omega (arith, within)) (one_less key cs last within (ap (puts key) there ∙ sym c.if-puts.ensures) behind);
    }

pub returns-then-puts : goal.returns-then-puts
returns-then-puts c =
    let cs = changes_told c.args.changes.now in
    let many = as_many c.args.changes.now in
    let key = c.args.key.now in
    let last = c.loop-at.at - 1 in
    let some = c.loop-at-test.true in
    let inside : last < length c.args.changes.now = omega (arith, c.loop-at.invariant.within, some) in
    let there : change_at cs last ≡ change_told (get_or c.args.changes.now last blank) = told_at c.args.changes.now last inside in
    sym (put_from key cs c.args.next last (omega (arith, some)) (omega (arith, many, inside)) (ap (puts key) there ∙ sym c.if-puts.ensures))

pub returns : goal.returns
returns c =
    let cs = changes_told c.args.changes.now in
    sym (none_from c.args.key.now cs c.loop-at.at c.args.next c.loop-at.invariant.come.none_behind (omega (arith, c.loop-at-test.false)))
