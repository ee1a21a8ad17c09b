use Rattle.std.proofs.lemmas.Grind.{common_steps}
use Rattle.std.proofs.Common.{◌≡◌, ◌∙◌, ◌+◌, ◌-◌, ◌<◌, ◌≤◌, ◌++◌, ◌∷◌, [], ap, arith, length, slice_index_or, subst, sym}
use Rattle.std.proofs.lemmas.List.{append_assoc}
use Rattle.cedar_words.specs.Ranked.{lists_of, way_along, way_at}
use Rattle.cedar_words.specs.declared.ranked.Way.{Way}
use Rattle.cedar_words.proofs.RankedLemmas.{along_next}
use Rattle.cedar_words.proofs.TableLemmas.{lists_length}
use Rattle.cedar_words.proofs.ranked.tokens_of_way.Goals as goal

pub loop-left-preserved : goal.loop-left-preserved
loop-left-preserved g c =
    let table = lists_of c.args.table.now in
    let left = c.loop-left.left in
    let rank = c.loop-left.rank in
    let place = c.loop-left.place in
    let tokens = c.loop-left.tokens.items in
    let many = lists_length c.args.table.now in
    let some : 0 < left = omega arith in
    let within : place + left ≡ length c.args.table.now - 1 = c.loop-left.invariant.0 in
    let all = c.requires.some in
    let low : left < length table = omega (arith, many, within, all, some) in
    let closed = c.requires.closed left rank some low c.loop-left.invariant.1 in
    let way = c.way_at-way.result in
    let is : way_at table left rank ≡ way = sym c.way_at-way.ensures in
    let go : 0 < way.len = subst (λ (w : Way). 0 < w.len) is closed.0 in
    let inside : way.len ≤ left = subst (λ (w : Way). w.len ≤ left) is closed.1 in
    let later = way_along table 0 (place + way.len) (left - way.len) way.rank in (
      omega (arith, within, go, inside),
      subst (λ (w : Way). w.rank < length (slice_index_or table (left - w.len) [])) is closed.2,
      ap (λ ts. ts ++ later) c.in_ok-push.ensures.items
          ∙ append_assoc tokens ((place, way.len, way.value) ∷ []) later
          ∙ ap (λ ts. tokens ++ ts) (sym (along_next table place left rank way some is go))
          ∙ c.loop-left.invariant.2,
    )

pub loop-left-smaller : goal.loop-left-smaller
loop-left-smaller g c = grind (arith, common_steps)

pub overflow_add-place : goal.overflow_add-place
overflow_add-place g c = grind (arith, common_steps)
