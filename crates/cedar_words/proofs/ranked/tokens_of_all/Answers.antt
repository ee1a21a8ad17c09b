use Rattle.std.proofs.Common.{◌≡◌, ◌∙◌, ◌+◌, ◌-◌, ◌<◌, ◌++◌, ◌∷◌, [], List, ap, arith, length, map, subst, sym, ℕ}
use Rattle.std.specs.List.{range_with_len}
use Rattle.cedar_words.specs.Ranked.{lists_of, way_along}
use Rattle.cedar_words.specs.declared.ranked.Way.{Way}
use Rattle.cedar_words.proofs.TableLemmas.{each_push, list_at, lists_push}
use Rattle.cedar_words.proofs.ranked.tokens_of_all.Goals as goal

pub tokens_of_way-requires-clause-rank : goal.tokens_of_way-requires-clause-rank
tokens_of_way-requires-clause-rank g c =
    let table = c.args.table.now in
    let end = length table - 1 in
    let some = c.requires.some in
    let low : end < length table = omega (arith, some) in
    let is = c.deref-ways.ensures.value ∙ ap (λ v. v.items) c.index-table-end.is ∙ sym (list_at table end c.index-table-end.result low) in
    subst (λ (ws : List Way). c.loop-rank.rank < length ws) is (omega arith)

pub loop-rank-preserved : goal.loop-rank-preserved
loop-rank-preserved g c =
    let table = lists_of c.args.table.now in
    let end = length c.args.table.now - 1 in
    let along = way_along table 0 0 end in
    let rank = c.loop-rank.rank in
    let cuts = c.loop-rank.cuts.items in
    let first : rank ≡ 0 + rank = omega arith in
    ap lists_of c.in_ok-push.ensures.items
    ∙ lists_push cuts c.in_ok-tokens.tokens
    ∙ ap (λ ts. lists_of cuts ++ ts ∷ []) c.in_ok-tokens.ensures
    ∙ ap (λ ts. ts ++ along rank ∷ []) c.loop-rank.invariant
    ∙ ap (λ (k : ℕ). map along (range_with_len 0 rank) ++ along k ∷ []) first
    ∙ sym (each_push along 0 rank)

pub returns : goal.returns
returns g c =
    let table = c.args.table.now in
    let end = length table - 1 in
    let some = c.requires.some in
    let low : end < length table = omega (arith, some) in
    let is = c.deref-ways.ensures.value ∙ ap (λ v. v.items) c.index-table-end.is ∙ sym (list_at table end c.index-table-end.result low) in
    let all : c.loop-rank.rank ≡ length c.deref-ways.result.now = omega arith in
    c.loop-rank.invariant ∙ ap (λ n. map (way_along (lists_of table) 0 0 end) (range_with_len 0 n)) (all ∙ ap length is)
