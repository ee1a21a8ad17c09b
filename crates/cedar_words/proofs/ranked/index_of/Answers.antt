use Rattle.std.proofs.Common.{◌≡◌, ◌∙◌, ◌∷◌, ◌++◌, ap, arith, drop, length, subst, sym, take}
use Rattle.cedar_words.specs.Ranked.{insert_way}
use Rattle.cedar_words.proofs.TableLemmas.{insert_before, insert_end, insert_later}
use Rattle.cedar_words.proofs.ranked.index_of.Goals as goal

pub loop-index-preserved : goal.loop-index-preserved
loop-index-preserved c = c.loop-index.invariant ∙ insert_later c.args.way c.args.ways.now c.loop-index.index _ (omega arith) (sym c.comes_before.ensures ∙ c.if-comes_before.false)

pub returns-then-comes_before-clause-splits : goal.returns-then-comes_before-clause-splits
returns-then-comes_before-clause-splits c =
    c.loop-index.invariant ∙ ap (λ l. take c.loop-index.index c.args.ways.now ++ l) (insert_before c.args.way c.args.ways.now c.loop-index.index _ (omega arith) (sym c.comes_before.ensures ∙ c.if-comes_before.true))

pub returns-clause-splits : goal.returns-clause-splits
returns-clause-splits c =
    let ways = c.args.ways.now in
    let way = c.args.way in
    let all : c.loop-index.index ≡ length ways = omega arith in
    subst (λ n. insert_way way ways ≡ take n ways ++ way ∷ drop n ways) all
    (c.loop-index.invariant ∙ ap (λ l. take c.loop-index.index ways ++ l) (insert_end way ways c.loop-index.index (omega arith)))
