use Rattle.cedar_words.proofs.MarkLemmas.{byte_at, cast_is, key_at}
use Rattle.cedar_words.proofs.costs.token_at.Goals as goal

pub returns-then-mark-eq0-clause-len : goal.returns-then-mark-eq0-clause-len
returns-then-mark-eq0-clause-len g c = (byte_at (g.T.FirstStep.tree c.args.trie.now) (g.P.BytePrice.price_at c.args.unknown.now c.args.text.now) c.args.text.now c.args.costs.now c.args.marks.now c.args.place c.requires.some c.requires.costs c.requires.marks c.if-mark-eq0.true).0

pub returns-then-mark-eq0-clause-value : goal.returns-then-mark-eq0-clause-value
returns-then-mark-eq0-clause-value g c = (byte_at (g.T.FirstStep.tree c.args.trie.now) (g.P.BytePrice.price_at c.args.unknown.now c.args.text.now) c.args.text.now c.args.costs.now c.args.marks.now c.args.place c.requires.some c.requires.costs c.requires.marks c.if-mark-eq0.true).1

pub overflow_sub-value : goal.overflow_sub-value
overflow_sub-value g c = (key_at (g.T.FirstStep.tree c.args.trie.now) (g.P.BytePrice.price_at c.args.unknown.now c.args.text.now) c.args.text.now c.args.costs.now c.args.marks.now c.args.place c.from-len.result c.requires.some c.requires.costs c.requires.marks c.from-len.ensures c.if-mark-eq0.false c.if-mark-lt255.true).within

pub overflow_sub-value-then-costs-left-lt18446744073709551615 : goal.overflow_sub-value-then-costs-left-lt18446744073709551615
overflow_sub-value-then-costs-left-lt18446744073709551615 g c = (key_at (g.T.FirstStep.tree c.args.trie.now) (g.P.BytePrice.price_at c.args.unknown.now c.args.text.now) c.args.text.now c.args.costs.now c.args.marks.now c.args.place c.from-len.result c.requires.some c.requires.costs c.requires.marks c.from-len.ensures c.if-mark-eq0.false c.if-mark-lt255.true).less c.if-costs-left-lt18446744073709551615.true

pub overflow_cast-result : goal.overflow_cast-result
overflow_cast-result g c = record { sfits = (key_at (g.T.FirstStep.tree c.args.trie.now) (g.P.BytePrice.price_at c.args.unknown.now c.args.text.now) c.args.text.now c.args.costs.now c.args.marks.now c.args.place c.from-len.result c.requires.some c.requires.costs c.requires.marks c.from-len.ensures c.if-mark-eq0.false c.if-mark-lt255.true).small c.if-costs-left-lt18446744073709551615.true }

pub returns-then-costs-left-lt18446744073709551615-clause-within : goal.returns-then-costs-left-lt18446744073709551615-clause-within
returns-then-costs-left-lt18446744073709551615-clause-within g c = (key_at (g.T.FirstStep.tree c.args.trie.now) (g.P.BytePrice.price_at c.args.unknown.now c.args.text.now) c.args.text.now c.args.costs.now c.args.marks.now c.args.place c.from-len.result c.requires.some c.requires.costs c.requires.marks c.from-len.ensures c.if-mark-eq0.false c.if-mark-lt255.true).within

pub returns-then-costs-left-lt18446744073709551615-clause-value : goal.returns-then-costs-left-lt18446744073709551615-clause-value
returns-then-costs-left-lt18446744073709551615-clause-value g c = let told = key_at (g.T.FirstStep.tree c.args.trie.now) (g.P.BytePrice.price_at c.args.unknown.now c.args.text.now) c.args.text.now c.args.costs.now c.args.marks.now c.args.place c.from-len.result c.requires.some c.requires.costs c.requires.marks c.from-len.ensures c.if-mark-eq0.false c.if-mark-lt255.true in cast_is _ _ (told.small c.if-costs-left-lt18446744073709551615.true) (told.number c.if-costs-left-lt18446744073709551615.true)
