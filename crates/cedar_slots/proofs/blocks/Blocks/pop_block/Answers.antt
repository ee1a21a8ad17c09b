use Rattle.std.proofs.Common.{ap, arith, sym, ◌∙◌}
use Rattle.std.proofs.lemmas.Int.{ints}
use Rattle.cedar_slots.proofs.ListsLemmas.ThreeLists.{Popped-alone, Popped-linked}
use Rattle.cedar_slots.specs.Blocks.{block_at}
use Rattle.cedar_slots.proofs.blocks.Blocks.pop_block.Goals as goal
use Rattle.cedar_slots.specs.Views.{blocks_of}

pub returns-then-next-block-clause-popped : goal.returns-then-next-block-clause-popped
returns-then-next-block-clause-popped g c lists rings inside =
    Popped-alone (blocks_of c.args.self.now) (blocks_of c.set_head.new.self) c.args.list c.args.block lists rings inside (sym c.next-next.ensures ∙ c.if-next-block.true) (cc) c.set_head.ensures.made c.set_head.ensures.others

pub returns-then-head-block-clause-popped : goal.returns-then-head-block-clause-popped
returns-then-head-block-clause-popped g c lists rings inside =
    Popped-linked (blocks_of c.args.self.now) (blocks_of c.set_head-then-head-block.new.self) c.args.list c.args.block lists rings inside c.previous-previous.result c.next-next.result c.previous-previous.ensures c.next-next.ensures c.if-next-block.false (omega arith) (omega arith) (cc) (λ _. c.set_head-then-head-block.ensures.made) (λ other. absurd (other (omega (arith, ints)))) (λ j other. c.set_head-then-head-block.ensures.others j other ∙ c.link.ensures.heads j)

pub returns-else-head-block-clause-popped : goal.returns-else-head-block-clause-popped
returns-else-head-block-clause-popped g c lists rings inside =
    Popped-linked (blocks_of c.args.self.now) (blocks_of c.link.new.self) c.args.list c.args.block lists rings inside c.previous-previous.result c.next-next.result c.previous-previous.ensures c.next-next.ensures c.if-next-block.false (omega arith) (omega arith) c.link.ensures.records (λ same. absurd (c.if-head-block.false (omega (arith, ints)))) (λ _. c.link.ensures.heads c.args.list) (λ j _. c.link.ensures.heads j)

pub returns-then-head-block-clause-idle : goal.returns-then-head-block-clause-idle
returns-then-head-block-clause-idle g c b above =
    ap (λ v. block_at v.items b) c.set_head-then-head-block.ensures.records ∙ c.link.ensures.others b (λ same. absurd (omega arith)) (λ same. absurd (omega arith))

pub returns-else-head-block-clause-idle : goal.returns-else-head-block-clause-idle
returns-else-head-block-clause-idle g c b above = c.link.ensures.others b (λ same. absurd (omega arith)) (λ same. absurd (omega arith))

pub returns-then-next-block-clause-idle : goal.returns-then-next-block-clause-idle
returns-then-next-block-clause-idle g c b above = ap (λ v. block_at v.items b) c.set_head.ensures.records

pub previous-previous-requires : goal.previous-previous-requires
previous-previous-requires g c = omega (arith, c.requires.block_in, c.args.self.now.ready)

pub next-next-requires : goal.next-next-requires
next-next-requires g c = omega (arith, c.requires.block_in, c.args.self.now.ready)

pub link-requires-clause-from_in : goal.link-requires-clause-from_in
link-requires-clause-from_in g c = omega (arith, c.previous-previous.ensures, c.requires.previous_in, c.args.self.now.ready)

pub link-requires-clause-to_in : goal.link-requires-clause-to_in
link-requires-clause-to_in g c = omega (arith, c.next-next.ensures, c.requires.next_in, c.args.self.now.ready)
