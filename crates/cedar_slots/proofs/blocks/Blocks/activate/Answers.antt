use Rattle.std.proofs.Common.{◌≡◌, ◌∷◌, ◌∙◌, ap, arith}
use Rattle.cedar_slots.specs.declared.blocks.BlockType.TheVariants.{Open}
use Rattle.cedar_slots.specs.Blocks.{counts_at, counts_of, fresh_counts, kind_of, lists_with}
use Rattle.cedar_slots.proofs.ListsLemmas.BlockMoved.{absent_active, activated_in, BlockLists-activated, fresh_open, ListRings-kept}
use Rattle.cedar_slots.proofs.blocks.Blocks.activate.Goals as goal
use Rattle.cedar_slots.specs.Views.{blocks_of}

pub push_block-requires-clause-head_in : goal.push_block-requires-clause-head_in
push_block-requires-clause-head_in g c =
    let old = (blocks_of c.args.self.now) in
    let mid = (blocks_of c.write_counts.new.self) in
    let rings = ListRings-kept old mid c.requires.lists.0 c.write_counts.ensures.links c.write_counts.ensures.heads c.requires.lists.1.rings in
    omega (arith, (activated_in old mid mid c.requires.lists.0 c.requires.sized.some c.requires.lists.1 rings Open).0)

pub push_block-requires-clause-last_in : goal.push_block-requires-clause-last_in
push_block-requires-clause-last_in g c =
    let old = (blocks_of c.args.self.now) in
    let mid = (blocks_of c.write_counts.new.self) in
    let rings = ListRings-kept old mid c.requires.lists.0 c.write_counts.ensures.links c.write_counts.ensures.heads c.requires.lists.1.rings in
    omega (arith, (activated_in old mid mid c.requires.lists.0 c.requires.sized.some c.requires.lists.1 rings Open).1)

pub returns-clause-lists : goal.returns-clause-lists
returns-clause-lists g c =
    let old = (blocks_of c.args.self.now) in
    let mid = (blocks_of c.write_counts.new.self) in
    let new = (blocks_of c.push_block.new.self) in
    let lists = c.requires.lists.0 in
    let held = c.requires.lists.1 in
    let rings = ListRings-kept old mid lists c.write_counts.ensures.links c.write_counts.ensures.heads held.rings in
    let max_trial : new.max_trial ≡ old.max_trial = c.push_block.ensures.max_trial ∙ c.write_counts.ensures.max_trial in
    let made : counts_at new.records old.active ≡ fresh_counts old.active = c.push_block.ensures.counts old.active ∙ c.write_counts.ensures.made ∙ c.fresh.ensures in (
      lists_with lists Open (old.active ∷ lists Open),
      BlockLists-activated old mid new lists c.requires.sized.some held (c.push_block.ensures.active ∙ c.write_counts.ensures.active) max_trial
          (λ b other. c.push_block.ensures.counts b ∙ ap counts_of (c.write_counts.ensures.others b other))
          (ap (kind_of new.max_trial) made ∙ ap (λ z. kind_of z (fresh_counts old.active)) max_trial ∙ fresh_open old.max_trial old.active c.requires.tried)
          (c.push_block.ensures.pushed lists rings (absent_active old mid new lists c.requires.sized.some held)),
    )
