use Rattle.std.proofs.Common.{◌∙◌, ap, arith, rules, subst, sym, w16, w32}
use Rattle.std.proofs.lemmas.Int.{ints, to_z-of_z}
use Rattle.cedar_slots.proofs.ListsLemmas.LinkedBlocks.{linked_blocks_is, block-linked_other, KeepsCounts-linked_blocks}
use Rattle.cedar_slots.specs.Blocks.{block_at, KeepsCounts}
use Rattle.cedar_slots.proofs.blocks.Blocks.link.Goals as goal

pub returns-clause-records : goal.returns-clause-records
returns-clause-records g c =
    let within = c.args.self.now.within in
    linked_blocks_is c.args.self.now.records.items _ _ c.args.from c.args.to c.at-record.result c.at-record-2.result _ _ c.set.ensures.items c.set-2.ensures.items (omega (arith, within)) (omega (arith, within))
    (c.at-record.ensures _) (to_z-of_z w32 _ (search rules)) (omega (arith, ints)) (record { num = to_z-of_z w16 _ (search rules); reject = to_z-of_z w16 _ (search rules); trial = to_z-of_z w32 _ (search rules); e_head = to_z-of_z w32 _ (search rules) })
    (c.at-record-2.ensures _) (omega (arith, ints)) (to_z-of_z w32 _ (search rules)) (record { num = to_z-of_z w16 _ (search rules); reject = to_z-of_z w16 _ (search rules); trial = to_z-of_z w32 _ (search rules); e_head = to_z-of_z w32 _ (search rules) })

pub returns-clause-counts : goal.returns-clause-counts
returns-clause-counts g c =
    let within = c.args.self.now.within in
    subst (KeepsCounts c.args.self.now.records.items) (sym (returns-clause-records g c)) (KeepsCounts-linked_blocks c.args.self.now.records.items c.args.from c.args.to (omega (arith, within)) (omega (arith, within)))

pub returns-clause-others : goal.returns-clause-others
returns-clause-others g c b p q =
    ap (λ rs. block_at rs b) (returns-clause-records g c) ∙ block-linked_other c.args.self.now.records.items c.args.from c.args.to b p q
