use Rattle.std.proofs.Common.{rules, ◌≡◌, ◌∙◌, ap, arith, sym, inr}
use Rattle.std.proofs.lemmas.Int.{ints}
use Rattle.cedar_slots.specs.Blocks.{counts_at, counts_of, kind_of}
use Rattle.cedar_slots.specs.Views.{blocks_of}
use Rattle.cedar_slots.proofs.ListsLemmas.BlockMoved.{BlockLists-stay, ListRings-kept}
use Rattle.cedar_slots.proofs.ListsLemmas.LinkedBlocks.{kind_of_open}
use Rattle.cedar_slots.proofs.blocks.Blocks.add_counts.Goals as goal

pub write_counts-requires : goal.write_counts-requires
write_counts-requires g c = omega (arith, c.requires.block_in, c.args.self.now.ready)

pub returns-else-old-limit : goal.returns-else-old-limit
returns-else-old-limit g c =
    let old = (blocks_of c.args.self.now) in
    let new = (blocks_of c.write_counts.new.self) in
    let e = c.args.block in
    let lists = c.requires.lists.0 in
    let w = c.write_counts.ensures in
    let was_open = kind_of_open old.max_trial c.args.old (λ h. omega (arith, ints, h)) (λ h. omega (arith, ints, h)) (λ h. omega (arith, ints, h)) in
    let now_open = kind_of_open old.max_trial c.args.counts (λ h. omega (arith, ints, h, c.requires.more)) (λ h. omega (arith, ints, h, c.requires.more)) (λ h. omega (arith, ints, h, c.requires.anew, c.requires.tried)) in
    let same : kind_of new.max_trial (counts_at new.records e) ≡ kind_of old.max_trial (counts_at old.records e) =
    ap (λ z. kind_of z (counts_at new.records e)) w.max_trial ∙ ap (kind_of old.max_trial) w.made ∙ now_open ∙ sym was_open ∙ ap (kind_of old.max_trial) c.requires.was in
    let stay = BlockLists-stay old new e lists c.requires.lists.1 w.active w.max_trial (λ b other. ap counts_of (w.others b other)) (ListRings-kept old new lists w.links w.heads c.requires.lists.1.rings) (inr same) in
    record {
      lists = (lists, stay);
      made = w.made;
      others = λ b other. ap counts_of (w.others b other);
      idle = λ b above. w.others b (λ is. absurd (omega arith));
      len = w.len;
      used = w.used;
      active = w.active;
      max_trial = w.max_trial;
    }

pub returns-then-old-limit : goal.returns-then-old-limit
returns-then-old-limit g c =
    let e = c.set_each_count.ensures in
    record { lists = e.lists; made = search rules; others = e.others; idle = e.idle; len = e.len; used = e.used; active = e.active; max_trial = e.max_trial }
