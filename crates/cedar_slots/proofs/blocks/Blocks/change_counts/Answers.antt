use Rattle.std.proofs.Common.{rules, ◌≡◌, ◌∙◌, ap, arith, inr, of_z, subst, to_z, w32}
use Rattle.std.proofs.lemmas.Int.{ints}
use Rattle.cedar_slots.specs.Blocks.{counts_at, counts_of, kind_of}
use Rattle.cedar_slots.specs.Views.{blocks_of}
use Rattle.cedar_slots.proofs.ListsLemmas.BlockMoved.{BlockLists-stay, ListRings-kept}
use Rattle.cedar_slots.proofs.blocks.Blocks.change_counts.Goals as goal

pub returns-then-keeps_list : goal.returns-then-keeps_list
returns-then-keeps_list g c =
    let old = (blocks_of c.args.self.now) in
    let new = (blocks_of c.write_counts.new.self) in
    let e = c.args.block in
    let lists = c.requires.lists.0 in
    let w = c.write_counts.ensures in
    let stands : to_z w32 (of_z w32 old.max_trial) ≡ old.max_trial = omega (arith, ints) in
    let same : kind_of new.max_trial (counts_at new.records e) ≡ kind_of old.max_trial (counts_at old.records e) =
    ap (λ z. kind_of z (counts_at new.records e)) w.max_trial ∙ ap (kind_of old.max_trial) w.made ∙ subst (λ z. kind_of z c.args.counts ≡ kind_of z c.args.old) stands (c.keeps_list.ensures c.if-keeps_list.true) ∙ ap (kind_of old.max_trial) c.requires.was in
    let stay = BlockLists-stay old new e lists c.requires.lists.1 w.active w.max_trial (λ b other. ap counts_of (w.others b other)) (ListRings-kept old new lists w.links w.heads c.requires.lists.1.rings) (inr same) in
    record {
      lists = (lists, stay);
      made = w.made;
      others = λ b other. ap counts_of (w.others b other);
      idle = λ b above. w.others b (λ is. absurd (omega arith));
      len = w.len;
      used = w.used;
      active = w.active;
      max_trial = w.max_trial;
    }

pub write_counts-requires : goal.write_counts-requires
write_counts-requires g c = omega (arith, c.requires.block_in, c.args.self.now.ready)

pub returns-else-keeps_list : goal.returns-else-keeps_list
returns-else-keeps_list g c =
    let e = c.set_each_count.ensures in
    record { lists = e.lists; made = search rules; others = e.others; idle = e.idle; len = e.len; used = e.used; active = e.active; max_trial = e.max_trial }
