use Rattle.std.proofs.Common.{◌≡◌, ℕ, ◌∙◌, ap, arith, sym, inl, inr}
use Rattle.cedar_slots.specs.Blocks.{counts_at, counts_of, kind_of, lists_with}
use Rattle.cedar_slots.proofs.ListsLemmas.BlockMoved.{kinds_differ, kinds_same, leaving, leaving_in, coming_in, popped_absent, BlockLists-stay, BlockLists-moved, ListRings-kept}
use Rattle.cedar_slots.proofs.blocks.Blocks.set_counts_and_list.Goals as goal
use Rattle.cedar_slots.proofs.blocks.Blocks.set_counts_and_list.Goals.{else-block-ne0-via-then-block-ne0+else-ne, else-block-ne0-via-else-block-ne0}
use Rattle.cedar_slots.specs.Views.{blocks_of}

pub pop_block-requires-clause-previous_in : goal.pop_block-requires-clause-previous_in
pop_block-requires-clause-previous_in g c =
    let l = leaving (blocks_of c.args.self.now) (blocks_of c.write_counts.new.self) c.args.block c.requires.lists.0 c.list_of-from.result c.counts.result c.requires.lists.1 (omega arith) c.requires.block_in c.write_counts.ensures.links c.write_counts.ensures.heads c.counts.ensures c.list_of-from.ensures in
    omega (arith, (leaving_in _ _ _ _ _ l).0)

pub pop_block-requires-clause-next_in : goal.pop_block-requires-clause-next_in
pop_block-requires-clause-next_in g c =
    let l = leaving (blocks_of c.args.self.now) (blocks_of c.write_counts.new.self) c.args.block c.requires.lists.0 c.list_of-from.result c.counts.result c.requires.lists.1 (omega arith) c.requires.block_in c.write_counts.ensures.links c.write_counts.ensures.heads c.counts.ensures c.list_of-from.ensures in
    omega (arith, (leaving_in _ _ _ _ _ l).1)

pub push_block-requires-clause-head_in : goal.push_block-requires-clause-head_in
push_block-requires-clause-head_in g c =
    let l = leaving (blocks_of c.args.self.now) (blocks_of c.write_counts.new.self) c.args.block c.requires.lists.0 c.list_of-from.result c.counts.result c.requires.lists.1 (omega arith) c.requires.block_in c.write_counts.ensures.links c.write_counts.ensures.heads c.counts.ensures c.list_of-from.ensures in
    let p = c.pop_block.ensures.popped c.requires.lists.0 l.rings l.inside in
    omega (arith, (coming_in _ _ (blocks_of c.pop_block.new.self) _ _ _ c.list_of-to.result l p).0)

pub push_block-requires-clause-last_in : goal.push_block-requires-clause-last_in
push_block-requires-clause-last_in g c =
    let l = leaving (blocks_of c.args.self.now) (blocks_of c.write_counts.new.self) c.args.block c.requires.lists.0 c.list_of-from.result c.counts.result c.requires.lists.1 (omega arith) c.requires.block_in c.write_counts.ensures.links c.write_counts.ensures.heads c.counts.ensures c.list_of-from.ensures in
    let p = c.pop_block.ensures.popped c.requires.lists.0 l.rings l.inside in
    omega (arith, (coming_in _ _ (blocks_of c.pop_block.new.self) _ _ _ c.list_of-to.result l p).1)

pub returns-then-ne : goal.returns-then-ne
returns-then-ne g c =
    let old = (blocks_of c.args.self.now) in
    let new = (blocks_of c.push_block.new.self) in
    let e = c.args.block in
    let lists = c.requires.lists.0 in
    let held = c.requires.lists.1 in
    let from = c.list_of-from.result in
    let to = c.list_of-to.result in
    let l = leaving old (blocks_of c.write_counts.new.self) e lists from c.counts.result held (omega arith) c.requires.block_in c.write_counts.ensures.links c.write_counts.ensures.heads c.counts.ensures c.list_of-from.ensures in
    let p = c.pop_block.ensures.popped lists l.rings l.inside in
    let rings = c.push_block.ensures.pushed (lists_with lists from p.rest) p.rings (popped_absent old (blocks_of c.write_counts.new.self) (blocks_of c.pop_block.new.self) e lists from l p) in
    let max_trial : new.max_trial ≡ old.max_trial = c.push_block.ensures.max_trial ∙ c.pop_block.ensures.max_trial ∙ c.write_counts.ensures.max_trial in
    let active : new.active ≡ old.active = c.push_block.ensures.active ∙ c.pop_block.ensures.active ∙ c.write_counts.ensures.active in
    let made : counts_at new.records e ≡ c.args.counts = c.push_block.ensures.counts e ∙ c.pop_block.ensures.counts e ∙ c.write_counts.ensures.made in
    let now : kind_of new.max_trial (counts_at new.records e) ≡ to = ap (λ z. kind_of z (counts_at new.records e)) max_trial ∙ ap (kind_of old.max_trial) made ∙ sym c.list_of-to.ensures in
    let others : (b : ℕ) → (b ≡ e → ⊥) → counts_at new.records b ≡ counts_at old.records b = λ b other. c.push_block.ensures.counts b ∙ c.pop_block.ensures.counts b ∙ ap counts_of (c.write_counts.ensures.others b other) in
    let moved = BlockLists-moved old new e lists held active max_trial others from to p.rest p.others (kinds_differ from to (sym c.ne.ensures ∙ c.if-ne.true)) (omega arith) c.requires.block_in l.was now rings in
    record {
      lists = (_, moved);
      made = made;
      others = others;
      idle = λ b above. c.push_block.ensures.idle b (omega arith) ∙ c.pop_block.ensures.idle b (omega arith) ∙ c.write_counts.ensures.others b (λ is. absurd (omega arith));
      len = c.push_block.ensures.len ∙ c.pop_block.ensures.len ∙ c.write_counts.ensures.len;
      used = c.push_block.ensures.used ∙ c.pop_block.ensures.used ∙ c.write_counts.ensures.used;
      active = active;
      max_trial = max_trial;
    }

pub returns-else-block-ne0 : goal.returns-else-block-ne0
returns-else-block-ne0 g c =
    let old = (blocks_of c.args.self.now) in
    let new = (blocks_of c.write_counts.new.self) in
    let e = c.args.block in
    let lists = c.requires.lists.0 in
    let held = c.requires.lists.1 in
    let now : kind_of new.max_trial (counts_at new.records e) ≡ c.list_of-to.result = ap (λ z. kind_of z (counts_at new.records e)) c.write_counts.ensures.max_trial ∙ ap (kind_of old.max_trial) c.write_counts.ensures.made ∙ sym c.list_of-to.ensures in
    let was : c.list_of-from.result ≡ kind_of old.max_trial (counts_at old.records e) = c.list_of-from.ensures ∙ ap (kind_of old.max_trial) c.counts.ensures in
    let w = c.write_counts.ensures in
    let others : (b : ℕ) → (b ≡ e → ⊥) → counts_at new.records b ≡ counts_at old.records b = λ b other. ap counts_of (w.others b other) in
    let stay = BlockLists-stay old new e lists held w.active w.max_trial others (ListRings-kept old new lists w.links w.heads held.rings)
    (elim c.else-block-ne0.branch [
      | else-block-ne0-via-then-block-ne0+else-ne w ↦ inr (now ∙ sym (kinds_same c.list_of-from.result c.list_of-to.result (sym w.ne.ensures ∙ w.if-ne.false)) ∙ was)
      | else-block-ne0-via-else-block-ne0 w ↦ inl (omega arith)
    ]) in
    record {
      lists = (lists, stay);
      made = w.made;
      others = others;
      idle = λ b above. w.others b (λ is. absurd (omega arith));
      len = w.len;
      used = w.used;
      active = w.active;
      max_trial = w.max_trial;
    }

pub counts-requires : goal.counts-requires
counts-requires g c = omega (arith, c.requires.block_in, c.args.self.now.ready)

pub write_counts-requires : goal.write_counts-requires
write_counts-requires g c = omega (arith, c.requires.block_in, c.args.self.now.ready)
