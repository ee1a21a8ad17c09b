use Rattle.std.proofs.Common.{◌≡◌, not, false, true, arith, sym, refl, ap, unsigned_abs, ◌∙◌, inl, inr}
use Rattle.std.proofs.lemmas.Bool.{false≢true}
use denote.Enum.Bare.{sameb}
use Rattle.cedar_slots.specs.contracts.blocks.BlockType.{the_type}
use Rattle.cedar_slots.specs.declared.blocks.BlockType.{BlockType}
use Rattle.cedar_slots.specs.declared.blocks.BlockType.TheVariants.{Open, Closed, Full}
use Rattle.cedar_slots.specs.Blocks.{block_at, linked_blocks, prev_at, head_of}
use Rattle.cedar_slots.proofs.ListsLemmas.ThreeLists.{Pushed-alone, Pushed-linked}
use Rattle.cedar_slots.proofs.blocks.Blocks.push_block.Goals as goal
use Rattle.cedar_slots.proofs.blocks.Blocks.push_block.Goals.{else-head-eq0-via-then-head-eq0+else-ne, else-head-eq0-via-else-head-eq0}
use Rattle.cedar_slots.specs.Views.{blocks_of}

full_is : (list : BlockType) → not (sameb the_type list Full) ≡ false → list ≡ Full
full_is Full h = refl
full_is Open h = absurd (false≢true (sym h))
full_is Closed h = absurd (false≢true (sym h))

not_full : (list : BlockType) → not (sameb the_type list Full) ≡ true → list ≡ Full → ⊥
not_full Full h e = false≢true h
not_full Open h e = cc
not_full Closed h e = cc

pub returns-then-ne-clause-pushed : goal.returns-then-ne-clause-pushed
returns-then-ne-clause-pushed g c lists rings absent =
    let same : c.set_head.new.self.records.items ≡ c.args.self.now.records.items = ap (λ v. v.items) c.set_head.ensures.records in
    Pushed-alone (blocks_of c.args.self.now) (blocks_of c.link.new.self) c.args.list c.args.block lists rings absent (omega arith) (c.link.ensures.heads c.args.list ∙ c.set_head.ensures.made) (λ j other. c.link.ensures.heads j ∙ c.set_head.ensures.others j other) (sym c.first-head.ensures ∙ c.if-head-eq0.true) (not_full c.args.list (sym c.ne.ensures ∙ c.if-ne.true)) (c.link.ensures.records ∙ ap (λ rs. linked_blocks rs c.args.block c.args.block) same)

pub returns-else-head-eq0-clause-pushed : goal.returns-else-head-eq0-clause-pushed
returns-else-head-eq0-clause-pushed g c lists rings absent =
    let same : c.set_head.new.self.records.items ≡ c.args.self.now.records.items = ap (λ v. v.items) c.set_head.ensures.records in
    let last_is : c.previous-last.result ≡ unsigned_abs (prev_at c.args.self.now.records.items (unsigned_abs (head_of (blocks_of c.args.self.now) c.args.list))) = c.previous-last.ensures ∙ ap (λ rs. unsigned_abs (prev_at rs c.first-head.result)) same ∙ ap (λ n. unsigned_abs (prev_at c.args.self.now.records.items n)) c.first-head.ensures in
    Pushed-linked (blocks_of c.args.self.now) (blocks_of c.link-else-head-eq0-2.new.self) c.args.list c.args.block lists rings absent (omega arith)
    (c.link-else-head-eq0-2.ensures.heads c.args.list ∙ c.link-else-head-eq0.ensures.heads c.args.list ∙ c.set_head.ensures.made)
    (λ j other. c.link-else-head-eq0-2.ensures.heads j ∙ c.link-else-head-eq0.ensures.heads j ∙ c.set_head.ensures.others j other)
    c.first-head.result c.previous-last.result c.first-head.ensures (c.previous-last.ensures ∙ ap (λ rs. unsigned_abs (prev_at rs c.first-head.result)) same)
    (elim c.else-head-eq0.branch [
      | else-head-eq0-via-then-head-eq0+else-ne w ↦ inl (full_is c.args.list (sym w.ne.ensures ∙ w.if-ne.false))
      | else-head-eq0-via-else-head-eq0 w ↦ inr w.if-head-eq0.false
    ])
    (omega arith)
    (omega arith)
    (c.link-else-head-eq0-2.ensures.records ∙ ap (λ rs. linked_blocks rs c.args.block c.first-head.result) (c.link-else-head-eq0.ensures.records ∙ ap (λ rs. linked_blocks rs c.previous-last.result c.args.block) same))

pub returns-then-ne-clause-idle : goal.returns-then-ne-clause-idle
returns-then-ne-clause-idle g c b above =
    c.link.ensures.others b (λ same. absurd (omega arith)) (λ same. absurd (omega arith)) ∙ ap (λ v. block_at v.items b) c.set_head.ensures.records

pub returns-else-head-eq0-clause-idle : goal.returns-else-head-eq0-clause-idle
returns-else-head-eq0-clause-idle g c b above =
    let same : c.set_head.new.self.records.items ≡ c.args.self.now.records.items = ap (λ v. v.items) c.set_head.ensures.records in
    let last_is : c.previous-last.result ≡ unsigned_abs (prev_at c.args.self.now.records.items (unsigned_abs (head_of (blocks_of c.args.self.now) c.args.list))) = c.previous-last.ensures ∙ ap (λ rs. unsigned_abs (prev_at rs c.first-head.result)) same ∙ ap (λ n. unsigned_abs (prev_at c.args.self.now.records.items n)) c.first-head.ensures in
    c.link-else-head-eq0-2.ensures.others b (λ is. absurd (omega arith)) (λ is. absurd (omega arith)) ∙ c.link-else-head-eq0.ensures.others b (λ is. absurd (omega arith)) (λ is. absurd (omega arith)) ∙ ap (λ v. block_at v.items b) c.set_head.ensures.records

pub link-requires-clause-from_in : goal.link-requires-clause-from_in
link-requires-clause-from_in g c = omega (arith, c.requires.block_in, c.set_head.ensures.active, c.set_head.new.self.ready)

pub link-requires-clause-to_in : goal.link-requires-clause-to_in
link-requires-clause-to_in g c = omega (arith, c.requires.block_in, c.set_head.ensures.active, c.set_head.new.self.ready)

pub previous-last-requires : goal.previous-last-requires
previous-last-requires g c = omega (arith, c.first-head.ensures, c.requires.head_in, c.set_head.ensures.active, c.set_head.new.self.ready)
