use Rattle.std.proofs.Common.{◌≡◌, ◌<◌, ◌≤ℤ◌, ◌∙◌, ap, arith, eqb, pos, ℕ, ℤ}
use Rattle.std.proofs.lemmas.Bool.{cond-false, ne_eqb}
use Rattle.std.proofs.lemmas.Int.{ints}
use Rattle.cedar_slots.proofs.PlacementLemmas.PlaceSearch.{first_fits, head_start, next_start, start_block, start_positive}
use Rattle.cedar_slots.proofs.RingsLemmas.LinkedSlots.{free_link}
use Rattle.cedar_slots.proofs.RingsLemmas.SlotTaken.{head_natural}
use Rattle.cedar_slots.proofs.places.Places.start_in.Goals as goal
use Rattle.cedar_slots.specs.Views.{places_of}

not_none : (z : ℤ) (n : ℕ) → z ≡ pos n → n ≡ 0 → pos 1 ≤ℤ z → ⊥
not_none z n is zero_n h = let zero_z : z ≡ pos 0 = is ∙ ap pos zero_n in omega (arith, ints)

pub loop-init : goal.loop-init
loop-init g c =
    let some : pos 1 ≤ℤ c.counts-counts.result.num = omega (arith, ints) in
    head_start (places_of c.args.self.now) c.requires.sound c.args.block c.requires.not_root c.requires.block_in c.counts-counts.result c.counts-counts.ensures some c.head-head.result c.head-head.ensures

pub fits-requires-clause-base_in : goal.fits-requires-clause-base_in
fits-requires-clause-base_in g c =
    let small : c.from-first.result < 256 = omega (arith, c.type_inv.labels 0) in
    omega (arith, start_block c.args.block c.loop.slot c.from-first.result c.loop.invariant.here small, c.requires.block_in, c.args.self.now.blocks.ready, c.args.self.now.nodes_ready)

pub fits-requires-clause-not_root : goal.fits-requires-clause-not_root
fits-requires-clause-not_root g c =
    let small : c.from-first.result < 256 = omega (arith, c.type_inv.labels 0) in
    start_positive c.args.block c.loop.slot c.from-first.result c.requires.not_root c.loop.invariant.here small

pub returns-then-fits : goal.returns-then-fits
returns-then-fits g c = record {
  free = c.loop.invariant.free;
  here = c.loop.invariant.here;
  fits = first_fits c.args.self.now.slots.nodes.items c.loop.slot c.from-first.result c.args.labels.now c.split_at.result.1.now c.from-first.ensures c.split_at.ensures.back c.loop.invariant.free (c.fits.ensures.fits c.if-fits.true);
}

pub next_free-slot-requires-clause-slot_in : goal.next_free-slot-requires-clause-slot_in
next_free-slot-requires-clause-slot_in g c = omega (arith, c.loop.invariant.here, c.requires.block_in, c.args.self.now.blocks.ready, c.args.self.now.nodes_ready)

pub loop-preserved : goal.loop-preserved
loop-preserved g c = next_start (places_of c.args.self.now) c.requires.sound c.args.block c.loop.slot c.next_free-slot.result c.requires.block_in c.loop.invariant c.next_free-slot.ensures

pub counts-counts-requires : goal.counts-counts-requires
counts-counts-requires g c = omega (arith, c.requires.block_in, c.args.self.now.blocks.ready)

pub fits-requires-clause-fits : goal.fits-requires-clause-fits
fits-requires-clause-fits g c = omega (arith, c.args.self.now.nodes_ready, c.args.self.now.blocks.within, c.requires.sound.shaped.blocks.fits)

pub next_free-slot-requires-clause-is_link : goal.next_free-slot-requires-clause-is_link
next_free-slot-requires-clause-is_link g c = free_link c.args.self.now.slots.nodes.items c.loop.slot c.loop.invariant.free

pub head-head-requires : goal.head-head-requires
head-head-requires g c =
    let some : pos 1 ≤ℤ c.counts-counts.result.num = omega (arith, ints) in
    head_natural (places_of c.args.self.now) c.requires.sound c.args.block c.requires.block_in c.counts-counts.result c.counts-counts.ensures (λ none. not_none c.counts-counts.result.num _ none (cond-false {A = ℕ} (eqb c.args.block 0) 1 0 (ne_eqb c.args.block 0 (λ e. absurd (omega (arith, e, c.requires.not_root))))) some)
