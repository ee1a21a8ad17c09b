use Rattle.std.proofs.Common.{◌+◌, ◌/◌, ◌<◌, arith, refl, subst, sym}
use Rattle.cedar_slots.proofs.PlacementLemmas.PlaceSearch.{head_open, IsOpen-kept, IsBase-kept, IsBase-start, last_open, next_open, next_other, SameSlots-then}
use Rattle.cedar_slots.proofs.PlacementLemmas.Tried.{tries_fewer, tries_none, tries_one_more}
use Rattle.cedar_slots.proofs.places.Places.search.Goals as goal
use Rattle.cedar_slots.specs.Views.{blocks_of, places_of}

pub previous-last-requires : goal.previous-last-requires
previous-last-requires g c =
    let is = head_open (places_of c.args.self.now) c.requires.sound c.first-head.result c.first-head.ensures c.if-head-eq0.false in
    omega (arith, is.is_active, c.args.self.now.blocks.ready)

pub loop-turn-init : goal.loop-turn-init
loop-turn-init g c =
    let is = head_open (places_of c.args.self.now) c.requires.sound c.first-head.result c.first-head.ensures c.if-head-eq0.false in
    record {
      sound = c.requires.sound;
      same = record { slots = refl; active = refl; len = refl; max_trial = refl };
      block_open = is;
      last_open = last_open (places_of c.args.self.now) c.requires.sound c.first-head.result c.previous-last.result is c.previous-last.ensures;
      tried = tries_none 0 (blocks_of c.args.self.now.blocks);
    }

pub start_in-requires-clause-sound : goal.start_in-requires-clause-sound
start_in-requires-clause-sound g c = c.loop-turn.invariant.sound

pub start_in-requires-clause-not_root : goal.start_in-requires-clause-not_root
start_in-requires-clause-not_root g c = c.loop-turn.invariant.block_open.not_root

pub start_in-requires-clause-block_in : goal.start_in-requires-clause-block_in
start_in-requires-clause-block_in g c = c.loop-turn.invariant.block_open.is_active

pub begin_at-requires-clause-sound : goal.begin_at-requires-clause-sound
begin_at-requires-clause-sound g c = c.loop-turn.invariant.sound

pub begin_at-requires-clause-place : goal.begin_at-requires-clause-place
begin_at-requires-clause-place g c = record {
  free = c.in-Some.ensures.free;
  not_root = subst (λ b. 0 < b) (sym c.in-Some.ensures.here) c.loop-turn.invariant.block_open.not_root;
  is_active = subst (λ b. b < c.loop-turn.self.blocks.active) (sym c.in-Some.ensures.here) c.loop-turn.invariant.block_open.is_active;
}

pub returns-in-Some-clause-same : goal.returns-in-Some-clause-same
returns-in-Some-clause-same g c = SameSlots-then (places_of c.args.self.now) (places_of c.loop-turn.self) (places_of c.begin_at.new.self) c.loop-turn.invariant.same c.begin_at.ensures.same

pub returns-in-Some-clause-found : goal.returns-in-Some-clause-found
returns-in-Some-clause-found g c =
    let small : c.from.result < 256 = omega (arith, c.type_inv.labels 0) in
    IsBase-kept (places_of c.loop-turn.self) (places_of c.begin_at.new.self) _ c.args.labels.now c.begin_at.ensures.same
    (IsBase-start (places_of c.loop-turn.self) c.loop-turn.block c.in-Some.slot c.from.result c.args.labels.now c.loop-turn.invariant.block_open.not_root c.loop-turn.invariant.block_open.is_active c.in-Some.ensures c.from.ensures small)

pub next-next-requires : goal.next-next-requires
next-next-requires g c = omega (arith, c.loop-turn.invariant.block_open.is_active, c.loop-turn.self.blocks.ready)

pub count_failure-requires-clause-sound : goal.count_failure-requires-clause-sound
count_failure-requires-clause-sound g c = c.loop-turn.invariant.sound

pub count_failure-requires-clause-open : goal.count_failure-requires-clause-open
count_failure-requires-clause-open g c = c.loop-turn.invariant.block_open

pub returns-then-block-last-clause-same : goal.returns-then-block-last-clause-same
returns-then-block-last-clause-same g c = SameSlots-then (places_of c.args.self.now) (places_of c.loop-turn.self) (places_of c.count_failure.new.self) c.loop-turn.invariant.same c.count_failure.ensures.same

pub loop-turn-preserved : goal.loop-turn-preserved
loop-turn-preserved g c =
    let i = c.loop-turn.invariant in
    let e = c.count_failure.ensures in
    let after = next_open (places_of c.loop-turn.self) i.sound c.loop-turn.block c.next-next.result i.block_open c.next-next.ensures in
    let other = next_other (places_of c.loop-turn.self) i.sound c.loop-turn.block c.next-next.result c.previous-last.result i.block_open i.last_open c.if-block-last.false c.next-next.ensures in
    record {
      sound = e.sound;
      same = SameSlots-then (places_of c.args.self.now) (places_of c.loop-turn.self) (places_of c.count_failure.new.self) i.same e.same;
      block_open = IsOpen-kept (blocks_of c.loop-turn.self.blocks) (blocks_of c.count_failure.new.self.blocks) c.loop-turn.block e.same.active e.max_trial e.others c.next-next.result other after;
      last_open = IsOpen-kept (blocks_of c.loop-turn.self.blocks) (blocks_of c.count_failure.new.self.blocks) c.loop-turn.block e.same.active e.max_trial e.others c.previous-last.result (λ same. c.if-block-last.false (sym same)) i.last_open;
      tried = tries_one_more c.loop-turn.turn (blocks_of c.args.self.now.blocks) (blocks_of c.loop-turn.self.blocks) (blocks_of c.count_failure.new.self.blocks) c.loop-turn.block i.tried e.others;
    }

pub returns-clause-sound : goal.returns-clause-sound
returns-clause-sound g c = c.loop-turn.invariant.sound

pub returns-clause-same : goal.returns-clause-same
returns-clause-same g c = c.loop-turn.invariant.same

pub returns-then-head-eq0-clause-tried : goal.returns-then-head-eq0-clause-tried
returns-then-head-eq0-clause-tried g c = tries_none c.args.search_limit (blocks_of c.args.self.now.blocks)

pub returns-in-Some-clause-tried : goal.returns-in-Some-clause-tried
returns-in-Some-clause-tried g c =
    tries_fewer (c.loop-turn.turn + 1) c.args.search_limit (blocks_of c.args.self.now.blocks) (blocks_of c.begin_at.new.self.blocks) (omega (arith, c.min-turn-end.ensures, c.loop-turn-test.true))
    (tries_one_more c.loop-turn.turn (blocks_of c.args.self.now.blocks) (blocks_of c.loop-turn.self.blocks) (blocks_of c.begin_at.new.self.blocks) (c.in-Some.slot / 256) c.loop-turn.invariant.tried c.begin_at.ensures.others)

pub returns-then-block-last-clause-tried : goal.returns-then-block-last-clause-tried
returns-then-block-last-clause-tried g c =
    tries_fewer (c.loop-turn.turn + 1) c.args.search_limit (blocks_of c.args.self.now.blocks) (blocks_of c.count_failure.new.self.blocks) (omega (arith, c.min-turn-end.ensures, c.loop-turn-test.true))
    (tries_one_more c.loop-turn.turn (blocks_of c.args.self.now.blocks) (blocks_of c.loop-turn.self.blocks) (blocks_of c.count_failure.new.self.blocks) c.loop-turn.block c.loop-turn.invariant.tried c.count_failure.ensures.others)

pub returns-clause-tried : goal.returns-clause-tried
returns-clause-tried g c = tries_fewer c.loop-turn.turn c.args.search_limit (blocks_of c.args.self.now.blocks) (blocks_of c.loop-turn.self.blocks) (omega (arith, c.min-turn-end.ensures, c.loop-turn.invariant)) c.loop-turn.invariant.tried
