use Rattle.std.proofs.Common.{◌∙◌, arith, sym}
use Rattle.cedar_slots.specs.declared.blocks.BlockType.TheVariants.{Open, Closed}
use Rattle.cedar_slots.proofs.RingsLemmas.SlotTaken.{first_in, listed_head_free, listed_head_natural, none_free}
use Rattle.cedar_slots.proofs.places.Places.free_slot.Goals as goal
use Rattle.cedar_slots.specs.Views.{places_of}

pub counts-requires : goal.counts-requires
counts-requires g c = omega (arith, first_in (places_of c.args.self.now) c.requires Closed, c.args.self.now.blocks.ready)

pub returns-then-closed-ne0-clause-found : goal.returns-then-closed-ne0-clause-found
returns-then-closed-ne0-clause-found g c = listed_head_free (places_of c.args.self.now) c.requires Closed (λ e. cc) c.first-closed.result c.first-closed.ensures c.if-closed-ne0.true c.counts.result c.counts.ensures c.head.result c.head.ensures

pub counts-requires-then-open-ne0 : goal.counts-requires-then-open-ne0
counts-requires-then-open-ne0 g c = omega (arith, first_in (places_of c.args.self.now) c.requires Open, c.args.self.now.blocks.ready)

pub returns-then-open-ne0-clause-found : goal.returns-then-open-ne0-clause-found
returns-then-open-ne0-clause-found g c = listed_head_free (places_of c.args.self.now) c.requires Open (λ e. cc) c.first-open.result c.first-open.ensures c.if-open-ne0.true c.counts-then-open-ne0.result c.counts-then-open-ne0.ensures c.head-then-open-ne0.result c.head-then-open-ne0.ensures

pub returns-clause-none : goal.returns-clause-none
returns-clause-none g c = none_free (places_of c.args.self.now) c.requires (sym c.first-closed.ensures ∙ c.if-closed-ne0.false) (sym c.first-open.ensures ∙ c.if-open-ne0.false)

pub head-requires : goal.head-requires
head-requires g c = listed_head_natural (places_of c.args.self.now) c.requires Closed (λ e. cc) c.first-closed.result c.first-closed.ensures c.if-closed-ne0.true c.counts.result c.counts.ensures

pub head-requires-then-open-ne0 : goal.head-requires-then-open-ne0
head-requires-then-open-ne0 g c = listed_head_natural (places_of c.args.self.now) c.requires Open (λ e. cc) c.first-open.result c.first-open.ensures c.if-open-ne0.true c.counts-then-open-ne0.result c.counts-then-open-ne0.ensures
