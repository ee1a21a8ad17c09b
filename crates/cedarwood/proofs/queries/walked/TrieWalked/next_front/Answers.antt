use Rattle.std.proofs.Common.{◌≤◌, ◌<◌, length, subst, sym, MatchOption}
use Rattle.cedar_walk.specs.Fronts.{IsOnQuery}
use Rattle.cedarwood.specs.Dictionary.{Dictionary}
use Rattle.cedarwood.proofs.MemoryLemmas.{table_fits}
use Rattle.cedarwood.proofs.queries.walked.TrieWalked.next_front.Goals as goal

pub returns-clause-on : goal.returns-clause-on
returns-clause-on g c =
    subst (λ (d : Dictionary). MatchOption c.next_held_front.result (c.args.place ≤ length c.args.query.now) (λ front. (c.args.place < front.len) × IsOnQuery d.table c.args.query.now front.len front.slot)) c.self.view_is c.next_held_front.ensures.on

pub next_held_front-requires : goal.next_held_front-requires
next_held_front-requires g c = (search table_fits, (c.self.invariant, subst (λ (d : Dictionary). IsOnQuery d.table c.args.query.now c.args.place c.args.node) (sym c.self.view_is) c.requires.on))
