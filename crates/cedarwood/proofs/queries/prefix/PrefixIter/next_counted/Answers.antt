use Rattle.std.proofs.Common.{◌<◌, arith, length}
use Rattle.cedarwood.proofs.queries.prefix.PrefixIter.next_counted.Goals as goal

pub next_front-requires : goal.next_front-requires
next_front-requires g c =
    let i = c.self.invariant in
    let less : c.self.inside.place < length c.self.inside.query.now = omega (arith, i.within, c.if-self.false) in
    record { well_formed = i.table; on = i.on less }
