use Rattle.cedarwood.specs.Memory.{ReducedFitsInMemory}
use Rattle.cedarwood.specs.contracts.builder.CedarBuilder.from_pairs_bytes_reduced.{A-row}
use Rattle.cedarwood.proofs.DictionaryLemmas.{default_limit, if_ok_always}
use Rattle.cedarwood.proofs.builder.CedarBuilder.from_pairs_bytes_reduced.Goals as goal

pub from_pairs_bytes_with-requires : goal.from_pairs_bytes_with-requires
from_pairs_bytes_with-requires g c = (c.fits-has_room.ensures c.if-has_room.true, λ _. default_limit)

pub returns-in-None-clause-fits : goal.returns-in-None-clause-fits
returns-in-None-clause-fits g c =
    if_ok_always (ReducedFitsInMemory (A-row g.row.A) g.A.Allocator) c.from_pairs_bytes_with.result (c.fits-has_room.ensures c.if-has_room.true)
