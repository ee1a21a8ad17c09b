-- That the types of dictionaries are no larger than memory, as is so wherever a value of one exists.
use denote.Param.{number}
use Rattle.std.specs.Borrow.{RattleType}
use Rattle.std.specs.Mem.{FitsInMemory}
use Rattle.std.specs.declared.alloc.Allocator.{Ghosts}
use Rattle.cedar_model.specs.contracts.layout.DefaultLayout as layout
use Rattle.cedar_model.specs.contracts.layout.DefaultLayoutLayout.TheImpl as default_layout
use Rattle.cedar_model.specs.contracts.layout.ReducedLayout as smaller
use Rattle.cedar_model.specs.contracts.layout.ReducedLayoutLayout.TheImpl as smaller_layout
use Rattle.cedarwood.specs.Limits.{most_slots}
use Rattle.cedarwood.specs.contracts.trie.Trie.{the_row}

-- the type of a `Cedar<A>` is no larger than memory
abbrev pub CedarFitsInMemory : (A : RattleType) → Ghosts A.Denot → Type 0
CedarFitsInMemory A alloc = FitsInMemory (the_row layout.the_row (number most_slots) A default_layout.ghosts alloc)

-- the type of a `ReducedCedar<A>` is no larger than memory
abbrev pub ReducedFitsInMemory : (A : RattleType) → Ghosts A.Denot → Type 0
ReducedFitsInMemory A alloc = FitsInMemory (the_row smaller.the_row (number most_slots) A smaller_layout.ghosts alloc)
