-- What a dictionary's size in memory says of its table's.
use Rattle.std.proofs.Common.{◌<◌, ◌+◌, ℕ, arith}
use Rattle.std.specs.Borrow.{RattleType}
use Rattle.std.specs.Mem.{FitsInMemory, type_size}
use Rattle.std.specs.declared.alloc.Allocator.{Ghosts}
use Rattle.cedar_model.specs.declared.layout.Layout as layout
use Rattle.cedar_table.specs.contracts.table.Table as table
use Rattle.cedarwood.specs.contracts.trie.Trie as trie

-- A field ends no later than the fields after it, however each is padded.
field_fits : (before field between rest behind n : ℕ) → before + field + between + rest + behind < n → field < n
field_fits before field between rest behind n fits = omega (arith, fits)

-- A table is no larger than the dictionary that it is a field of.
pub table_fits : (L S A : RattleType) (kind : layout.Ghosts L.Denot) (alloc : Ghosts A.Denot) →
    FitsInMemory (trie.the_row L S A kind alloc) → FitsInMemory (table.the_row L S A kind alloc)
table_fits L S A kind alloc fits = field_fits _ (type_size (table.the_row L S A kind alloc)) _ _ _ _ fits
