use Rattle.std.proofs.Common.{drop, take}
use Rattle.cedar_model.specs.Edit.KeyWalk.{Walked}
use Rattle.cedar_table.specs.Table.Views.{fields}
use Rattle.cedar_edit.proofs.keys.put.known_front.Given as goal

abbrev pub invariant-loop-length : goal.invariant-loop-length
invariant-loop-length g l = Walked g.row.SLOTS (fields l.table) (fields l.table) l.key (take l.length l.key) (drop l.length l.key) l.node
