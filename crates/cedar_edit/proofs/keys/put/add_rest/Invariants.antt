use Rattle.std.proofs.Common.{cond, drop, take, ◌+◌, ◌*◌, ◌==◌, ◌≡◌, ◌≢◌}
use Rattle.cedar_model.specs.declared.layout.Stored.TheVariants.{AtBase}
use Rattle.cedar_model.specs.Edit.KeyWalk.{Walked}
use Rattle.cedar_model.specs.Edit.Packing.{StaysSmall}
use Rattle.cedar_model.specs.Table.TableFields.{size_of}
use Rattle.cedar_table.specs.Table.Views.{cells, fields}
use Rattle.cedar_edit.proofs.keys.put.add_rest.Given as goal

-- the node is a leaf that was just made
abbrev pub invariant-loop-index : goal.invariant-loop-index
invariant-loop-index g l = record {
  walked : Walked g.row.SLOTS (fields l.fn.table) (fields l.table) l.key (take l.index l.key) (drop l.index l.key) l.node;
  leaf : (cells l.table).stored l.node ≡ AtBase 0;
  not_root : l.node ≢ 0;
  packs : StaysSmall (size_of (fields l.fn.table) + 256 * cond (l.known == 0) 0 1) (fields l.table);
}
