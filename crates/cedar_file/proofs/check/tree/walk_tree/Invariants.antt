use Rattle.std.proofs.Common.{ℕ, ◌+◌, ◌-◌, ◌*◌, ◌≤◌}
use Rattle.cedar_file.specs.TreeWalk.{ComesBack}
use Rattle.cedar_table.specs.Table.Views.{cells, fields}
use Rattle.cedar_model.specs.Table.TableFields.{size_of}
use Rattle.cedar_file.proofs.TreeLemmas.Turns.{IsOnWay}
use Rattle.cedar_file.proofs.check.tree.walk_tree.Given as goal

-- the walk ends as it does from here on, in the steps that are left
abbrev pub invariant-loop-step : goal.invariant-loop-step
invariant-loop-step g l = record {
  on_way : IsOnWay (size_of (fields l.table)) (cells l.table) l.walk l._step;
  cost : l.reads ≤ l.initial.reads + 4 * l._step;
  to_start : (m e : ℕ) → ComesBack (2 * size_of (fields l.table) - l._step) (size_of (fields l.table)) (fields l.table).ordered (cells l.table) l.walk m e → ComesBack (2 * size_of (fields l.table)) (size_of (fields l.table)) (fields l.table).ordered (cells l.table) l.fn.start m e;
  from_start : (m e : ℕ) → ComesBack (2 * size_of (fields l.table)) (size_of (fields l.table)) (fields l.table).ordered (cells l.table) l.fn.start m e → ComesBack (2 * size_of (fields l.table) - l._step) (size_of (fields l.table)) (fields l.table).ordered (cells l.table) l.walk m e;
}
