use Rattle.std.proofs.Common.{◌≡◌, ◌<◌, ◌+◌, ◌-◌, ◌∙◌, ap, arith, List, None, rules, subst, sym, ℕ}
use Rattle.cedar_model.specs.Edits.{edit_at}
use Rattle.cedar_model.specs.Meaning.Marks.{KeepsOtherMarks}
use Rattle.cedar_model.specs.Edit.NodeEdits.{IsAt}
use Rattle.cedar_model.specs.Meaning.StandsFor.{HoldsTree}
use Rattle.cedar_model.specs.Edit.Steps.{root_of, tree_after_trim}
use Rattle.cedar_table.specs.Table.Views.{cells, fields}
use Rattle.cedar_model.specs.Table.TableFields.{Fields, size_of}
use Rattle.cedar_model.specs.Meaning.WellFormed.{cells_in, IsWellFormed, tree_of}
use Rattle.cedar_model.proofs.UpdateLemmas.Erasure.{dropped_node, erased_formed, erased_tree, held_below_root, node_numbered, some_entry}
use Rattle.cedar_model.proofs.UpdateLemmas.MarkedTree.{marks_cut, others_at}
use Rattle.cedar_edit.proofs.keys.erase.erase_at.Goals as goal

pub drop_any_number-requires : goal.drop_any_number-requires
drop_any_number-requires g c =
    let T = fields c.args.table.now in
    let w = c.requires.well_formed in
    let held = c.requires.held in
    let below_root = held_below_root g.row.SLOTS T w held.0 c.args.node held.1 held.2 in
    (search rules, (w.table, (c.requires.node_in, (omega (arith, below_root), node_numbered g.row.SLOTS T w held.0 c.args.node held.1 held.2))))

pub trim-requires : goal.trim-requires
trim-requires g c =
    let T = fields c.args.table.now in
    let w = c.requires.well_formed in
    let d = c.drop_any_number.ensures in
    let key = c.requires.held.0 in
    let at = c.requires.held.1 in (
      search rules,
      (
        d.sound,
        (
          subst (λ n. c.args.node < n) (sym d.frame.size) c.requires.node_in,
          (_, dropped_node (size_of (fields c.drop_any_number.new.table)) (cells c.drop_any_number.new.table) T.ordered _ (tree_of T).children key c.args.node w.ascending (d.at key at) d.frame.settings.ordered (d.tree (tree_of T).children key w.stands at)),
        ),
      ),
    )

pub overflow_sub-entries : goal.overflow_sub-entries
overflow_sub-entries g c =
    let held = c.requires.held in
    let some = some_entry g.row.SLOTS (fields c.args.table.now) held.0 c.requires.well_formed held.2 in
    omega (arith, some, c.entries.ensures, c.trim.ensures.frame.settings.entries, c.drop_any_number.ensures.frame.settings.entries)

pub entries-requires : goal.entries-requires
entries-requires g c = search rules

pub set_entries-requires : goal.set_entries-requires
set_entries-requires g c = search rules

-- the table after, with one entry less
last : (g : _) → goal.After-set_entries g → Fields
last g c = record (fields c.trim.new.table) { entries = c.entries.result - 1 }

is_last : (g : _) (c : goal.After-set_entries g) → fields c.set_entries.new.self ≡ last g c
unfolding last
is_last g c = c.set_entries.ensures

cut_holds : (g : _) (c : goal.After-set_entries g) (key : List ℕ) → IsAt (cells c.args.table.now) key c.args.node → HoldsTree (size_of (last g c)) (cells_in (last g c)) (tree_after_trim (root_of (edit_at key (λ _. None) (λ u. u) (tree_of (fields c.args.table.now)).children)) key).children
unfolding last
cut_holds g c key at =
    let T = fields c.args.table.now in
    let d = c.drop_any_number.ensures in
    c.trim.ensures.tree _ key (d.tree (tree_of T).children key c.requires.well_formed.stands at) (d.at key at)

not_root : (g : _) (c : goal.After-set_entries g) → c.args.node ≡ 0 → ⊥
not_root g c =
    let held = c.requires.held in
    held_below_root g.row.SLOTS (fields c.args.table.now) c.requires.well_formed held.0 c.args.node held.1 held.2

pub returns-clause-tree : goal.returns-clause-tree
unfolding last
returns-clause-tree g c = λ key at.
    ap tree_of (is_last g c) ∙ erased_tree g.row.SLOTS (fields c.args.table.now) (last g c) c.requires.well_formed key c.args.node at (not_root g c) (cut_holds g c key at)

pub returns-clause-well_formed : goal.returns-clause-well_formed
unfolding last
returns-clause-well_formed g c =
    let T = fields c.args.table.now in
    let held = c.requires.held in
    let d = c.drop_any_number.ensures in
    let t = c.trim.ensures in
    let some = some_entry g.row.SLOTS T held.0 c.requires.well_formed held.2 in
    let entries : c.entries.result - 1 + 1 ≡ c.args.table.now.entries = omega (arith, some, c.entries.ensures, t.frame.settings.entries, d.frame.settings.entries) in
    subst (IsWellFormed g.row.SLOTS) (sym (is_last g c)) (erased_formed g.row.SLOTS T (last g c) c.requires.well_formed held.0 c.args.node held.1 (not_root g c) (cut_holds g c held.0 held.1) held.2 t.sound (t.root_check ∙ d.root_check) (t.frame.settings.ordered ∙ d.frame.settings.ordered) entries)

others_stand : (g : _) (c : goal.After-set_entries g) → KeepsOtherMarks (cells c.args.table.now) (cells_in (last g c)) c.args.node
unfolding last
others_stand g c = λ w q m at other e.
    let first = c.drop_any_number.ensures.others w q m at other e in
    c.trim.ensures.marks w first.0 m first.1 first.2

pub returns-clause-marks : goal.returns-clause-marks
returns-clause-marks g c =
    subst (λ T. KeepsOtherMarks (cells c.args.table.now) (cells_in T) c.args.node) (sym (is_last g c)) (others_stand g c)

pub returns-clause-marks_cut : goal.returns-clause-marks_cut
returns-clause-marks_cut g c = λ key at.
    let T = fields c.args.table.now in
    let w = c.requires.well_formed in
    marks_cut g.row.SLOTS T (fields c.set_entries.new.self) key w (returns-clause-well_formed g c) (returns-clause-tree g c key at)
    (others_at (cells_in T) (cells_in (fields c.set_entries.new.self)) w.stands.root key c.args.node at (returns-clause-marks g c))
