use Rattle.std.proofs.Common.{◌≡◌, ◌<◌, ◌∙◌, ap, arith, length, rules, subst, sym, ℕ}
use Rattle.cedar_model.specs.Meaning.Family.{owned_slots}
use Rattle.cedar_model.specs.Relocation.Renaming.{IsNode}
use Rattle.cedar_table.specs.Table.Views.{cells, fields}
use Rattle.cedar_model.specs.Table.TableFields.{size_of}
use Rattle.cedar_model.specs.Relocation.Wanted.{with_label}
use Rattle.cedar_model.proofs.RelocationLemmas.Conflict.{owned_short}
use Rattle.cedar_model.proofs.RelocationLemmas.Movable.{node_at_end}
use Rattle.cedar_edit.proofs.relocation.resolve.move_many_with.Goals as goal

pub all_labels_of-labels-requires : goal.all_labels_of-labels-requires
all_labels_of-labels-requires g c =
    let p = c.requires.node.on_path in
    let w = c.requires.node.holds in
    (search rules, (c.requires.node.node_in, (c.requires.node.not_root, node_at_end _ (cells c.args.table.now) w.0 c.args.node p.0 w.1 p.1 p.2 c.requires.node.not_root)))

pub labels_with-wanted-requires : goal.labels_with-wanted-requires
labels_with-wanted-requires g c =
    let T = cells c.args.table.now in
    let size : ℕ = size_of (fields c.args.table.now) in
    let p = c.requires.node.on_path in
    let w = c.requires.node.holds in
    let n : IsNode size T c.args.node = node_at_end size T w.0 c.args.node p.0 w.1 p.1 p.2 c.requires.node.not_root in
    let labels : c.deref.result.now ≡ owned_slots n.head n.labels = c.deref.ensures.0 ∙ c.all_labels_of-labels.ensures n.head n.labels n.family in
    (search rules, (omega arith, subst (λ v. length v < 256) (sym labels) (owned_short size T c.args.node c.args.label n.head n.labels (omega (arith, c.ranges.label)) c.requires.absent n.family)))

pub move_labels_with-requires : goal.move_labels_with-requires
move_labels_with-requires g c =
    let T = cells c.args.table.now in
    let size : ℕ = size_of (fields c.args.table.now) in
    let p = c.requires.node.on_path in
    let w = c.requires.node.holds in
    let n : IsNode size T c.args.node = node_at_end size T w.0 c.args.node p.0 w.1 p.1 p.2 c.requires.node.not_root in
    let labels : c.deref-2.result.now ≡ owned_slots n.head n.labels = c.deref-2.ensures.0 ∙ c.all_labels_of-labels.ensures n.head n.labels n.family in
    let wanted : c.deref-3.result.now ≡ with_label (fields c.args.table.now).ordered c.args.label c.deref-2.result.now = c.deref-3.ensures.0 ∙ c.labels_with-wanted.ensures ∙ ap (with_label (fields c.args.table.now).ordered c.args.label) (c.deref.ensures.0 ∙ sym c.deref-2.ensures.0) in
    (search rules, (c.requires.node, (record { head = n.head; labels = n.labels; family = n.family; owns = labels }, (c.requires.absent, wanted))))
