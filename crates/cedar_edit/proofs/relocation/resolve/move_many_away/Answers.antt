use Rattle.std.proofs.Common.{◌≡◌, ◌<◌, ◌≤◌, ◌∙◌, length, rules, subst, sym, ℕ}
use Rattle.std.proofs.lemmas.Result.{IfOk-weaker}
use Rattle.cedar_model.specs.Meaning.Family.{owned_slots}
use Rattle.cedar_model.specs.Relocation.Renaming.{IsNode}
use Rattle.cedar_table.specs.Table.Views.{cells, fields}
use Rattle.cedar_model.specs.Table.TableFields.{size_of}
use Rattle.cedar_model.proofs.RelocationLemmas.Conflict.{owned_at_most, owned_some}
use Rattle.cedar_model.proofs.RelocationLemmas.Movable.{node_at_end}
use Rattle.cedar_edit.proofs.relocation.resolve.move_many_away.Goals as goal

pub all_labels_of-labels-requires : goal.all_labels_of-labels-requires
all_labels_of-labels-requires g c =
    let p = c.requires.node.on_path in
    let w = c.requires.node.holds in
    (search rules, (c.requires.node.node_in, (c.requires.node.not_root, node_at_end _ (cells c.args.table.now) w.0 c.args.node p.0 w.1 p.1 p.2 c.requires.node.not_root)))

pub move_set_around-requires : goal.move_set_around-requires
move_set_around-requires g c =
    let T = cells c.args.table.now in
    let size : ℕ = size_of (fields c.args.table.now) in
    let p = c.requires.node.on_path in
    let w = c.requires.node.holds in
    let n : IsNode size T c.args.node = node_at_end size T w.0 c.args.node p.0 w.1 p.1 p.2 c.requires.node.not_root in
    let labels : c.deref.result.now ≡ owned_slots n.head n.labels = c.deref.ensures.0 ∙ c.all_labels_of-labels.ensures n.head n.labels n.family in
    let some : 0 < length c.deref.result.now = subst (λ v. 0 < length v) (sym labels) (owned_some size T c.args.node c.args.slot n.head n.labels c.requires.mine n.family) in
    let few : length c.deref.result.now ≤ 256 = subst (λ v. length v ≤ 256) (sym labels) (owned_at_most size T c.args.node n.head n.labels n.family) in
    (search rules, (c.requires.node, (record { head = n.head; labels = n.labels; family = n.family; owns = labels }, (c.requires.mine, (some, few)))))

pub returns-clause-moved : goal.returns-clause-moved
returns-clause-moved g c = IfOk-weaker c.move_set_around.result _ _ (λ base moved. (c.deref.result.now, moved)) c.move_set_around.ensures.moved
