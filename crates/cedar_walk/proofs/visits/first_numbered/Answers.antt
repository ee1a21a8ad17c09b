use Rattle.std.proofs.Common.{[], ◌++◌, ◌∙◌, ap, rules, subst, sym}
use Rattle.std.proofs.lemmas.List.{append-nil}
use Rattle.cedar_model.specs.Walks.{visited_entries}
use Rattle.cedar_model.specs.Edit.NodeEdits.{IsAt}
use Rattle.cedar_table.specs.Table.Views.{cells, fields}
use Rattle.cedar_walk.specs.Visits.{ComesToNumber}
use Rattle.cedar_walk.proofs.WalkLemmas.NextNode.{first_there, none_below}
use Rattle.cedar_walk.proofs.WalkLemmas.NextNumber.{comes_first, deep_not_root, root_walk, walk_at}
use Rattle.cedar_walk.proofs.visits.first_numbered.Goals as goal

pub numbered_from-requires : goal.numbered_from-requires
numbered_from-requires g c =
    let at = subst (λ w. IsAt (cells c.args.table.now) w c.in_ok-node.node) (sym (append-nil c.args.query.now)) c.in_ok-node.ensures.2 in
    (search rules, record { well_formed = c.requires; below = (c.args.query.now, at); not_root = c.if-node-ne0.true })

pub returns-then-node-ne0 : goal.returns-then-node-ne0
returns-then-node-ne0 g c =
    let T = fields c.args.table.now in
    let at = subst (λ w. IsAt (cells c.args.table.now) w c.in_ok-node.node) (sym (append-nil c.args.query.now)) c.in_ok-node.ensures.2 in
    subst (λ left. ComesToNumber T c.args.query.now left c.numbered_from.result) (sym (walk_at T c.args.query.now c.in_ok-node.node)) (c.numbered_from.ensures c.args.query.now at)

pub returns-then-label-eq0 : goal.returns-then-label-eq0
returns-then-label-eq0 g c =
    let T = fields c.args.table.now in
    let query = c.args.query.now in
    let at = subst (λ w. IsAt (cells c.args.table.now) w c.in_ok-node.node) (sym (append-nil query)) c.in_ok-node.ensures.2 in
    root_walk _ T c.requires query c.in_ok-node.node c.in_ok-node.ensures.2 c.if-node-ne0.false
    ∙ ap visited_entries (none_below _ T c.requires query 0 c.in_ok-node.node c.first_child-label.result (c.first_child-label.ensures (query ++ []) at) c.if-label-eq0.true)

pub child_under-place-requires : goal.child_under-place-requires
child_under-place-requires g c =
    let query = c.args.query.now in
    let at = c.in_ok-node.ensures.2 in
    (search rules, record { well_formed = c.requires; at = (query, at, first_there _ (c.first_child-label.ensures query at) c.if-label-eq0.false) })

pub numbered_from-requires-2 : goal.numbered_from-requires-2
numbered_from-requires-2 g c =
    let T = fields c.args.table.now in
    let query = c.args.query.now in
    let place = c.child_under-place.result in
    let at = subst (λ w. IsAt (cells c.args.table.now) w c.in_ok-node.node) (sym (append-nil query)) c.in_ok-node.ensures.2 in
    let comes = comes_first _ T c.requires query 0 c.in_ok-node.node c.first_child-label.result place at (c.first_child-label.ensures (query ++ []) at) c.if-label-eq0.false c.child_under-place.ensures.slot c.child_under-place.ensures.depth c.child_under-place.ensures.label in
    (search rules, record { well_formed = c.requires; below = (query, comes.below); not_root = deep_not_root _ T c.requires query place.depth place.slot comes.below comes.deep.0 })

pub returns : goal.returns
returns g c =
    let T = fields c.args.table.now in
    let query = c.args.query.now in
    let place = c.child_under-place.result in
    let at = subst (λ w. IsAt (cells c.args.table.now) w c.in_ok-node.node) (sym (append-nil query)) c.in_ok-node.ensures.2 in
    let comes = comes_first _ T c.requires query 0 c.in_ok-node.node c.first_child-label.result place at (c.first_child-label.ensures (query ++ []) at) c.if-label-eq0.false c.child_under-place.ensures.slot c.child_under-place.ensures.depth c.child_under-place.ensures.label in
    let all = root_walk _ T c.requires query c.in_ok-node.node c.in_ok-node.ensures.2 c.if-node-ne0.false ∙ ap visited_entries comes.visits in
    subst (λ left. ComesToNumber T query left c.numbered_from-2.result) (sym all) (c.numbered_from-2.ensures query comes.below)
