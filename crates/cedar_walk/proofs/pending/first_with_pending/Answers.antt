use Rattle.std.proofs.Common.{[], ◌++◌, ◌∙◌, ap, rules, subst, sym}
use Rattle.std.proofs.lemmas.List.{append-nil}
use Rattle.cedar_model.specs.Walks.{visited_entries}
use Rattle.cedar_model.specs.Edit.NodeEdits.{IsAt}
use Rattle.cedar_table.specs.Table.Views.{cells, fields}
use Rattle.cedar_walk.specs.Pending.{IsPending}
use Rattle.cedar_walk.specs.Visits.{ComesToNumber}
use Rattle.cedar_walk.proofs.WalkLemmas.NextNode.{first_there, none_below}
use Rattle.cedar_walk.proofs.WalkLemmas.NextNumber.{deep_not_root, root_walk, walk_at}
use Rattle.cedar_walk.proofs.WalkLemmas.Waiting.{leads_down}
use Rattle.cedar_walk.proofs.pending.first_with_pending.Goals as goal

pub numbered_from_with_pending-requires : goal.numbered_from_with_pending-requires
numbered_from_with_pending-requires g c =
    let T = fields c.args.table.now in
    let at = subst (λ w. IsAt (cells c.args.table.now) w c.in_ok-node.node) (sym (append-nil c.args.query.now)) c.in_ok-node.ensures.2 in
    (search rules, record { well_formed = c.requires; below = (c.args.query.now, at); not_root = c.if-node-ne0.true; kept = subst (λ xs. IsPending T xs 0 c.in_ok-node.node) (sym c.clear.ensures) tt })

pub returns-then-node-ne0-clause-found : goal.returns-then-node-ne0-clause-found
returns-then-node-ne0-clause-found g c =
    let T = fields c.args.table.now in
    let at = subst (λ w. IsAt (cells c.args.table.now) w c.in_ok-node.node) (sym (append-nil c.args.query.now)) c.in_ok-node.ensures.2 in
    subst (λ left. ComesToNumber T c.args.query.now left c.numbered_from_with_pending.result) (sym (walk_at T c.args.query.now c.in_ok-node.node)) (c.numbered_from_with_pending.ensures.found c.args.query.now at)

pub returns-then-node-ne0-clause-kept : goal.returns-then-node-ne0-clause-kept
returns-then-node-ne0-clause-kept g c = c.numbered_from_with_pending.ensures.kept

pub returns-then-label-eq0-clause-found : goal.returns-then-label-eq0-clause-found
returns-then-label-eq0-clause-found g c =
    let T = fields c.args.table.now in
    let query = c.args.query.now in
    let at = subst (λ w. IsAt (cells c.args.table.now) w c.in_ok-node.node) (sym (append-nil query)) c.in_ok-node.ensures.2 in
    root_walk _ T c.requires query c.in_ok-node.node c.in_ok-node.ensures.2 c.if-node-ne0.false
    ∙ ap visited_entries (none_below _ T c.requires query 0 c.in_ok-node.node c.first_child-label.result (c.first_child-label.ensures (query ++ []) at) c.if-label-eq0.true)

pub child_under-place-requires : goal.child_under-place-requires
child_under-place-requires g c =
    let query = c.args.query.now in
    let at = c.in_ok-node.ensures.2 in
    (search rules, record { well_formed = c.requires; at = (query, at, first_there _ (c.first_child-label.ensures query at) c.if-label-eq0.false) })

pub keep_sibling-requires : goal.keep_sibling-requires
keep_sibling-requires g c =
    let T = fields c.args.table.now in
    let query = c.args.query.now in
    let at = subst (λ w. IsAt (cells c.args.table.now) w c.in_ok-node.node) (sym (append-nil query)) c.in_ok-node.ensures.2 in
    let on = leads_down _ T c.requires 0 c.in_ok-node.node c.first_child-label.result c.child_under-place.result c.clear.new.self (query, at) c.first_child-label.ensures c.if-label-eq0.false
    c.child_under-place.ensures.slot c.child_under-place.ensures.depth c.child_under-place.ensures.label (subst (λ xs. IsPending T xs 0 c.in_ok-node.node) (sym c.clear.ensures) tt) in
    (search rules, record { well_formed = c.requires; at = (query, (on.leads.comes query at).below); deep = on.leads.deep; label = on.leads.last; kept = on.kept })

pub numbered_from_with_pending-requires-2 : goal.numbered_from_with_pending-requires-2
numbered_from_with_pending-requires-2 g c =
    let T = fields c.args.table.now in
    let query = c.args.query.now in
    let place = c.child_under-place.result in
    let at = subst (λ w. IsAt (cells c.args.table.now) w c.in_ok-node.node) (sym (append-nil query)) c.in_ok-node.ensures.2 in
    let on = leads_down _ T c.requires 0 c.in_ok-node.node c.first_child-label.result place c.clear.new.self (query, at) c.first_child-label.ensures c.if-label-eq0.false
    c.child_under-place.ensures.slot c.child_under-place.ensures.depth c.child_under-place.ensures.label (subst (λ xs. IsPending T xs 0 c.in_ok-node.node) (sym c.clear.ensures) tt) in
    let below = (on.leads.comes query at).below in
    (search rules, record { well_formed = c.requires; below = (query, below); not_root = deep_not_root _ T c.requires query place.depth place.slot below on.leads.deep; kept = c.keep_sibling.ensures })

pub returns-clause-found : goal.returns-clause-found
returns-clause-found g c =
    let T = fields c.args.table.now in
    let query = c.args.query.now in
    let at = subst (λ w. IsAt (cells c.args.table.now) w c.in_ok-node.node) (sym (append-nil query)) c.in_ok-node.ensures.2 in
    let on = leads_down _ T c.requires 0 c.in_ok-node.node c.first_child-label.result c.child_under-place.result c.clear.new.self (query, at) c.first_child-label.ensures c.if-label-eq0.false
    c.child_under-place.ensures.slot c.child_under-place.ensures.depth c.child_under-place.ensures.label (subst (λ xs. IsPending T xs 0 c.in_ok-node.node) (sym c.clear.ensures) tt) in
    let comes = on.leads.comes query at in
    let all = root_walk _ T c.requires query c.in_ok-node.node c.in_ok-node.ensures.2 c.if-node-ne0.false ∙ comes.entries in
    subst (λ left. ComesToNumber T query left c.numbered_from_with_pending-2.result) (sym all) (c.numbered_from_with_pending-2.ensures.found query comes.below)

pub returns-clause-kept : goal.returns-clause-kept
returns-clause-kept g c = c.numbered_from_with_pending-2.ensures.kept
