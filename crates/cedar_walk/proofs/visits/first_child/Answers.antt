use Rattle.std.proofs.Common.{◌<◌, ◌∙◌, ap, arith, rules, subst}
use Rattle.cedar_model.specs.Queries.{node_at}
use Rattle.cedar_model.specs.Edit.NodeEdits.{IsAt}
use Rattle.cedar_model.specs.Meaning.StandsFor.{labels}
use Rattle.cedar_table.specs.Table.Views.{cells, fields}
use Rattle.cedar_model.specs.Table.TableFields.{size_of}
use Rattle.cedar_model.specs.Meaning.WellFormed.{tree_of}
use Rattle.cedar_walk.proofs.WalkLemmas.NextNode.{links_first, named_first, node_inside, node_stands, root_first}
use Rattle.cedar_walk.proofs.visits.first_child.Goals as goal

pub child-label-requires : goal.child-label-requires
child-label-requires g c =
    let inside : c.args.node < size_of (fields c.args.table.now) = node_inside _ (fields c.args.table.now) c.requires.well_formed c.requires.at.0 c.args.node c.requires.at.1 in
    (search rules, omega (arith, inside, c.args.table.now.shaped.blocks.active_in))

pub returns-then-label-ne0 : goal.returns-then-label-ne0
returns-then-label-ne0 g c = λ w at.
    c.child-label.ensures
    ∙ named_first _ (fields c.args.table.now) c.requires.well_formed w c.args.node at (λ e. c.if-label-ne0.true (c.child-label.ensures ∙ e))

pub sibling-requires : goal.sibling-requires
sibling-requires g c =
    let inside : c.args.node < size_of (fields c.args.table.now) = node_inside _ (fields c.args.table.now) c.requires.well_formed c.requires.at.0 c.args.node c.requires.at.1 in
    (search rules, omega (arith, inside, c.args.table.now.shaped.blocks.active_in))

pub returns-then-node-eq0 : goal.returns-then-node-eq0
returns-then-node-eq0 g c = λ w at.
    c.sibling.ensures ∙ ap (cells c.args.table.now).sibling c.if-node-eq0.true
    ∙ root_first _ (fields c.args.table.now) c.requires.well_formed w (subst (IsAt (cells c.args.table.now) w) c.if-node-eq0.true at)

pub first_label-requires : goal.first_label-requires
first_label-requires g c =
    let T = fields c.args.table.now in
    let st = node_stands _ T c.requires.well_formed c.requires.at.0 c.args.node c.requires.at.1 in
    (search rules, (node_inside _ T c.requires.well_formed c.requires.at.0 c.args.node c.requires.at.1, (c.if-node-eq0.false, record { head = st.head; labels = labels (node_at (tree_of T) c.requires.at.0).children; family = st.family })))

pub returns : goal.returns
returns g c = λ w at.
    let T = fields c.args.table.now in
    let st = node_stands _ T c.requires.well_formed w c.args.node at in
    links_first (cells c.args.table.now) c.args.node c.first_label.result (node_at (tree_of T) w).children (c.first_label.ensures st.head (labels (node_at (tree_of T) w).children) st.family)
