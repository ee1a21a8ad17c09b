use Rattle.std.proofs.Common.{◌≡◌, ◌≢◌, ◌<◌, subst, sym}
use Rattle.std.specs.Prelude.{MatchOption}
use Rattle.cedar_model.specs.Table.Cells.{Held}
use Rattle.cedar_model.specs.Edit.NodeEdits.{LinkedBehind, LinkedChild}
use Rattle.cedar_table.specs.Table.Views.{cells, fields}
use Rattle.cedar_model.specs.Table.TableFields.{size_of}
use Rattle.cedar_bulk.proofs.BulkLemmas.LastLabel.{last_child, last_sibling}
use Rattle.cedar_bulk.proofs.append.link_last.Goals as goal

pub returns-in-Some-clause-linked : goal.returns-in-Some-clause-linked
returns-in-Some-clause-linked g c =
    let T = cells c.args.table.now in
    let T' = cells c.set_sibling.new.self in
    let place = subst (λ o. MatchOption o (Unit {0}) (λ b. (b < size_of (fields c.args.table.now)) × Held T b × (b ≢ c.args.slot))) c.in-Some.is c.requires.before in
    let last = subst (λ o. MatchOption o (T.child c.args.node ≡ 0) (λ b. T.sibling b ≡ 0)) c.in-Some.is c.requires.last in
    subst (λ o. MatchOption o (LinkedChild T T' c.args.node c.args.slot c.args.label) (λ b. LinkedBehind T T' b c.args.slot c.args.label)) (sym c.in-Some.is)
    (last_sibling T T' c.in-Some.before c.args.slot c.args.label last c.requires.fresh place.2 c.set_sibling.ensures.set)

pub returns-in-None-clause-linked : goal.returns-in-None-clause-linked
returns-in-None-clause-linked g c =
    let T = cells c.args.table.now in
    let T' = cells c.set_child.new.self in
    let last = subst (λ o. MatchOption o (T.child c.args.node ≡ 0) (λ b. T.sibling b ≡ 0)) c.in-None.is c.requires.last in
    subst (λ o. MatchOption o (LinkedChild T T' c.args.node c.args.slot c.args.label) (λ b. LinkedBehind T T' b c.args.slot c.args.label)) (sym c.in-None.is)
    (last_child T T' c.args.node c.args.slot c.args.label last c.requires.fresh c.set_child.ensures.set)
