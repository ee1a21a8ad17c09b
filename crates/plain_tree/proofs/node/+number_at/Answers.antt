use Rattle.std.proofs.Common.{rules, ◌≡◌, ◌∷◌, sym, ◌∙◌}
use Rattle.plain_tree.proofs.ChildrenLemmas.{position_in, number_at-absent, number_at-found}
use Rattle.plain_tree.proofs.node.+number_at.Goals as goal

pub returns-in_err-at : goal.returns-in_err-at
returns-in_err-at g t c =
    let path : c.args.path.now ≡ c.in-Some.label.now ∷ c.in-Some.rest.now = search rules in
    let none = position_in c.in-Some.label.now c.as_slice.ensures.value c.position.ensures c.in_err-at.was in
    c.from_residual.ensures ∙ sym (number_at-absent _ _ _ _ c.node.view_is _ _ _ path none)

pub returns : goal.returns
returns g t c =
    let path : c.args.path.now ≡ c.in-Some.label.now ∷ c.in-Some.rest.now = search rules in
    let at = position_in c.in-Some.label.now c.as_slice.ensures.value c.position.ensures c.in_ok-at.was in
    c.number_at.ensures ∙ sym (number_at-found _ _ _ _ c.node.view_is _ _ _ path _ at _ c.index.ensures)
