use Rattle.std.proofs.Common.{rules, ◌≡◌, ℕ, ◌∷◌, true, false, sym, ◌∙◌, ap, is_some}
use Rattle.cedar_tree.specs.Tree.{Tree, is_bare}
use Rattle.plain_tree.proofs.ChildrenLemmas.{position_in, number_at-absent, cut-absent, number_at-found, cut-removed, cut-kept, found_within}
use Rattle.std.proofs.lemmas.List.{get_or-set_same}
use Rattle.plain_tree.proofs.node.+cut.Goals as goal

pub returns-in_default-position-clause-answer : goal.returns-in_default-position-clause-answer
returns-in_default-position-clause-answer g t c =
    let path : c.args.path.now ≡ c.in-Some.label.now ∷ c.in-Some.rest.now = search rules in
    let none = position_in c.in-Some.label.now c.as_slice.ensures.value c.position.ensures c.in_default-position.is in
    ap is_some (sym (number_at-absent _ _ _ _ c.node.view_is _ _ _ path none))

pub returns-in_default-position-clause-after : goal.returns-in_default-position-clause-after
returns-in_default-position-clause-after g t c =
    let path : c.args.path.now ≡ c.in-Some.label.now ∷ c.in-Some.rest.now = search rules in
    let none = position_in c.in-Some.label.now c.as_slice.ensures.value c.position.ensures c.in_default-position.is in
    cut-absent _ _ _ _ c.node.view_is _ _ _ path none

pub returns-then-is_bare-clause-answer : goal.returns-then-is_bare-clause-answer
returns-then-is_bare-clause-answer g t c =
    let path : c.args.path.now ≡ c.in-Some.label.now ∷ c.in-Some.rest.now = search rules in
    let at = position_in c.in-Some.label.now c.as_slice.ensures.value c.position.ensures c.in-Some-position.is in
    c.cut-held.ensures.answer ∙ ap is_some (sym (number_at-found _ _ _ _ c.node.view_is _ _ _ path _ at _ c.index_mut.ensures.value))

pub returns-else-is_bare-clause-answer : goal.returns-else-is_bare-clause-answer
returns-else-is_bare-clause-answer g t c =
    let path : c.args.path.now ≡ c.in-Some.label.now ∷ c.in-Some.rest.now = search rules in
    let at = position_in c.in-Some.label.now c.as_slice.ensures.value c.position.ensures c.in-Some-position.is in
    c.cut-held.ensures.answer ∙ ap is_some (sym (number_at-found _ _ _ _ c.node.view_is _ _ _ path _ at _ c.index_mut.ensures.value))

pub returns-then-is_bare-clause-after : goal.returns-then-is_bare-clause-after
returns-then-is_bare-clause-after g t c =
    let path : c.args.path.now ≡ c.in-Some.label.now ∷ c.in-Some.rest.now = search rules in
    let at = position_in c.in-Some.label.now c.as_slice.ensures.value c.position.ensures c.in-Some-position.is in
    let same : c.index.result.now ≡ c.cut-held.new.node = c.index.ensures ∙ get_or-set_same c.node.inside.children.items c.in-Some-position.at c.cut-held.new.node c.index.result.now (found_within _ _ _ _ c.node.view_is _ _ _ path _ at _ c.index_mut.ensures.value) in
    let bare : is_bare c.cut-held.new.node.1 ≡ true = ap (λ (x : ℕ × Tree). is_bare x.1) (sym same) ∙ sym c.is_bare.ensures ∙ c.if-is_bare.true in
    cut-removed _ _ _ _ c.node.view_is _ _ _ path _ at _ c.index_mut.ensures.value c.cut-held.new.node c.cut-held.ensures.after bare c.remove.new.self.items c.remove.ensures.items

pub returns-else-is_bare-clause-after : goal.returns-else-is_bare-clause-after
returns-else-is_bare-clause-after g t c =
    let path : c.args.path.now ≡ c.in-Some.label.now ∷ c.in-Some.rest.now = search rules in
    let at = position_in c.in-Some.label.now c.as_slice.ensures.value c.position.ensures c.in-Some-position.is in
    let same : c.index.result.now ≡ c.cut-held.new.node = c.index.ensures ∙ get_or-set_same c.node.inside.children.items c.in-Some-position.at c.cut-held.new.node c.index.result.now (found_within _ _ _ _ c.node.view_is _ _ _ path _ at _ c.index_mut.ensures.value) in
    let bare : is_bare c.cut-held.new.node.1 ≡ false = ap (λ (x : ℕ × Tree). is_bare x.1) (sym same) ∙ sym c.is_bare.ensures ∙ c.if-is_bare.false in
    cut-kept _ _ _ _ c.node.view_is _ _ _ path _ at _ c.index_mut.ensures.value c.cut-held.new.node c.cut-held.ensures.after bare
