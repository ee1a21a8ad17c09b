use Rattle.std.proofs.Common.{rules, ◌≡◌, ℕ, ℤ, ◌∷◌, true, ◌∙◌, ap, arith, w32, to_z, of_z, List}
use Rattle.plain_tree.specs.Children.{place_of}
use Rattle.cedar_tree.specs.Tree.{Tree, empty_tree, number_at, put}
use Rattle.std.proofs.lemmas.Result.{on_ok_weaker}
use Rattle.plain_tree.proofs.ChildrenLemmas.{position_in, number_at-absent, put-inserted, number_at-found, put-found, place_le, not_held}
use Rattle.plain_tree.proofs.node.+put.Goals as goal

pub returns-in_err-child-in-None-clause-held : goal.returns-in_err-child-in-None-clause-held
returns-in_err-child-in-None-clause-held g t c =
    let path : c.args.path.now ≡ c.in-Some.label.now ∷ c.in-Some.rest.now = search rules in
    let at = position_in c.in-Some.label.now c.as_slice.ensures.value c.position.ensures c.in-None.is in
    λ held. absurd (not_held (number_at c.args.node.now.1 c.args.path.now) (number_at-absent _ _ _ _ c.node.view_is _ _ _ path at) held)

pub insert-requires : goal.insert-requires
insert-requires g t c =
    omega (arith, place_le c.args.ordered c.as_slice-in-None.result.now c.in-Some.label.now, c.place-at.ensures, c.as_slice-in-None.ensures.len)

pub returns-in_err-insert-in-None-clause-held : goal.returns-in_err-insert-in-None-clause-held
returns-in_err-insert-in-None-clause-held g t c =
    let path : c.args.path.now ≡ c.in-Some.label.now ∷ c.in-Some.rest.now = search rules in
    let at = position_in c.in-Some.label.now c.as_slice.ensures.value c.position.ensures c.in-None.is in
    λ held. absurd (not_held (number_at c.args.node.now.1 c.args.path.now) (number_at-absent _ _ _ _ c.node.view_is _ _ _ path at) held)

pub returns-in-Some-position-clause-ok : goal.returns-in-Some-position-clause-ok
returns-in-Some-position-clause-ok g t c =
    let path : c.args.path.now ≡ c.in-Some.label.now ∷ c.in-Some.rest.now = search rules in
    let at = position_in c.in-Some.label.now c.as_slice.ensures.value c.position.ensures c.in-Some-position.is in
    let same : to_z w32 (of_z w32 c.args.number) ≡ c.args.number = search rules in
    on_ok_weaker c.put.result (λ (done : _). put-found _ _ _ _ c.node.view_is _ _ _ path _ at _ c.index_mut.ensures.value c.args.ordered c.args.number c.put.new.node (done ∙ ap (λ (v : ℤ). (c.index_mut.result.now.0, put c.index_mut.result.now.1 c.args.ordered c.in-Some.rest.now v)) same)) c.put.ensures.ok

pub returns-in-Some-position-clause-held : goal.returns-in-Some-position-clause-held
returns-in-Some-position-clause-held g t c =
    let path : c.args.path.now ≡ c.in-Some.label.now ∷ c.in-Some.rest.now = search rules in
    let at = position_in c.in-Some.label.now c.as_slice.ensures.value c.position.ensures c.in-Some-position.is in
    λ held. c.put.ensures.held (rw (← number_at-found _ _ _ _ c.node.view_is _ _ _ path _ at _ c.index_mut.ensures.value) held)

pub returns-in_ok-insert-in-None-clause-ok : goal.returns-in_ok-insert-in-None-clause-ok
returns-in_ok-insert-in-None-clause-ok g t c =
    let path : c.args.path.now ≡ c.in-Some.label.now ∷ c.in-Some.rest.now = search rules in
    let at = position_in c.in-Some.label.now c.as_slice.ensures.value c.position.ensures c.in-None.is in
    let same : to_z w32 (of_z w32 c.args.number) ≡ c.args.number = search rules in
    let place : c.place-at.result ≡ place_of c.args.ordered c.node.inside.children.items c.in-Some.label.now =
    c.place-at.ensures ∙ ap (λ (cs : List (ℕ × Tree)). place_of c.args.ordered cs c.in-Some.label.now) c.as_slice-in-None.ensures.value in
    put-inserted _ _ _ _ c.node.view_is _ _ _ path c.args.ordered c.args.number at c.place-at.result place c.in_ok-child-in-None.child (c.in_ok-child-in-None.ensures ∙ ap (λ (v : ℤ). (c.in-Some.label.now, put empty_tree true c.in-Some.rest.now v)) same) c.insert.new.self.items c.in_ok-insert-in-None.ensures.items
