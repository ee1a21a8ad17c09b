use Rattle.std.proofs.Common.{rules, ◌≡◌, ℕ, ℤ, ◌∷◌, [], true, refl, ◌∙◌, ap, w32, to_z, of_z}
use Rattle.cedar_tree.specs.Tree.{Tree, empty_tree, put}
use Rattle.plain_tree.specs.Children.{forest_of}
use Rattle.plain_tree.proofs.ChildrenLemmas.{branch-pushed, branch-end, empty_path}
use Rattle.plain_tree.proofs.node.+branch.Goals as goal
use Rattle.plain_tree.proofs.node.+branch.Goals.{in-None, in-Some+in_ok-below-in-Some+in_ok-push-in-Some}

pub returns : goal.returns
returns g t c =
    let seen : ◌≡◌ {A = ℕ × Tree} (c.node.inside.label, record { number = c.node.inside.number; children = forest_of c.node.inside.children.items }) (c.args.label, empty_tree) = c.node.view_is ∙ c.new-node.ensures in
    let stored : ℤ = to_z w32 (of_z w32 c.args.number) in
    let same : ◌≡◌ {A = ℕ × Tree} (c.args.label, put empty_tree true c.args.path.now stored) (c.args.label, put empty_tree true c.args.path.now c.args.number) =
    ap (λ (v : ℤ). (c.args.label, put empty_tree true c.args.path.now v)) (search rules) in
    elim c.match-split_first.branch [
      | in-None w ↦
          let path : c.args.path.now ≡ [] = empty_path c.args.path.now w.in-None.ensures.cases in
          w.node-is ∙ branch-end c.node.inside.label c.node.inside.number c.node.inside.children.items c.args.label seen c.args.path.now path stored ∙ same
      | in-Some+in_ok-below-in-Some+in_ok-push-in-Some w ↦
          let path : c.args.path.now ≡ w.in-Some.next.now ∷ w.in-Some.rest.now = search rules in
          w.node-is
          ∙ branch-pushed c.node.inside.label c.node.inside.number c.node.inside.children.items (c.args.label, empty_tree) seen c.args.path.now w.in-Some.next.now w.in-Some.rest.now path
          stored w.in_ok-below-in-Some.below w.in_ok-below-in-Some.ensures w.push.new.self.items w.in_ok-push-in-Some.ensures.items refl
          ∙ same
    ]
