use Rattle.std.proofs.Common.{◌≡◌, ℕ, ◌∷◌, [], ◌++◌, map, ◌∙◌, ap}
use Rattle.cedar_tree.specs.Tree.{Tree}
use Rattle.cedar_tree.specs.Queries.{prefixes}
use Rattle.plain_tree.specs.Children.{forest_of}
use Rattle.plain_tree.specs.Listing.{paths_of}
use Rattle.plain_tree.proofs.ListingLemmas.{prefixes_more, prefixes_all, path_listed}
use Rattle.plain_tree.proofs.node.+prefixes_into.Goals as goal

pub loop-child-preserved : goal.loop-child-preserved
loop-child-preserved g t c =
    let label = ap (λ (x : ℕ × Tree). c.args.path.now ++ x.0 ∷ []) c.child.view_is in
    let at : c.deref.result.now ≡ c.args.path.now ++ c.child-item.result.0 ∷ [] = c.deref.ensures.value ∙ c.in_ok-below.ensures ∙ label in
    let own : paths_of c.push.new.self.items ≡ paths_of c.loop-child.paths.items ++ (c.args.path.now ++ c.child-item.result.0 ∷ []) ∷ [] =
    path_listed c.in_ok-longer.field-0 (c.args.path.now ++ c.child-item.result.0 ∷ []) c.loop-child.paths.items c.push.new.self.items (c.in_ok-longer.ensures ∙ label) c.in_ok-push.ensures.items in
    prefixes_more c.args.path.now c.deref-child-items.result.now c.loop-child.child-index c.child-item.result c.loop-child-test.true c.child-item.is
    (paths_of c.args.paths.now.items) (paths_of c.loop-child.paths.items) (paths_of c.push.new.self.items) (paths_of c.prefixes_into.new.paths.items) c.loop-child.invariant own
    (c.in_ok-prefixes_into.ensures ∙ ap (λ (p : _). paths_of c.push.new.self.items ++ map (λ q. p ++ q) (prefixes c.child-item.result.1)) at)

pub returns : goal.returns
returns g t c =
    let seen : ◌≡◌ {A = Tree} (record { number = c.node.inside.number; children = forest_of c.deref-child-items.result.now }) c.args.node.now.1 =
    ap (λ (cs : _). record { number = c.node.inside.number; children = forest_of cs }) c.deref-child-items.ensures.value ∙ ap (λ (x : ℕ × Tree). x.1) c.node.view_is in
    prefixes_all c.args.path.now c.node.inside.number c.deref-child-items.result.now c.args.node.now.1 seen c.loop-child.child-index c.loop-child-test.false
    (paths_of c.args.paths.now.items) (paths_of c.loop-child.paths.items) c.loop-child.invariant
