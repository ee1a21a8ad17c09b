use Rattle.std.proofs.lemmas.Int.{to_z-of_z}
use Rattle.std.proofs.lemmas.List.{append-nil}
use Rattle.std.proofs.Common.{rules, w32, to_z, of_z, FitsSigned, ◌≡◌, ℕ, ◌∷◌, [], ◌++◌, map, ◌∙◌, ap, sym}
use Rattle.cedar_tree.specs.Tree.{Tree}
use Rattle.cedar_tree.specs.Queries.{own_entry, walk}
use Rattle.plain_tree.specs.Children.{forest_of}
use Rattle.plain_tree.specs.Listing.{beneath, vector_entries}
use Rattle.plain_tree.proofs.ListingLemmas.{walk_more, walk_all, own_listed}
use Rattle.plain_tree.proofs.node.+walk_into.Goals as goal
use Rattle.plain_tree.proofs.node.+walk_into.Goals.{in-Some+in_ok-to_vec+in_ok-push, in_default}

pub loop-child-preserved : goal.loop-child-preserved
loop-child-preserved g t c =
    let at : c.deref.result.now ≡ c.args.path.now ++ c.child-item.result.0 ∷ [] =
    c.deref.ensures.value ∙ c.in_ok-below.ensures ∙ ap (λ (x : ℕ × Tree). c.args.path.now ++ x.0 ∷ []) c.child.view_is in
    walk_more c.args.path.now c.deref-child-items.result.now c.loop-child.child-index c.child-item.result c.loop-child-test.true c.child-item.is
    (vector_entries c.match-node.entries.items) (vector_entries c.loop-child.entries.items) (vector_entries c.walk_into.new.entries.items) c.loop-child.invariant
    (c.in_ok-walk_into.ensures ∙ ap (λ (p : _). vector_entries c.loop-child.entries.items ++ map (beneath p) (walk c.child-item.result.1)) at)

pub returns : goal.returns
returns g t c =
    let seen : ◌≡◌ {A = Tree} (record { number = c.node.inside.number; children = forest_of c.deref-child-items.result.now }) c.args.node.now.1 =
    ap (λ (cs : _). record { number = c.node.inside.number; children = forest_of cs }) c.deref-child-items.ensures.value ∙ ap (λ (x : ℕ × Tree). x.1) c.node.view_is in
    let first : vector_entries c.match-node.entries.items ≡ vector_entries c.args.entries.now.items ++ map (beneath c.args.path.now) (own_entry c.node.inside.number) =
    elim c.match-node.branch [
      | in-Some+in_ok-to_vec+in_ok-push w ↦
          let fits : FitsSigned w32 w.in-Some.number = search rules in
          let whole : w.in_ok-to_vec.field-0.items ≡ c.args.path.now = w.in_ok-to_vec.ensures.items_if_clones_equal (λ x y same. same) in
          ap (λ (v : _). vector_entries v.items) w.entries-is
          ∙ own_listed c.args.path.now c.node.inside.number w.in-Some.number (to_z w32 (of_z w32 w.in-Some.number)) w.in_ok-to_vec.field-0 c.args.entries.now.items w.push.new.self.items
          w.in-Some.is (to_z-of_z w32 w.in-Some.number fits) whole w.in_ok-push.ensures.items
      | in_default w ↦ rw (w.entries-is, w.in_default.is) (sym (append-nil (vector_entries c.args.entries.now.items)))
    ] in
    walk_all c.args.path.now c.node.inside.number c.deref-child-items.result.now c.args.node.now.1 seen c.loop-child.child-index c.loop-child-test.false
    (vector_entries c.args.entries.now.items) (vector_entries c.match-node.entries.items) (vector_entries c.loop-child.entries.items) first c.loop-child.invariant
