use Rattle.std.proofs.Common.{◌≡◌, ◌≤◌, ◌⊎◌, Contains, subst}
use Rattle.std.specs.List.{All}
use Rattle.cedar_scan.specs.declared.state.PlacedNode.{PlacedNode}
use Rattle.cedar_scan.proofs.ResumedLemmas.{height_is}
use Rattle.cedar_scan.proofs.owned.height_of.Goals as goal

pub returns : goal.returns
returns g c =
    let nodes = c.in_ok-nodes.nodes.items in
    let n = c.lowest_depth.result in
    height_is (g.T.Placed.tree c.args.trie.now) (g.T.Placed.slot_of c.args.trie.now) c.nodes.ensures.placed nodes c.in_ok-nodes.ensures.nodes n
    (subst (All (λ (x : PlacedNode). x.depth ≤ n)) c.deref.ensures.value c.lowest_depth.ensures.most)
    (subst (λ ns. (n ≡ 0) ⊎ ((x : PlacedNode) × Contains ns x × (x.depth ≡ n))) c.deref.ensures.value c.lowest_depth.ensures.slot_of_path)
