use Rattle.std.proofs.Common.{ℤ, FitsSigned, List, ap, rules, subst, sym, w32}
use Rattle.std.proofs.lemmas.Int.{to_z-of_z}
use Rattle.cedar_scan.specs.Places.{placed_by}
use Rattle.cedar_scan.specs.declared.falls.Popped.{Popped}
use Rattle.cedar_scan.specs.Falls.{FallsTo}
use Rattle.cedar_scan.proofs.FallLemmas.{key_falls}
use Rattle.cedar_scan.proofs.falls.fall_of.Goals as goal

pub returns : goal.returns
returns g c =
    let fits : FitsSigned w32 c.in-Some.value = search rules in
    subst (λ (new : List Popped). FallsTo (g.T.Placed.tree c.args.trie.now) (placed_by c.args.places.now (g.T.Placed.slot_of c.args.trie.now)) c.args.node c.args.popped.now.items 0 new) (sym c.in_ok-push.ensures.items)
    (key_falls (g.T.Placed.tree c.args.trie.now) (placed_by c.args.places.now (g.T.Placed.slot_of c.args.trie.now)) c.args.states.now c.args.falls.now c.args.popped.now.items c.args.node c.requires c.in-Some.value c.in-Some.is _ (ap (λ (v : ℤ). (0, c.args.node.depth, v)) (to_z-of_z w32 c.in-Some.value fits)))
