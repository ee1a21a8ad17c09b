use Rattle.std.proofs.Common.{IfOk, subst, sym}
use Rattle.cedar_scan.specs.Automata.{AreNodes}
use Rattle.cedar_scan.specs.Preferred.{keys_for}
use Rattle.cedar_scan.specs.declared.kind.MatchKind.{MatchKind}
use Rattle.cedar_scan.proofs.PreferredLemmas.{placing_for}
use Rattle.cedar_scan.proofs.preferred.PreferredKeysPlaced.nodes.Goals as goal

pub returns-in_err-nodes-clause-placed : goal.returns-in_err-nodes-clause-placed
returns-in_err-nodes-clause-placed g c =
    let keys = c.args.self.now in
    placing_for keys.kind (g.T.Placed.tree keys.trie.now) (g.T.Placed.slot_of keys.trie.now) c.nodes.ensures.placed

pub returns-in-LeftmostLongest-clause-placed : goal.returns-in-LeftmostLongest-clause-placed
returns-in-LeftmostLongest-clause-placed g c =
    let keys = c.args.self.now in
    placing_for keys.kind (g.T.Placed.tree keys.trie.now) (g.T.Placed.slot_of keys.trie.now) c.nodes.ensures.placed

pub returns-in-LeftmostLongest-clause-nodes : goal.returns-in-LeftmostLongest-clause-nodes
returns-in-LeftmostLongest-clause-nodes g c =
    let keys = c.args.self.now in
    subst (λ (k : MatchKind). AreNodes (keys_for k (g.T.Placed.tree keys.trie.now)) (g.T.Placed.slot_of keys.trie.now) c.in_ok-nodes.nodes.items) (sym c.in-LeftmostLongest.is) c.in_ok-nodes.ensures.nodes

pub returns-in-LeftmostFirst-clause-placed : goal.returns-in-LeftmostFirst-clause-placed
returns-in-LeftmostFirst-clause-placed g c =
    let keys = c.args.self.now in
    placing_for keys.kind (g.T.Placed.tree keys.trie.now) (g.T.Placed.slot_of keys.trie.now) c.nodes.ensures.placed

pub returns-in-LeftmostFirst-clause-nodes : goal.returns-in-LeftmostFirst-clause-nodes
returns-in-LeftmostFirst-clause-nodes g c =
    let keys = c.args.self.now in
    subst (λ (k : MatchKind). IfOk c.sorted_first.result (λ list. AreNodes (keys_for k (g.T.Placed.tree keys.trie.now)) (g.T.Placed.slot_of keys.trie.now) list.items)) (sym c.in-LeftmostFirst.is) c.sorted_first.ensures
