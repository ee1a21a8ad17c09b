use Rattle.std.proofs.Common.{IfOk, subst, sym}
use Rattle.cedar_tree.specs.State.{State}
use Rattle.cedar_scan.specs.Automata.{AreNodes, IsPlacing}
use Rattle.cedar_scan.specs.Tables.{slot_in}
use Rattle.cedar_scan.proofs.NodesLemmas.{placing}
use Rattle.cedar_scan.proofs.nodes.TriePlaced.nodes.Goals as goal

pub returns-clause-placed : goal.returns-clause-placed
returns-clause-placed g c =
    let on = c.stands_on_its_table.ensures in
    let T = c.args.self.now.table in
    subst (λ (s : State). IsPlacing s.tree (slot_in T)) (sym on.state) (placing _ T on.formed)

pub returns-clause-nodes : goal.returns-clause-nodes
returns-clause-nodes g c =
    let on = c.stands_on_its_table.ensures in
    let T = c.args.self.now.table in
    subst (λ (s : State). IfOk c.list_nodes.result (λ nodes. AreNodes s.tree (slot_in T) nodes.items)) (sym on.state) c.list_nodes.ensures
