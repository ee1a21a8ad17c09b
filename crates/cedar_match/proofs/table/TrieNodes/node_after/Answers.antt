use Rattle.std.proofs.Common.{[], rules, subst}
use Rattle.cedar_model.specs.Meaning.WellFormed.{cells_in}
use Rattle.cedar_walk.specs.Visits.{IsBelow}
use Rattle.cedar_match.proofs.TableLemmas.{goes_after}
use Rattle.cedar_match.proofs.table.TrieNodes.node_after.Goals as goal

pub next_node-requires : goal.next_node-requires
next_node-requires g c =
    let at = c.requires.1 in (
      search rules,
      (at.table.formed, ([], subst (λ n. IsBelow (cells_in c.args.self.now.table) [] n c.args.slot) c.requires.2 at.below)),
    )

pub returns : goal.returns
returns g c = λ path at long. rw c.node_of.ensures (goes_after _ c.args.self.now c.args.slot c.args.depth c.next_node.result c.next_node.ensures path at long)
