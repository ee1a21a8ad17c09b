use Rattle.std.proofs.Common.{◌≡◌, ◌∙◌, ap, None, rules}
use Rattle.cedar_tree.specs.Tree.{Tree}
use Rattle.cedarwood.proofs.DictionaryLemmas.{no_number}
use Rattle.cedar_match.specs.Matching.{leads_on}
use Rattle.cedar_match.proofs.MatchLemmas.{entries_of, nodes_of}
use Rattle.cedar_match.proofs.TableLemmas.{begins, tree_is}
use Rattle.cedar_match.proofs.table.cursor_matching.Goals as goal

pub new-requires : goal.new-requires
new-requires g c =
    let asked = begins _ c.args.trie.now c.stands_on_its_table.ensures in
    search (rules, asked)

pub returns-clause-left : goal.returns-clause-left
returns-clause-left g c =
    let on = c.stands_on_its_table.ensures in
    let d = c.args.trie.now in
    let bare : d.state.tree.number ≡ None = ap (λ (t : Tree). t.number) (tree_is _ d on) ∙ no_number _ d.table on.formed in
    c.new.ensures.left ∙ entries_of (g.M.Automaton.accepts c.args.automaton) d.state.tree bare

pub returns-clause-nodes : goal.returns-clause-nodes
returns-clause-nodes g c =
    let m = c.args.automaton in
    c.new.ensures.nodes ∙ nodes_of (leads_on (g.M.Automaton.after m) (g.M.Automaton.may_match m) (g.M.Automaton.initial m)) c.args.trie.now.state.tree
