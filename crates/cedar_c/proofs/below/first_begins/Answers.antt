use Rattle.std.proofs.Common.{◌∙◌, ap, nat_eq, sym}
use Rattle.std.specs.List.{starts_with}
use Rattle.cedar_c.proofs.BelowLemmas.{held_path}
use Rattle.cedar_c.proofs.below.first_begins.Goals as goal

pub returns-then-is_held-clause-answer : goal.returns-then-is_held-clause-answer
returns-then-is_held-clause-answer g c =
    let T = g.T.Walked.shown c.args.trie.now in
    let first = c.args.first in
    let comes = c.requires.first in
    let same = held_path _ T c.requires.well_formed c.requires.ordered c.args.behind.now first.depth first.slot first.number comes.below comes.number comes.entries (c.requires.held.0 c.if-is_held.true) in
    c.starts_with.ensures.value ∙ ap (λ w. starts_with nat_eq w c.args.prefix.now) (sym same)

pub node_begins-requires-clause-below : goal.node_begins-requires-clause-below
node_begins-requires-clause-below g c = let comes = c.requires.first in (comes.below, c.args.first.number, comes.number)
