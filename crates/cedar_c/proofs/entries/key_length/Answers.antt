use Rattle.std.proofs.Common.{◌≤◌, ◌+◌, ◌∙◌, ap, arith, length, sym}
use Rattle.std.proofs.lemmas.List.{length-append}
use Rattle.cedarwood.specs.TableFields.{size_of}
use Rattle.cedar_walk.specs.Visits.{path_to}
use Rattle.cedar_walk.proofs.WalkLemmas.NextNode.{path_length, short_way}
use Rattle.cedar_c.proofs.entries.key_length.Goals as goal

pub overflow_add-result : goal.overflow_add-result
overflow_add-result g c =
    let T = g.T.Walked.shown c.args.trie.now in
    let k = c.requires.well_formed in
    let short : c.args.at.depth ≤ size_of T = short_way g.T.Walked.slots T k c.args.start.now c.args.at.depth c.args.at.slot c.requires.below.0 in
    let blocks = k.table.sound.shaped.blocks in
    omega (arith, short, blocks.active_in, blocks.fits)

pub returns-clause-whole : goal.returns-clause-whole
returns-clause-whole g c =
    let T = g.T.Walked.shown c.args.trie.now in
    let start = c.args.start.now in
    let at = c.args.at in
    sym (length-append start (path_to T at.depth at.slot) ∙ ap (λ n. length start + n) (path_length T at.depth at.slot))
