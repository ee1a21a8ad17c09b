use Rattle.std.proofs.Common.{[], ◌∙◌, sym, subst}
use Rattle.std.proofs.lemmas.Bool.{true≢false}
use Rattle.cedarwood.specs.Words.{visited_entries}
use Rattle.cedarwood.specs.WellFormed.{tree_of}
use Rattle.cedar_walk.specs.Visits.{ComesToFirst, ComesToNumber, left_at, path_to}
use Rattle.cedar_c.specs.Entries.{entries_behind_key}
use Rattle.cedar_c.proofs.EntryLemmas.{held_first, lacking_since, none_behind}
use Rattle.cedar_c.proofs.entries.first_behind.Goals as goal

pub returns-in_err-first : goal.returns-in_err-first
returns-in_err-first g c =
    let T = g.T.Walked.shown c.args.trie.now in
    let key = c.args.key.now in
    let k = c.requires.well_formed in
    subst (ComesToFirst T [] (entries_behind_key (tree_of T) key)) (sym c.from_residual.ensures) (none_behind (tree_of T) key k.sound (k.ascending c.requires.ordered) c.in_err-first.ensures)

pub returns-then-is_held : goal.returns-then-is_held
returns-then-is_held g c =
    let T = g.T.Walked.shown c.args.trie.now in
    let key = c.args.key.now in
    let k = c.requires.well_formed in
    let first = c.in_ok-first.first in
    let comes = c.in_ok-first.ensures in
    let left = visited_entries (left_at T [] first.depth first.slot) in
    let same = held_first (tree_of T) key k.sound (k.ascending c.requires.ordered) (c.requires.held.0 c.if-is_held.true) (path_to T first.depth first.slot, first.number) left comes.entries in
    subst (λ es. ComesToFirst T [] es c.next_numbered.result) (sym same) (c.next_numbered.ensures [] comes.below)

pub returns-else-is_held : goal.returns-else-is_held
returns-else-is_held g c =
    let T = g.T.Walked.shown c.args.trie.now in
    let key = c.args.key.now in
    let k = c.requires.well_formed in
    let same = lacking_since (tree_of T) key k.sound (k.ascending c.requires.ordered) (λ some. true≢false (sym (c.requires.held.1 some) ∙ c.if-is_held.false)) in
    subst (λ es. ComesToNumber T [] es c.in_ok-first.first) same c.in_ok-first.ensures
