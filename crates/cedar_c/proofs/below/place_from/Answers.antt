use Rattle.std.proofs.Common.{rules, ◌-◌, ◌++◌, ◌∷◌, ◌∙◌, ap, arith, FitsSigned, length, map, sym, w32, ℤ}
use Rattle.std.proofs.lemmas.Int.{to_z-of_z}
use Rattle.std.proofs.lemmas.Bool.{true≢false}
use Rattle.cedarwood.specs.Words.{visited_entries}
use Rattle.cedar_walk.specs.Ranges.{behind_path}
use Rattle.cedar_walk.specs.Visits.{left_at, path_to}
use Rattle.cedarwood.proofs.RangeLemmas.{range_place, ranged_is}
use Rattle.cedar_c.proofs.BelowLemmas.{behind_held, behind_lacking, front_short, lies_below}
use Rattle.cedar_c.proofs.below.place_from.Goals as goal

pub overflow_sub-depth : goal.overflow_sub-depth
overflow_sub-depth g c =
    let first = c.args.first in
    omega (arith, front_short (g.T.Walked.shown c.args.trie.now) c.args.prefix.now first.depth first.slot c.requires.begins)

pub next_numbered-requires-clause-below : goal.next_numbered-requires-clause-below
next_numbered-requires-clause-below g c =
    let first = c.args.first in
    let comes = c.requires.first in
    let lies = lies_below (g.T.Walked.shown c.args.trie.now) c.args.prefix.now first.depth first.slot first.number comes.below comes.number c.requires.begins in
    (c.args.prefix.now, (lies.below, first.number, lies.number))

pub returns-then-is_held : goal.returns-then-is_held
returns-then-is_held g c =
    let T = g.T.Walked.shown c.args.trie.now in
    let prefix = c.args.prefix.now in
    let first = c.args.first in
    let comes = c.requires.first in
    let lies = lies_below T prefix first.depth first.slot first.number comes.below comes.number c.requires.begins in
    let left = visited_entries (left_at T prefix (first.depth - length prefix) first.slot) in
    let next = c.next_numbered.ensures prefix lies.below in (
      range_place T prefix left c.next_numbered.result next,
      ranged_is T prefix left c.next_numbered.result next
          ∙ behind_held _ T c.requires.well_formed c.requires.ordered c.args.behind.now first.depth first.slot first.number comes.below comes.number comes.entries prefix c.requires.begins
          (c.requires.held.0 c.if-is_held.true),
    )

pub returns : goal.returns
returns g c =
    let T = g.T.Walked.shown c.args.trie.now in
    let prefix = c.args.prefix.now in
    let first = c.args.first in
    let comes = c.requires.first in
    let lies = lies_below T prefix first.depth first.slot first.number comes.below comes.number c.requires.begins in
    let left = visited_entries (left_at T prefix (first.depth - length prefix) first.slot) in
    let fits : FitsSigned w32 first.number = search rules in (
      (lies.below, first.number, lies.number),
      ap (λ (v : ℤ). (prefix ++ path_to T (first.depth - length prefix) first.slot, v) ∷ map (behind_path prefix) left) (to_z-of_z w32 first.number fits)
          ∙ behind_lacking _ T c.requires.well_formed c.requires.ordered c.args.behind.now first.depth first.slot first.number comes.below comes.number comes.entries prefix c.requires.begins
          (λ some. true≢false (sym (c.requires.held.1 some) ∙ c.if-is_held.false)),
    )
