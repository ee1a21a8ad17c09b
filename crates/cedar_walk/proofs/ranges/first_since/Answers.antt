use Rattle.std.proofs.Common.{◌<◌, ◌∙◌, [], ap, arith, length, MatchOption, rules, subst, sym, ◌≡◌}
use Rattle.cedar_model.specs.Walks.{visited_entries}
use Rattle.cedar_table.specs.Table.Views.{fields}
use Rattle.cedar_model.specs.Meaning.WellFormed.{tree_of}
use Rattle.cedar_walk.specs.Ranges.{entries_since}
use Rattle.cedar_walk.specs.Visits.{ComesToNumber}
use Rattle.cedar_walk.proofs.WalkLemmas.NextNumber.{deep_not_root}
use Rattle.cedar_walk.proofs.WalkLemmas.Ranges.{empty_key, since_empty, since_short, since_whole, some_key}
use Rattle.cedar_walk.proofs.ranges.first_since.Goals as goal

pub returns-then-is_empty : goal.returns-then-is_empty
returns-then-is_empty g c =
    let key = c.args.key.now in
    since_empty (fields c.args.table.now) key c.first_numbered.result (empty_key key (sym c.is_empty.ensures ∙ c.if-is_empty.true)) c.first_numbered.ensures

pub numbered_from-requires : goal.numbered_from-requires
numbered_from-requires g c =
    let T = fields c.args.table.now in
    let k = c.requires.well_formed in
    let key = c.args.key.now in
    let reached = c.way_along-reached.result in
    let whole = since_whole _ T k c.requires.ordered key reached c.way_along-reached.ensures c.if-reached-key.true in
    let some : 0 < length c.args.key.now = some_key key (sym c.is_empty.ensures ∙ c.if-is_empty.false) in
    let deep : 0 < c.way_along-reached.result.depth = omega (arith, some, c.if-reached-key.true) in
    (search rules, record { well_formed = k; below = ([], whole.0); not_root = deep_not_root _ T k [] reached.depth reached.slot whole.0 deep })

pub returns-then-reached-key : goal.returns-then-reached-key
returns-then-reached-key g c =
    let T = fields c.args.table.now in
    let whole = since_whole _ T c.requires.well_formed c.requires.ordered c.args.key.now c.way_along-reached.result c.way_along-reached.ensures c.if-reached-key.true in
    subst (λ es. ComesToNumber T [] es c.numbered_from.result) (sym whole.1) (c.numbered_from.ensures [] whole.0)

pub place_above-requires : goal.place_above-requires
place_above-requires g c =
    let T = fields c.args.table.now in
    let short : c.way_along-reached.result.depth < length c.args.key.now = omega (arith, c.way_along-reached.ensures.within, c.if-reached-key.false) in
    let part = since_short _ T c.requires.well_formed c.requires.ordered c.args.key.now c.way_along-reached.result c.way_along-reached.ensures short in
    (search rules, (c.requires.well_formed, (c.requires.ordered, part.0)))

pub returns-in_err-place : goal.returns-in_err-place
returns-in_err-place g c =
    let T = fields c.args.table.now in
    let key = c.args.key.now in
    let short : c.way_along-reached.result.depth < length c.args.key.now = omega (arith, c.way_along-reached.ensures.within, c.if-reached-key.false) in
    let part = since_short _ T c.requires.well_formed c.requires.ordered key c.way_along-reached.result c.way_along-reached.ensures short in
    subst (λ found. MatchOption found (entries_since (tree_of T) key ≡ []) (ComesToNumber T [] (entries_since (tree_of T) key))) (sym c.from_residual.ensures) (part.1 ∙ ap visited_entries c.in_err-place.ensures)

pub numbered_from-requires-2 : goal.numbered_from-requires-2
numbered_from-requires-2 g c =
    let T = fields c.args.table.now in
    let k = c.requires.well_formed in
    let place = c.in_ok-place.place in
    let begins = c.in_ok-place.ensures in
    (search rules, record { well_formed = k; below = ([], begins.below); not_root = deep_not_root _ T k [] place.depth place.slot begins.below begins.deep })

pub returns : goal.returns
returns g c =
    let T = fields c.args.table.now in
    let short : c.way_along-reached.result.depth < length c.args.key.now = omega (arith, c.way_along-reached.ensures.within, c.if-reached-key.false) in
    let part = since_short _ T c.requires.well_formed c.requires.ordered c.args.key.now c.way_along-reached.result c.way_along-reached.ensures short in
    let begins = c.in_ok-place.ensures in
    subst (λ es. ComesToNumber T [] es c.numbered_from-2.result) (sym (part.1 ∙ begins.entries)) (c.numbered_from-2.ensures [] begins.below)
