use Rattle.std.proofs.Common.{◌≡◌, ◌∙◌, ◌+◌, ◌-◌, ◌<◌, ap, arith, drop, Err, get_or, length, List, map, pos, rules, subst, sym}
use Rattle.std.proofs.lemmas.List.{drop_all}
use Rattle.std.proofs.lemmas.Result.{err_from_is_err_and}
use Rattle.cedar_walk.specs.declared.visits.Numbered.{Numbered}
use Rattle.cedarwood.specs.Shrinking.{entry_of, IsEntryPlace, IsPutBack, LacksPlaces}
use Rattle.cedarwood.proofs.ShrinkLemmas.{lacking, place_fault, turn_put, turn_refused}
use Rattle.cedar_tree.proofs.GeneralLemmas.{all_at}
use Rattle.cedarwood.proofs.trie.Trie.put_entries.Goals as goal

pub loop-left-init : goal.loop-left-init
loop-left-init g c =
    let T = g.T.Walked.shown c.args.from.now in
    let places = c.args.places.now in
    record {
      within = omega arith;
      back = subst (λ (ps : List Numbered). IsPutBack g.L.Layout.kind c.args.self.now.state.ordered c.args.self.now.max_trial c.args.self.now.search_limit (map (entry_of T) ps) c.args.self.now) (sym (drop_all (length places) places (omega arith))) c.requires.empty;
    }

-- what follows the places
abbrev blank : Numbered
blank = record { slot = 0; depth = 0; number = pos 0 }

pub put_entry-requires : goal.put_entry-requires
put_entry-requires g c =
    let T = g.T.Walked.shown c.args.from.now in
    let places = c.args.places.now in
    let inside : c.loop-left.left - 1 < length places = omega (arith, c.loop-left.invariant.within, c.loop-left-test.true) in
    (search rules, (c.requires.well_formed, all_at (IsEntryPlace T) places (c.loop-left.left - 1) blank inside c.requires.places.each))

pub loop-left-preserved : goal.loop-left-preserved
loop-left-preserved g c =
    let T = g.T.Walked.shown c.args.from.now in
    let places = c.args.places.now in
    let left = c.loop-left.left in
    let i = left - 1 in
    let next : left ≡ i + 1 = omega (arith, c.loop-left-test.true) in
    let inside : i < length places = omega (arith, c.loop-left.invariant.within, c.loop-left-test.true) in
    let fine = place_fault g.T.Walked.slots T c.requires.well_formed (get_or places i blank) (all_at (IsEntryPlace T) places i blank inside c.requires.places.each) in
    record {
      within = omega (arith, c.loop-left.invariant.within);
      back = turn_put g.L.Layout.kind g.row.SLOTS c.args.self.now.state.ordered c.args.self.now.max_trial c.args.self.now.search_limit T places left i blank c.loop-left.self c.put_entry.new.trie next inside fine c.loop-left.invariant.back
          c.put_entry.result c.put_entry.ensures c.in_ok-put_entry.was;
    }

pub returns-in_err-put_entry : goal.returns-in_err-put_entry
returns-in_err-put_entry g c =
    let T = g.T.Walked.shown c.args.from.now in
    let places = c.args.places.now in
    let left = c.loop-left.left in
    let i = left - 1 in
    let next : left ≡ i + 1 = omega (arith, c.loop-left-test.true) in
    let inside : i < length places = omega (arith, c.loop-left.invariant.within, c.loop-left-test.true) in
    let fine = place_fault g.T.Walked.slots T c.requires.well_formed (get_or places i blank) (all_at (IsEntryPlace T) places i blank inside c.requires.places.each) in
    let error = c.in_err-put_entry.field-0.0 in
    let why = turn_refused g.L.Layout.kind g.row.SLOTS c.args.self.now.state.ordered c.args.self.now.max_trial c.args.self.now.search_limit T places left i blank c.loop-left.self c.put_entry.new.trie next inside fine c.loop-left.invariant.back
    c.put_entry.result c.put_entry.ensures error c.in_err-put_entry.was in
    let p = err_from_is_err_and c.from_residual.result c.from_residual.ensures.1 in
    lacking _ (LacksPlaces g.row.SLOTS (map (entry_of T) places)) c.from_residual.result error (p.1 ∙ ap Err p.2) why

pub returns : goal.returns
returns g c =
    let T = g.T.Walked.shown c.args.from.now in
    subst (λ n. IsPutBack g.L.Layout.kind c.args.self.now.state.ordered c.args.self.now.max_trial c.args.self.now.search_limit (map (entry_of T) (drop n c.args.places.now)) c.loop-left.self) c.loop-left-test.false c.loop-left.invariant.back

pub overflow_sub-left : goal.overflow_sub-left
overflow_sub-left g c = omega (arith, c.loop-left-test.true)

pub bounds-places-left : goal.bounds-places-left
bounds-places-left g c = omega (arith, c.loop-left.invariant.within, c.loop-left-test.true)

pub loop-left-smaller : goal.loop-left-smaller
loop-left-smaller g c = omega (arith, c.loop-left-test.true)
