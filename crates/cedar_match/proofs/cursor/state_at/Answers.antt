use Rattle.std.proofs.Common.{◌≡◌, ◌∙◌, ◌-◌, ◌<◌, ap, arith, length, Some, suc, sym, take}
use Rattle.std.specs.Prelude.{fold, slice_get}
use Rattle.std.proofs.lemmas.Option.{slice_get_read}
use Rattle.cedar_match.proofs.MatchLemmas.{states_get, states_long}
use Rattle.cedar_match.proofs.cursor.state_at.Goals as goal

pub offset_bounds-states-depth : goal.offset_bounds-states-depth
offset_bounds-states-depth g c =
    let long = ap length c.requires.states ∙ states_long (g.M.Automaton.after c.args.automaton.now) (g.M.Automaton.may_match c.args.automaton.now) (g.M.Automaton.initial c.args.automaton.now) c.args.key.now in
    omega (arith, long, c.requires.within)

pub bounds-states-depth : goal.bounds-states-depth
bounds-states-depth g c =
    let long = ap length c.requires.states ∙ states_long (g.M.Automaton.after c.args.automaton.now) (g.M.Automaton.may_match c.args.automaton.now) (g.M.Automaton.initial c.args.automaton.now) c.args.key.now in
    omega (arith, long, c.requires.within, c.if-depth-eq0.false)

pub returns : goal.returns
returns g c =
    let after = g.M.Automaton.after c.args.automaton.now in
    let first = g.M.Automaton.initial c.args.automaton.now in
    let key = c.args.key.now in
    let n = c.args.depth - 1 in
    let found = c.index-states-depth.result in
    let low : n < length key = omega (arith, c.requires.within, c.if-depth-eq0.false) in
    let long = ap length c.requires.states ∙ states_long after (g.M.Automaton.may_match c.args.automaton.now) first key in
    let read = slice_get_read c.args.states.now (length key) n found (sym long) low c.index-states-depth.is in
    let there = ap (λ xs. slice_get xs n) c.requires.states ∙ states_get after (g.M.Automaton.may_match c.args.automaton.now) first key n low in
    let same : Some found ≡ Some (fold after first (take (suc n) key)) = sym read ∙ there in
    let end : found ≡ fold after first (take (suc n) key) = cc in
    let whole : suc n ≡ c.args.depth = omega (arith, c.if-depth-eq0.false) in
    end ∙ ap (λ m. fold after first (take m key)) whole
