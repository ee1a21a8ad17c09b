use Rattle.std.proofs.Common.{◌≡◌, ◌∙◌, ◌+◌, ◌<◌, ◌^◌, ◌∷◌, ℤ, FitsSigned, ap, arith, get_or, length, pos, refl, rules, subst, sym, w32}
use Rattle.std.proofs.lemmas.Int.{to_z-of_z}
use Rattle.std.proofs.lemmas.List.{get_or_default}
use Rattle.cedar_scan.specs.Automata.{slot_of_path}
use Rattle.cedar_scan.specs.declared.falls.Popped.{Popped}
use Rattle.cedar_scan.specs.declared.leftmost.KeywordCursor.{KeywordCursor}
use Rattle.cedar_scan.specs.Keywords.{IsKeywordCursor, keywords_left, tests_left}
use Rattle.cedar_scan.proofs.KeywordLemmas.{cursor_next, ended, gives_key, key_fits, went_on}
use Rattle.cedar_scan.proofs.leftmost.next_keyword.Goals as goal

pub loop-cursor-init : goal.loop-cursor-init
loop-cursor-init g c = record { cursor = c.requires.cursor; keywords = refl; cost = omega arith }

pub returns-then-not-told-clause-gives : goal.returns-then-not-told-clause-gives
returns-then-not-told-clause-gives g c =
    let end = ended (g.T.Placed.tree c.args.trie.now) (slot_of_path c.args.states.now) c.args.states.now c.args.falls.now c.args.popped.now c.requires.automaton c.args.text.now c.loop-cursor.cursor c.go_on-told.result c.go_on-told.new.cursor c.loop-cursor.ticks c.go_on-told.new.ticks c.go_on-told.ensures c.if-not-told.true in
    (c.loop-cursor.invariant.keywords ∙ end.0, ap (λ (k : KeywordCursor). keywords_left (g.T.Placed.tree c.args.trie.now) c.args.states.now c.args.popped.now c.args.text.now k) end.1 ∙ end.0)

pub returns-then-not-told-clause-cursor : goal.returns-then-not-told-clause-cursor
returns-then-not-told-clause-cursor g c =
    let end = ended (g.T.Placed.tree c.args.trie.now) (slot_of_path c.args.states.now) c.args.states.now c.args.falls.now c.args.popped.now c.requires.automaton c.args.text.now c.loop-cursor.cursor c.go_on-told.result c.go_on-told.new.cursor c.loop-cursor.ticks c.go_on-told.new.ticks c.go_on-told.ensures c.if-not-told.true in
    subst (IsKeywordCursor (g.T.Placed.tree c.args.trie.now) (slot_of_path c.args.states.now) c.args.states.now c.args.popped.now c.args.text.now) (sym end.1) c.loop-cursor.invariant.cursor

pub returns-then-not-told-clause-cost : goal.returns-then-not-told-clause-cost
returns-then-not-told-clause-cost g c =
    let end = ended (g.T.Placed.tree c.args.trie.now) (slot_of_path c.args.states.now) c.args.states.now c.args.falls.now c.args.popped.now c.requires.automaton c.args.text.now c.loop-cursor.cursor c.go_on-told.result c.go_on-told.new.cursor c.loop-cursor.ticks c.go_on-told.new.ticks c.go_on-told.ensures c.if-not-told.true in
    let so_far = c.loop-cursor.invariant.cost in
    let same = ap (tests_left (g.T.Placed.tree c.args.trie.now) c.args.states.now c.args.text.now) end.1 in
    let none = end.2 in
    omega (arith, so_far, same, none)

pub loop-cursor-smaller : goal.loop-cursor-smaller
loop-cursor-smaller g c =
    (went_on (g.T.Placed.tree c.args.trie.now) (slot_of_path c.args.states.now) c.args.states.now c.args.falls.now c.args.popped.now c.requires.automaton c.args.text.now c.loop-cursor.cursor c.go_on-told.result c.go_on-told.new.cursor c.loop-cursor.ticks c.go_on-told.new.ticks c.go_on-told.ensures c.if-not-told.false).fewer

pub loop-cursor-preserved : goal.loop-cursor-preserved
loop-cursor-preserved g c =
    let step = went_on (g.T.Placed.tree c.args.trie.now) (slot_of_path c.args.states.now) c.args.states.now c.args.falls.now c.args.popped.now c.requires.automaton c.args.text.now c.loop-cursor.cursor c.go_on-told.result c.go_on-told.new.cursor c.loop-cursor.ticks c.go_on-told.new.ticks c.go_on-told.ensures c.if-not-told.false in
    let so_far = c.loop-cursor.invariant.cost in
    let more = step.cost in
    record { cursor = step.cursor; keywords = c.loop-cursor.invariant.keywords ∙ step.keywords; cost = omega (arith, so_far, more) }

pub bounds-popped-cursor : goal.bounds-popped-cursor
bounds-popped-cursor g c =
    let at = c.loop-cursor.invariant.cursor in
    let range = at.range in
    let inside = at.inside in
    let other = c.loop-cursor-test.false in
    omega (arith, range, inside, other)

pub overflow_add-start : goal.overflow_add-start
overflow_add-start g c =
    let at = c.loop-cursor.invariant.cursor in
    let cursor = c.loop-cursor.cursor in
    let range = at.range in
    let other = c.loop-cursor-test.false in
    let some : cursor.next < cursor.last = omega (arith, range, other) in
    let key : Popped = get_or c.args.popped.now cursor.next (record { before = 0; len = 0; value = pos 0 }) in
    let inside = at.inside in
    let is : key ≡ get_or c.args.popped.now cursor.next key = get_or_default c.args.popped.now cursor.next (record { before = 0; len = 0; value = pos 0 }) key (omega (arith, some, inside)) in
    let fits = key_fits (g.T.Placed.tree c.args.trie.now) (slot_of_path c.args.states.now) c.args.states.now c.args.falls.now c.args.popped.now c.requires.automaton c.args.text.now cursor at some key is _ refl in
    let within = at.within in
    let short : length c.args.text.now < 2 ^ 64 = search rules in
    omega (arith, fits, within, short)

pub returns-clause-gives : goal.returns-clause-gives
returns-clause-gives g c =
    let at = c.loop-cursor.invariant.cursor in
    let cursor = c.loop-cursor.cursor in
    let range = at.range in
    let other = c.loop-cursor-test.false in
    let some : cursor.next < cursor.last = omega (arith, range, other) in
    let key : Popped = get_or c.args.popped.now cursor.next (record { before = 0; len = 0; value = pos 0 }) in
    let inside = at.inside in
    let is : key ≡ get_or c.args.popped.now cursor.next key = get_or_default c.args.popped.now cursor.next (record { before = 0; len = 0; value = pos 0 }) key (omega (arith, some, inside)) in
    let fits : FitsSigned w32 key.value = search rules in
    let new : KeywordCursor = record { place = cursor.place; slot = cursor.slot; base = cursor.base; next = cursor.next + 1; last = cursor.last } in
    c.loop-cursor.invariant.keywords ∙ gives_key (g.T.Placed.tree c.args.trie.now) (slot_of_path c.args.states.now) c.args.states.now c.args.falls.now c.args.popped.now c.requires.automaton c.args.text.now cursor at some key is new refl
    ∙ ap (λ (v : ℤ). (cursor.base + key.before, key.len, v) ∷ keywords_left (g.T.Placed.tree c.args.trie.now) c.args.states.now c.args.popped.now c.args.text.now new) (sym (to_z-of_z w32 key.value fits))

pub returns-clause-cursor : goal.returns-clause-cursor
returns-clause-cursor g c =
    let at = c.loop-cursor.invariant.cursor in
    let cursor = c.loop-cursor.cursor in
    let range = at.range in
    let other = c.loop-cursor-test.false in
    let some : cursor.next < cursor.last = omega (arith, range, other) in
    let key : Popped = get_or c.args.popped.now cursor.next (record { before = 0; len = 0; value = pos 0 }) in
    let inside = at.inside in
    let is : key ≡ get_or c.args.popped.now cursor.next key = get_or_default c.args.popped.now cursor.next (record { before = 0; len = 0; value = pos 0 }) key (omega (arith, some, inside)) in
    cursor_next (g.T.Placed.tree c.args.trie.now) (slot_of_path c.args.states.now) c.args.states.now c.args.falls.now c.args.popped.now c.requires.automaton c.args.text.now cursor at some key is _ refl
