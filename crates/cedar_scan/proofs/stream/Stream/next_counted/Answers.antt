use Rattle.std.proofs.Common.{◌≡◌, ◌+◌, ◌-◌, ◌<◌, ◌^◌, List, ℕ, ℤ, FitsSigned, None, Option, Some, ap, arith, drop, is_some, length, refl, rules, take, w32}
use Rattle.std.proofs.lemmas.Int.{to_z-of_z}
use Rattle.std.proofs.lemmas.List.{length-drop, take_all}
use Rattle.cedar_scan.specs.Automata.{slot_of_path}
use Rattle.cedar_scan.specs.Streams.{StreamAt}
use Rattle.cedar_scan.proofs.StreamLemmas.{costs_in_piece, ends_piece, found_short, gives_in_piece, goes_on, stream_cursor, within_piece}
use Rattle.cedar_scan.proofs.stream.Stream.next_counted.Goals as goal

-- the rest of a piece
rest_of : (piece : List ℕ) (from : ℕ) → take (length piece - from) (drop from piece) ≡ drop from piece
rest_of piece from = let left = length-drop from piece in take_all (length piece - from) (drop from piece) (omega (arith, left))

pub next_found-found-requires-clause-cursor : goal.next_found-found-requires-clause-cursor
next_found-found-requires-clause-cursor g c =
    let s = c.self.inside in
    let is = c.self.invariant in
    let piece = c.args.piece.now in
    let from = c.min-from.result in
    (is.suffix, stream_cursor (g.T.Placed.tree s.trie.now) (slot_of_path s.states.now) s.states.now s.keys.now s.state s.pending s.place is (take (length piece - from) (drop from piece)))

pub overflow_add-end : goal.overflow_add-end
overflow_add-end g c =
    let s = c.self.inside in
    let is = c.self.invariant in
    let t = g.T.Placed.tree s.trie.now in
    let slots = slot_of_path s.states.now in
    let piece = c.args.piece.now in
    let from = c.min-from.result in
    let rest = take (length piece - from) (drop from piece) in
    let new = c.next_found-found.new.cursor in
    let gives = c.next_found-found.ensures.gives is.suffix s.place (stream_cursor t slots s.states.now s.keys.now s.state s.pending s.place is rest) in
    let within = within_piece t slots s.states.now s.keys.now s.state s.pending s.place is piece s.read from c.min-from.ensures rest (rest_of piece from) new (s.place + new.place) refl c.next_found-found.result gives in
    let place = ap (λ (w : StreamAt). w.place) c.self.view_is in
    let fits = c.requires in
    omega (arith, within, place, fits)

pub invariant_of-self : goal.invariant_of-self
invariant_of-self g c =
    let s = c.self.inside in
    let is = c.self.invariant in
    let t = g.T.Placed.tree s.trie.now in
    let slots = slot_of_path s.states.now in
    let piece = c.args.piece.now in
    let from = c.min-from.result in
    let rest = take (length piece - from) (drop from piece) in
    let new = c.next_found-found.new.cursor in
    let gives = c.next_found-found.ensures.gives is.suffix s.place (stream_cursor t slots s.states.now s.keys.now s.state s.pending s.place is rest) in
    goes_on t slots s.states.now s.keys.now s.state s.pending s.place is piece s.read from c.min-from.ensures rest (rest_of piece from) new (s.place + new.place) refl c.next_found-found.result gives

pub returns-in_default-clause-gives : goal.returns-in_default-clause-gives
returns-in_default-clause-gives g c =
    let s = c.self.inside in
    let is = c.self.invariant in
    let t = g.T.Placed.tree s.trie.now in
    let slots = slot_of_path s.states.now in
    let piece = c.args.piece.now in
    let from = c.min-from.result in
    let rest = take (length piece - from) (drop from piece) in
    let new = c.next_found-found.new.cursor in
    let gives = c.next_found-found.ensures.gives is.suffix s.place (stream_cursor t slots s.states.now s.keys.now s.state s.pending s.place is rest) in
    ends_piece t slots s.states.now s.keys.now s.state s.pending s.place is piece s.read from c.min-from.ensures rest (rest_of piece from) new (s.place + new.place) refl c.next_found-found.result gives
    c.in_default.is c.args.self.now c.self.view_is

pub returns-in_default-clause-cost : goal.returns-in_default-clause-cost
returns-in_default-clause-cost g c =
    let s = c.self.inside in
    let is = c.self.invariant in
    let t = g.T.Placed.tree s.trie.now in
    let slots = slot_of_path s.states.now in
    let piece = c.args.piece.now in
    let from = c.min-from.result in
    let rest = take (length piece - from) (drop from piece) in
    let new = c.next_found-found.new.cursor in
    let gives = c.next_found-found.ensures.gives is.suffix s.place (stream_cursor t slots s.states.now s.keys.now s.state s.pending s.place is rest) in
    costs_in_piece t slots s.states.now s.keys.now s.state s.pending s.place is piece s.read from c.min-from.ensures rest (rest_of piece from) new (s.place + new.place) refl c.next_found-found.result gives
    _ _ c.next_found-found.ensures.cost None (ap is_some c.in_default.is) 0 c.args.self.now c.self.view_is

pub overflow_add-self : goal.overflow_add-self
overflow_add-self g c =
    let s = c.self.inside in
    let is = c.self.invariant in
    let t = g.T.Placed.tree s.trie.now in
    let slots = slot_of_path s.states.now in
    let piece = c.args.piece.now in
    let from = c.min-from.result in
    let rest = take (length piece - from) (drop from piece) in
    let new = c.next_found-found.new.cursor in
    let gives = c.next_found-found.ensures.gives is.suffix s.place (stream_cursor t slots s.states.now s.keys.now s.state s.pending s.place is rest) in
    let within = within_piece t slots s.states.now s.keys.now s.state s.pending s.place is piece s.read from c.min-from.ensures rest (rest_of piece from) new (s.place + new.place) refl c.next_found-found.result gives in
    let short : length piece < 2 ^ 64 = search rules in
    omega (arith, within, short)

pub overflow_sub-result : goal.overflow_sub-result
overflow_sub-result g c =
    let s = c.self.inside in
    let is = c.self.invariant in
    let t = g.T.Placed.tree s.trie.now in
    let slots = slot_of_path s.states.now in
    let piece = c.args.piece.now in
    let from = c.min-from.result in
    let rest = take (length piece - from) (drop from piece) in
    let new = c.next_found-found.new.cursor in
    let gives = c.next_found-found.ensures.gives is.suffix s.place (stream_cursor t slots s.states.now s.keys.now s.state s.pending s.place is rest) in
    found_short t slots s.states.now s.keys.now s.state s.pending s.place is piece s.read from c.min-from.ensures rest (rest_of piece from) new (s.place + new.place) refl c.next_found-found.result gives
    c.in-Some.found c.in-Some.is

pub invariant_of-self-2 : goal.invariant_of-self-2
invariant_of-self-2 g c =
    let s = c.self.inside in
    let is = c.self.invariant in
    let t = g.T.Placed.tree s.trie.now in
    let slots = slot_of_path s.states.now in
    let piece = c.args.piece.now in
    let from = c.min-from.result in
    let rest = take (length piece - from) (drop from piece) in
    let new = c.next_found-found.new.cursor in
    let gives = c.next_found-found.ensures.gives is.suffix s.place (stream_cursor t slots s.states.now s.keys.now s.state s.pending s.place is rest) in
    goes_on t slots s.states.now s.keys.now s.state s.pending s.place is piece s.read from c.min-from.ensures rest (rest_of piece from) new (s.place + new.place) refl c.next_found-found.result gives

pub returns-clause-gives : goal.returns-clause-gives
returns-clause-gives g c =
    let s = c.self.inside in
    let is = c.self.invariant in
    let t = g.T.Placed.tree s.trie.now in
    let slots = slot_of_path s.states.now in
    let piece = c.args.piece.now in
    let from = c.min-from.result in
    let rest = take (length piece - from) (drop from piece) in
    let new = c.next_found-found.new.cursor in
    let gives = c.next_found-found.ensures.gives is.suffix s.place (stream_cursor t slots s.states.now s.keys.now s.state s.pending s.place is rest) in
    let fits : FitsSigned w32 c.in-Some.found.value = search rules in
    gives_in_piece t slots s.states.now s.keys.now s.state s.pending s.place is piece s.read from c.min-from.ensures rest (rest_of piece from) new (s.place + new.place) refl c.next_found-found.result gives
    c.in-Some.found c.in-Some.is (from + new.place) refl _ (to_z-of_z w32 c.in-Some.found.value fits) c.args.self.now c.self.view_is

pub returns-clause-cost : goal.returns-clause-cost
returns-clause-cost g c =
    let s = c.self.inside in
    let is = c.self.invariant in
    let t = g.T.Placed.tree s.trie.now in
    let slots = slot_of_path s.states.now in
    let piece = c.args.piece.now in
    let from = c.min-from.result in
    let rest = take (length piece - from) (drop from piece) in
    let new = c.next_found-found.new.cursor in
    let gives = c.next_found-found.ensures.gives is.suffix s.place (stream_cursor t slots s.states.now s.keys.now s.state s.pending s.place is rest) in
    let later = s.place + new.place in
    let one : Option (ℕ × ℕ × ℤ) = Some (later - c.in-Some.found.len, c.in-Some.found.len, c.in-Some.found.value) in
    costs_in_piece t slots s.states.now s.keys.now s.state s.pending s.place is piece s.read from c.min-from.ensures rest (rest_of piece from) new later refl c.next_found-found.result gives
    _ _ c.next_found-found.ensures.cost one (ap is_some c.in-Some.is) (from + new.place) c.args.self.now c.self.view_is
