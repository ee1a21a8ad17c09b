use Rattle.std.proofs.Common.{◌<◌, ◌≤◌, ◌∙◌, ap, length, List, option_map, refl, subst, sym, vec_capacity, ℕ}
use Rattle.std.specs.Borrow.{Bor}
use Rattle.cedar_walk.specs.Keys.{KeyOutgrows}
use Rattle.cedarwood.specs.Cursors.{Cursor, FindsNext}
use Rattle.cedarwood.proofs.CursorLemmas.{cursor_end_stays, cursor_ended, cursor_outgrows, cursor_some, cursor_waits}
use Rattle.cedarwood.proofs.queries.cursor.EntryCursor.advance.Goals as goal

pub invariant_of-self-in-Some-short_of : goal.invariant_of-self-in-Some-short_of
invariant_of-self-in-Some-short_of g c =
    let T = g.T.Walked.shown c.self.inside.trie.now in
    let start = c.self.inside.start.now in
    let to = option_map (λ (bound : Bor (List ℕ)). bound.now) c.self.inside.to in
    let place = c.self.inside.place in
    let end = c.self.inside.end in
    let i = c.self.invariant in
    let next = c.in-Some-short_of.next in
    let finds = subst (FindsNext T start place) c.in-Some-short_of.ensures.0 (c.next_unwritten.ensures start c.self.inside.key.items i.1) in
    (i.0, finds.1, i.2, cursor_end_stays g.T.Walked.slots T i.0 start to place end i.2 i.3 next finds)

pub returns-in-None-clause-found : goal.returns-in-None-clause-found
returns-in-None-clause-found g c =
    let T = g.T.Walked.shown c.self.inside.trie.now in
    let start = c.self.inside.start.now in
    let to = option_map (λ (bound : Bor (List ℕ)). bound.now) c.self.inside.to in
    let i = c.self.invariant in
    let gone = cursor_ended g.T.Walked.slots T i.0 start to c.self.inside.place c.self.inside.end i.2 i.3 c.in-Ok.found c.in-Ok.ensures.written.finds c.in-None.ensures in
    (sym (ap (λ (it : Cursor). it.left) c.self.view_is) ∙ gone, refl)

pub returns-in-Some-short_of-clause-refused : goal.returns-in-Some-short_of-clause-refused
returns-in-Some-short_of-clause-refused g c =
    let T = g.T.Walked.shown c.self.inside.trie.now in
    let start = c.self.inside.start.now in
    let to = option_map (λ (bound : Bor (List ℕ)). bound.now) c.self.inside.to in
    let place = c.self.inside.place in
    let end = c.self.inside.end in
    let i = c.self.invariant in
    let next = c.in-Some-short_of.next in
    let finds = subst (FindsNext T start place) c.in-Some-short_of.ensures.0 (c.next_unwritten.ensures start c.self.inside.key.items i.1) in
    let some = cursor_some g.T.Walked.slots T i.0 start to place end i.2 i.3 next finds c.in-Some-short_of.ensures.1 in
    let left = ap (λ (it : Cursor). it.left) c.self.view_is in
    (refl, cursor_waits g.T.Walked.slots T i.0 start to place end i.2 i.3 next finds ∙ left, subst (λ es. 0 < length es) left some)

pub returns-in-None-short_of-clause-found : goal.returns-in-None-short_of-clause-found
returns-in-None-short_of-clause-found g c =
    let T = g.T.Walked.shown c.self.inside.trie.now in
    let start = c.self.inside.start.now in
    let to = option_map (λ (bound : Bor (List ℕ)). bound.now) c.self.inside.to in
    let i = c.self.invariant in
    let gone = cursor_ended g.T.Walked.slots T i.0 start to c.self.inside.place c.self.inside.end i.2 i.3 c.next_unwritten.result (c.next_unwritten.ensures start c.self.inside.key.items i.1) c.in-None-short_of.ensures in
    (sym (ap (λ (it : Cursor). it.left) c.self.view_is) ∙ gone, refl)

pub returns-in-Some-short_of-clause-full : goal.returns-in-Some-short_of-clause-full
returns-in-Some-short_of-clause-full g c =
    let T = g.T.Walked.shown c.self.inside.trie.now in
    let start = c.self.inside.start.now in
    let to = option_map (λ (bound : Bor (List ℕ)). bound.now) c.self.inside.to in
    let place = c.self.inside.place in
    let end = c.self.inside.end in
    let i = c.self.invariant in
    let next = c.in-Some-short_of.next in
    let finds = subst (FindsNext T start place) c.in-Some-short_of.ensures.0 (c.next_unwritten.ensures start c.self.inside.key.items i.1) in
    subst (λ (it : Cursor). KeyOutgrows it.room it.left) c.self.view_is
    (cursor_outgrows g.T.Walked.slots T i.0 start to place end i.2 i.3 (vec_capacity c.self.inside.key) next finds c.in-Some-short_of.ensures.1 c.in-Err.ensures.full)

-- the buffer is at least as large as before, whatever the result
pub returns-in-Some-clause-room : goal.returns-in-Some-clause-room
returns-in-Some-clause-room g c = subst (λ (it : Cursor). it.room ≤ vec_capacity c.next_written.new.key) c.self.view_is c.next_written.ensures.capacity

pub returns-in-None-clause-room : goal.returns-in-None-clause-room
returns-in-None-clause-room g c = subst (λ (it : Cursor). it.room ≤ vec_capacity c.next_written.new.key) c.self.view_is c.next_written.ensures.capacity

pub returns-in-Some-short_of-clause-room : goal.returns-in-Some-short_of-clause-room
returns-in-Some-short_of-clause-room g c = subst (λ (it : Cursor). it.room ≤ vec_capacity c.next_written.new.key) c.self.view_is c.next_written.ensures.capacity

pub returns-in-None-short_of-clause-room : goal.returns-in-None-short_of-clause-room
returns-in-None-short_of-clause-room g c = subst (λ (it : Cursor). it.room ≤ vec_capacity c.next_written.new.key) c.self.view_is c.next_written.ensures.capacity
