use Rattle.std.proofs.Common.{◌≡◌, ◌-◌, ap, arith, length, rules, subst, sym, vec_capacity}
use Rattle.cedar_model.specs.Walks.{visited_entries}
use Rattle.cedar_table.specs.Table.Views.{fields}
use Rattle.cedar_walk.specs.Keys.{NextKeyOutgrows}
use Rattle.cedar_walk.specs.Visits.{ComesToNumber, entries_at, left_at, visited_at}
use Rattle.cedar_walk.proofs.WalkLemmas.Keys.{first_outgrows, key_turns, next_outgrows, outgrows_less}
use Rattle.cedar_walk.proofs.WalkLemmas.NextNode.{path_length}
use Rattle.cedar_walk.proofs.WalkLemmas.NextNumber.{deep_not_root}
use Rattle.cedar_model.proofs.GeneralLemmas.{on_err}
use Rattle.cedar_walk.proofs.keys.numbered_after_with_key.Goals as goal

pub overflow_sub-place : goal.overflow_sub-place
overflow_sub-place g c =
    let comes = c.in-Some.ensures c.requires.below.0 c.requires.below.1.0 in
    omega (arith, comes.deep.0)

pub overflow_add-front : goal.overflow_add-front
overflow_add-front g c =
    let T = fields c.args.table.now in
    let comes = c.in-Some.ensures c.requires.below.0 c.requires.below.1.0 in
    omega (arith, comes.deep.0, comes.deep.1, path_length T c.args.depth c.args.node, c.len.ensures, c.args.key.now.ok, c.requires.room)

pub numbered_from_with_key-requires : goal.numbered_from_with_key-requires
numbered_from_with_key-requires g c =
    let T = fields c.args.table.now in
    let start = c.requires.below.0 in
    let place = c.in-Some.place in
    let comes = c.in-Some.ensures start c.requires.below.1.0 in
    (search rules, record { well_formed = c.requires.well_formed; below = (start, comes.below); not_root = deep_not_root _ T c.requires.well_formed start place.depth place.slot comes.below comes.deep.0 })

pub returns-clause-found : goal.returns-clause-found
returns-clause-found g c = λ start at.
    let T = fields c.args.table.now in
    let comes = c.in-Some.ensures start at in
    subst (λ left. ComesToNumber T start left c.in_ok-next.next) (sym (ap visited_entries comes.visits)) (c.in_ok-next.ensures.found start comes.below)

pub returns-clause-key : goal.returns-clause-key
returns-clause-key g c = λ front so_far.
    let T = fields c.args.table.now in
    let start = c.requires.below.0 in
    let n = c.args.depth in
    let s = c.args.node in
    let key = c.args.key.now.items in
    let comes = c.in-Some.ensures start c.requires.below.1.0 in
    let f : c.len.result - c.args.depth ≡ length c.args.key.now.items - c.args.depth = omega (arith, c.len.ensures, c.args.key.now.ok) in
    c.in_ok-next.ensures.key front
    (key_turns T start n s (left_at T start n s) (visited_at T start c.in-Some.place) key (c.len.result - n) c.truncate.new.self.items c.push.new.self.items f comes c.truncate.ensures.items c.in_ok-push.ensures.items front so_far)

-- the first label has no room
pub returns-in_err-push-clause-full : goal.returns-in_err-push-clause-full
returns-in_err-push-clause-full g c =
    let T = fields c.args.table.now in
    let key = c.args.key.now in
    let place = c.in-Some.place in
    let room = vec_capacity key - (length key.items - c.args.depth) in
    let small : NextKeyOutgrows T c.args.depth c.args.node (length key.items) (vec_capacity key) = λ start at.
    (let comes = c.in-Some.ensures start at in
    next_outgrows T start room c.args.depth c.args.node place comes
    (first_outgrows _ T c.requires.well_formed start room place.depth place.slot comes.below
    (deep_not_root _ T c.requires.well_formed start place.depth place.slot comes.below comes.deep.0)
    (omega (arith, c.in_err-push.ensures.full, c.truncate.ensures.len, c.truncate.ensures.capacity, c.len.ensures, key.ok, c.requires.room, comes.deep.0)))) in
    on_err c.from_residual.result small

-- or a further one has none
pub returns-in_err-next-clause-full : goal.returns-in_err-next-clause-full
returns-in_err-next-clause-full g c =
    let T = fields c.args.table.now in
    let key = c.args.key.now in
    let pushed = c.push.new.self in
    let place = c.in-Some.place in
    let room = vec_capacity key - (length key.items - c.args.depth) in
    let small : NextKeyOutgrows T c.args.depth c.args.node (length key.items) (vec_capacity key) = λ start at.
    (let comes = c.in-Some.ensures start at in
    next_outgrows T start room c.args.depth c.args.node place comes
    (outgrows_less (vec_capacity pushed - (length pushed.items - place.depth)) room (entries_at T start place.depth place.slot)
    (omega (arith, c.truncate.ensures.len, c.truncate.ensures.capacity, c.in_ok-push.ensures.len, c.in_ok-push.ensures.capacity, c.len.ensures, key.ok, pushed.ok, c.requires.room, comes.deep.0, comes.deep.1, path_length T c.args.depth c.args.node))
    (c.in_err-next.ensures.full start comes.below))) in
    on_err c.from_residual-in_err-next.result small
