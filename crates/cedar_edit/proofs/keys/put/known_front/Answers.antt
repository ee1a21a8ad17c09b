use Rattle.std.proofs.Common.{◌≡◌, ◌<◌, ◌∙◌, ◌+◌, [], ap, arith, drop, length, get_or, refl, rules, subst, sym, take}
use Rattle.std.proofs.lemmas.Grind.{common_steps}
use Rattle.cedar_model.specs.Edit.KeyWalk.{Walked}
use Rattle.cedar_table.specs.Table.Views.{cells, fields}
use Rattle.cedar_model.specs.Table.TableFields.{size_of}
use Rattle.cedar_slots.specs.Views.{places_of}
use Rattle.cedar_model.proofs.MeaningLemmas.NodeAtPath.{at_node}
use Rattle.cedar_model.proofs.UpdateLemmas.BlocksMade.{made_none, same_slots}
use Rattle.cedar_model.proofs.MeaningLemmas.SearchStep.{never_nothing}
use Rattle.cedar_model.proofs.MeaningLemmas.KeyPath.{slot_within}
use Rattle.cedar_model.proofs.UpdateLemmas.ChildReached.{child_there}
use Rattle.cedar_model.proofs.TreeLemmas.{key_is_path}
use Rattle.cedar_model.proofs.UpdateLemmas.AlongKey.{walk_begins, walked_all, walked_at, walked_on, walked_to}
use Rattle.cedar_edit.proofs.keys.put.known_front.Goals as goal

pub loop-length-init : goal.loop-length-init
loop-length-init g c = walk_begins g.row.SLOTS (fields c.args.table.now) c.args.key.now c.requires.well_formed (key_is_path c.args.key.now c.requires.key)

pub slot_below-slot-requires : goal.slot_below-slot-requires
slot_below-slot-requires g c =
    let T = fields c.args.table.now in
    let i = c.loop-length.invariant in
    (search rules, (i.inside, never_nothing (size_of T) (cells c.args.table.now) c.loop-length.node _ (at_node (size_of T) (cells c.args.table.now) i.forest (take c.loop-length.length c.args.key.now) c.loop-length.node i.holds i.at)))

pub is_owned_by-requires : goal.is_owned_by-requires
is_owned_by-requires g c =
    let T = fields c.args.table.now in
    let i = c.loop-length.invariant in
    let small : get_or c.args.key.now c.loop-length.length 0 < 256 = omega (arith, c.type_inv.key c.loop-length.length) in
    let inside = slot_within (size_of T) (cells c.args.table.now) i.forest (take c.loop-length.length c.args.key.now) c.loop-length.node i.holds i.at (get_or c.args.key.now c.loop-length.length 0) (omega (arith, i.inside)) (omega arith) small in
    (search rules, (subst (λ s. s < size_of T) (sym c.slot_below-slot.ensures) inside, i.inside))

pub loop-length-preserved : goal.loop-length-preserved
loop-length-preserved g c =
    let T = fields c.args.table.now in
    let i = c.loop-length.invariant in
    let key = c.args.key.now in
    let n = c.loop-length.length in
    let s = c.slot_below-slot.result in
    let k = walked_at g.row.SLOTS T T key n c.loop-length.node c.loop-length-test.true i in
    let none = made_none T T (same_slots (places_of c.args.table.now.places)) in
    let small : get_or key n 0 < 256 = omega (arith, c.type_inv.key n) in
    let inside = slot_within (size_of T) (cells c.args.table.now) i.forest (take n key) c.loop-length.node i.holds i.at (get_or key n 0) (omega (arith, i.inside)) (omega arith) small in
    let there = child_there T i.forest c.loop-length.node (get_or key n 0) s i.holds c.slot_below-slot.ensures k.bytes.0 (subst (λ s. s < size_of T) (sym c.slot_below-slot.ensures) inside) (c.is_owned_by.ensures.0 c.if-not-is_owned_by.false) in
    walked_to g.row.SLOTS T T key n s c.loop-length-test.true
    (walked_on g.row.SLOTS T T T key (take n key) (drop (n + 1) key) (get_or key n 0) c.loop-length.node s c.requires.well_formed.sound k
    (record { table = k.table; stepped = there; blocks = (0, omega arith, none); owned = λ _. none; stays = λ _. refl; root_step = λ _. none; root_check = refl; settings = record { ordered = refl; entries = refl; max_trial = refl } }))

pub returns-clause-walked : goal.returns-clause-walked
returns-clause-walked g c =
    let T = fields c.args.table.now in
    let key = c.args.key.now in
    let node = c.loop-length.node in
    let all : take (length key) key ≡ key = grind (arith, common_steps) in
    let none : drop (length key) key ≡ [] = grind (arith, common_steps) in
    subst (λ rest. Walked g.row.SLOTS T T key (take (length key) key) rest node) (sym none)
    (subst (λ w. Walked g.row.SLOTS T T key w [] node) (sym all) (walked_all g.row.SLOTS T T key c.loop-length.length node c.loop-length-test.false c.loop-length.invariant))

pub returns-then-not-is_owned_by-clause-ends : goal.returns-then-not-is_owned_by-clause-ends
returns-then-not-is_owned_by-clause-ends g c = λ _ o.
    let T = cells c.args.table.now in
    let yes = c.is_owned_by.ensures.1 (ap T.check c.slot_below-slot.ensures ∙ o) in
    let no = c.if-not-is_owned_by.true in
    absurd (cc)
