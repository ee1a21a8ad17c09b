use Rattle.std.proofs.Common.{rules, ◌≢◌, ◌∙◌, ◌<◌, ap, arith, refl, subst, sym}
use Rattle.std.specs.Prelude.{pos}
use Rattle.cedar_model.specs.Table.Cells.{Held}
use Rattle.cedar_model.specs.Meaning.Family.{base_of, below}
use Rattle.cedar_table.specs.Table.Views.{cells, fields}
use Rattle.cedar_model.specs.Table.TableFields.{size_of}
use Rattle.cedar_slots.specs.Views.{places_of}
use Rattle.cedar_model.proofs.UpdateLemmas.BlocksMade.{framed_none, growth_none, growth_nothing, made_none, same_slots}
use Rattle.cedar_model.proofs.EditLemmas.KeptSlotGiven.{slot_far}
use Rattle.cedar_model.proofs.EditLemmas.Room.{based_node, not_free_held}
use Rattle.cedar_model.proofs.UpdateLemmas.ChildReached.{child_added, child_there, label_inside}
use Rattle.cedar_model.proofs.MeaningLemmas.NodeAtPath.{at_node}
use Rattle.cedar_model.proofs.MeaningLemmas.SearchStep.{never_nothing}
use Rattle.cedar_edit.proofs.LeafLemmas.{placed_here}
use Rattle.cedar_edit.proofs.keys.step.follow_or_add.Goals as goal

pub slot_below-slot-requires : goal.slot_below-slot-requires
slot_below-slot-requires g c =
    let T = fields c.args.table.now in
    let n = c.requires.node.1 in
    let st = at_node (size_of T) (cells c.args.table.now) c.requires.node.0 n.path c.args.node n.holds n.at in
    (search rules, (c.requires.node_in, never_nothing (size_of T) (cells c.args.table.now) c.args.node _ st))

pub is_owned_by-requires : goal.is_owned_by-requires
is_owned_by-requires g c =
    let n = c.requires.node in
    let inside = label_inside (size_of (fields c.args.table.now)) (cells c.args.table.now) (fields c.args.table.now).ordered n.0 c.args.node c.args.label n.1 (omega arith) (omega (arith, c.requires.node_in)) (omega (arith, c.ranges.label.fits)) c.requires.no_own_number in
    (search rules, (subst (λ s. s < size_of (fields c.args.table.now)) (sym c.slot_below-slot.ensures) inside, c.requires.node_in))

pub returns-then-is_owned_by-clause-stepped : goal.returns-then-is_owned_by-clause-stepped
returns-then-is_owned_by-clause-stepped g c =
    let n = c.requires.node in
    let inside = label_inside (size_of (fields c.args.table.now)) (cells c.args.table.now) (fields c.args.table.now).ordered n.0 c.args.node c.args.label n.1 (omega arith) (omega (arith, c.requires.node_in)) (omega (arith, c.ranges.label.fits)) c.requires.no_own_number in
    child_there (fields c.args.table.now) n.0 c.args.node c.args.label c.slot_below-slot.result n.1.holds c.slot_below-slot.ensures c.requires.positive
    (subst (λ s. s < size_of (fields c.args.table.now)) (sym c.slot_below-slot.ensures) inside) (c.is_owned_by.ensures.0 c.if-is_owned_by.true)

pub returns-then-is_owned_by-clause-step : goal.returns-then-is_owned_by-clause-step
returns-then-is_owned_by-clause-step g c = record { refused = tt; unchanged = tt; growth = growth_nothing (fields c.args.table.now) (fields c.args.table.now) refl }

pub returns-then-is_owned_by-clause-owned : goal.returns-then-is_owned_by-clause-owned
returns-then-is_owned_by-clause-owned g c = λ _. (tt, made_none (fields c.args.table.now) (fields c.args.table.now) (same_slots (places_of c.args.table.now.places)))

pub returns-then-is_owned_by-clause-at_root : goal.returns-then-is_owned_by-clause-at_root
returns-then-is_owned_by-clause-at_root g c = λ _. (tt, made_none (fields c.args.table.now) (fields c.args.table.now) (same_slots (places_of c.args.table.now.places)))

pub is_taken-requires : goal.is_taken-requires
is_taken-requires g c =
    let n = c.requires.node in
    let T = cells c.args.table.now in
    let inside = label_inside (size_of (fields c.args.table.now)) T (fields c.args.table.now).ordered n.0 c.args.node c.args.label n.1 (omega arith) (omega (arith, c.requires.node_in)) (omega (arith, c.ranges.label.fits)) c.requires.no_own_number in (
      search rules,
      (
        c.requires.node_in,
        (
          subst (λ s. s < size_of (fields c.args.table.now)) (sym c.slot_below-slot.ensures) inside,
          λ b z. slot_far _ c.args.label (based_node (size_of (fields c.args.table.now)) T (fields c.args.table.now).ordered n.0 c.args.node n.1 c.requires.no_own_number b).1.0 (omega (arith, c.ranges.label.fits)) (sym c.slot_below-slot.ensures ∙ z),
        ),
      ),
    )

pub add_over-requires : goal.add_over-requires
add_over-requires g c =
    let n = c.requires.node in
    let T = cells c.args.table.now in
    let k = c.is_taken.ensures.taken c.if-is_taken.true in
    let based = based_node (size_of (fields c.args.table.now)) T (fields c.args.table.now).ordered n.0 c.args.node n.1 c.requires.no_own_number k.0 in
    let taken : Held T (below T c.args.node c.args.label) = subst (Held T) c.slot_below-slot.ensures (not_free_held T c.slot_below-slot.result k.1) in
    let absent : T.check (below T c.args.node c.args.label) ≢ pos c.args.node = λ o.
    let is_mine = c.is_owned_by.ensures.1 (ap T.check c.slot_below-slot.ensures ∙ o) in
    let not_mine = c.if-is_owned_by.false in
    cc in
    (search rules, (record { sound = c.requires.sound; node_in = c.requires.node_in; not_root = based.0; based = based.1.0; node = n; taken = taken; absent = absent }, c.requires.positive))

pub returns-then-is_taken-clause-owned : goal.returns-then-is_taken-clause-owned
returns-then-is_taken-clause-owned g c = λ o.
    let T = cells c.args.table.now in
    let is_mine = c.is_owned_by.ensures.1 (ap T.check c.slot_below-slot.ensures ∙ o) in
    let not_mine = c.if-is_owned_by.false in
    absurd (cc)

pub returns-then-is_taken-clause-at_root : goal.returns-then-is_taken-clause-at_root
returns-then-is_taken-clause-at_root g c = λ z.
    let n = c.requires.node in
    absurd ((based_node (size_of (fields c.args.table.now)) (cells c.args.table.now) (fields c.args.table.now).ordered n.0 c.args.node n.1 c.requires.no_own_number (c.is_taken.ensures.taken c.if-is_taken.true).0).0 z)

pub returns-then-is_taken-clause-stays : goal.returns-then-is_taken-clause-stays
returns-then-is_taken-clause-stays g c = λ o.
    let T = cells c.args.table.now in
    let is_mine = c.is_owned_by.ensures.1 (ap T.check c.slot_below-slot.ensures ∙ o) in
    let not_mine = c.if-is_owned_by.false in
    absurd (cc)

pub returns-clause-stays : goal.returns-clause-stays
returns-clause-stays g c = λ o.
    let T = cells c.args.table.now in
    let is_mine = c.is_owned_by.ensures.1 (ap T.check c.slot_below-slot.ensures ∙ o) in
    let not_mine = c.if-is_owned_by.false in
    absurd (cc)

pub returns-clause-owned : goal.returns-clause-owned
returns-clause-owned g c = λ o.
    let T = cells c.args.table.now in
    let is_mine = c.is_owned_by.ensures.1 (ap T.check c.slot_below-slot.ensures ∙ o) in
    let not_mine = c.if-is_owned_by.false in
    absurd (cc)

pub extend_leaf-requires : goal.extend_leaf-requires
extend_leaf-requires g c =
    let is = c.is_new_leaf.ensures.leaf c.if-is_new_leaf.true in
    (search rules, record { sound = c.requires.sound; node_in = c.requires.node_in; not_root = is.0; node = c.requires.node; positive = c.requires.positive; leaf = is.1 })

pub returns-then-is_new_leaf-clause-owned : goal.returns-then-is_new_leaf-clause-owned
returns-then-is_new_leaf-clause-owned g c = λ o. absurd (c.extend_leaf.ensures.absent o)

pub returns-then-is_new_leaf-clause-stays : goal.returns-then-is_new_leaf-clause-stays
returns-then-is_new_leaf-clause-stays g c = λ o. absurd (c.extend_leaf.ensures.absent o)

pub returns-then-is_new_leaf-clause-at_root : goal.returns-then-is_new_leaf-clause-at_root
returns-then-is_new_leaf-clause-at_root g c = λ z. absurd ((c.is_new_leaf.ensures.leaf c.if-is_new_leaf.true).0 z)

pub add_label-requires : goal.add_label-requires
add_label-requires g c =
    let T = cells c.args.table.now in
    let absent : T.check (below T c.args.node c.args.label) ≢ pos c.args.node = λ o.
    let is_mine = c.is_owned_by.ensures.1 (ap T.check c.slot_below-slot.ensures ∙ o) in
    let not_mine = c.if-is_owned_by.false in
    cc in
    let open_slot : (base_of T c.args.node ≢ 0) → Held T (below T c.args.node c.args.label) → ⊥ = λ b. subst (λ s. Held T s → ⊥) c.slot_below-slot.ensures (c.is_taken.ensures.«open» (λ t. let f = c.if-is_taken.false in cc) b) in
    let placed =
    placed_here g.row.SLOTS (fields c.args.table.now) c.args.node c.args.label
    (record { sound = c.requires.sound; node_in = c.requires.node_in; node = c.requires.node; positive_at_root = λ _. c.requires.positive; no_own_number = c.requires.no_own_number; absent = absent; slot_free = open_slot })
    (omega arith) (omega (arith, c.args.table.now.shaped.blocks.some)) (omega (arith, c.ranges.label.fits)) (c.is_new_leaf.ensures.based (λ t. let f = c.if-is_new_leaf.false in cc)) in
    (search rules, record { sound = c.requires.sound; node_in = c.requires.node_in; node = c.requires.node; positive = c.requires.positive; based = placed.based; free = placed.free })

pub returns-clause-stepped : goal.returns-clause-stepped
returns-clause-stepped g c =
    let old = fields c.args.table.now in
    let n = c.requires.node in
    let add = c.add_label.ensures in
    let T = cells c.args.table.now in
    let absent : T.check (below T c.args.node c.args.label) ≢ pos c.args.node = λ o.
    let is_mine = c.is_owned_by.ensures.1 (ap T.check c.slot_below-slot.ensures ∙ o) in
    let not_mine = c.if-is_owned_by.false in
    cc in
    let open_slot : (base_of T c.args.node ≢ 0) → Held T (below T c.args.node c.args.label) → ⊥ = λ b. subst (λ s. Held T s → ⊥) c.slot_below-slot.ensures (c.is_taken.ensures.«open» (λ t. let f = c.if-is_taken.false in cc) b) in
    let placed =
    placed_here g.row.SLOTS (fields c.args.table.now) c.args.node c.args.label
    (record { sound = c.requires.sound; node_in = c.requires.node_in; node = c.requires.node; positive_at_root = λ _. c.requires.positive; no_own_number = c.requires.no_own_number; absent = absent; slot_free = open_slot })
    (omega arith) (omega (arith, c.args.table.now.shaped.blocks.some)) (omega (arith, c.ranges.label.fits)) (c.is_new_leaf.ensures.based (λ t. let f = c.if-is_new_leaf.false in cc)) in
    child_added old old (fields c.add_label.new.table) c.args.node c.args.label c.args.node c.add_label.result n.0 n.1.path n.1.holds n.1.at
    placed (λ _ h. h) refl absent add.added add.slot (add.sound.sound.shaped.blocks.some) add.tree add.leaf
    n.1.holds.stands.0.based (λ z. z) (λ _. refl)

pub returns-clause-step : goal.returns-clause-step
returns-clause-step g c = record { refused = tt; unchanged = tt; growth = growth_none (fields c.args.table.now) (fields c.add_label.new.table) c.add_label.ensures.frame c.add_label.ensures.root_check }

pub returns-clause-at_root : goal.returns-clause-at_root
returns-clause-at_root g c = λ _. (tt, framed_none (fields c.args.table.now) (fields c.add_label.new.table) c.add_label.ensures.frame)
