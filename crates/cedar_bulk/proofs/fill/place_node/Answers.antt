use Rattle.std.proofs.Common.{◌≡◌, ◌≢◌, ◌<◌, ◌≤◌, ◌∙◌, ℕ, arith, inl, inr, length, rules, subst, sym, ap, refl, Some}
use Rattle.std.specs.Prelude.{ℤ}
use Rattle.cedar_model.specs.Table.Cells.{Held}
use Rattle.cedar_model.specs.Meaning.Family.{Among, base_in, below, InRange}
use Rattle.cedar_bulk.specs.Sorted.{Fills, GetsBase, GetsLabels, IsChildless, slot_labels}
use Rattle.cedar_table.specs.Table.Views.{cells, fields}
use Rattle.cedar_model.specs.Table.TableFields.{size_of}
use Rattle.cedar_model.proofs.EditLemmas.AtPath.{held_node}
use Rattle.cedar_model.proofs.UpdateLemmas.BlocksMade.{made_framed, made_larger}
use Rattle.cedar_bulk.proofs.BulkLemmas.FilledNode.{filled, labels_free, still_bare, still_childless, wanted_positive}
use Rattle.cedar_bulk.proofs.BulkLemmas.PackedBlocks.{node_another}
use Rattle.cedar_model.proofs.UpdateLemmas.Frame.{frame_then}
use Rattle.cedar_bulk.proofs.fill.place_node.Goals as goal

pub give_base-requires : goal.give_base-requires
give_base-requires g c =
    let positive : (c.args.node ≡ 0) → (l : ℕ) → Among c.args.wanted.now l → 0 < l = λ z l among.
    wanted_positive c.args.number c.args.labels.now c.requires.ascends (c.requires.not_root z) l (subst (λ ws. Among ws l) c.requires.wanted among) in
    (search rules, record { sound = c.requires.sound; node_in = c.requires.node_in; node = c.requires.node; leaf = c.requires.leaf; some = c.requires.some; few = c.requires.few; positive_at_root = positive })

pub begin_chain-before-requires : goal.begin_chain-before-requires
begin_chain-before-requires g c =
    let n = c.requires.node in
    let e = c.in_ok-base.ensures in
    let T₁ = cells c.give_base.new.table in
    let size = size_of (fields c.args.table.now) in
    let size' = size_of (fields c.give_base.new.table) in
    let more : size ≤ size' = made_larger e.blocks.0 (fields c.args.table.now) (fields c.give_base.new.table) e.blocks.4 in
    let node = still_bare size size' (cells c.args.table.now) T₁ c.args.node c.args.wanted.now n e.based in
    let free : (v : ℤ) → c.args.number ≡ Some v → Held T₁ (below T₁ c.args.node 0) → ⊥ = λ v is.
    e.based.free 0 (subst (λ ws. Among ws 0) (ap (λ o. slot_labels o c.args.labels.now) (sym is) ∙ sym c.requires.wanted) (inl refl)) in
    (search rules, record { sound = e.sound; node_in = omega (arith, c.requires.node_in, more); not_root = c.requires.not_root; node = node; based = e.based.based; base_is = e.base; free = free })

pub append_labels-requires : goal.append_labels-requires
append_labels-requires g c =
    let n = c.requires.node in
    let e = c.in_ok-base.ensures in
    let b = c.begin_chain-before.ensures in
    let T = cells c.args.table.now in
    let T₁ = cells c.give_base.new.table in
    let T₂ = cells c.begin_chain-before.new.table in
    let size = size_of (fields c.args.table.now) in
    let size₁ = size_of (fields c.give_base.new.table) in
    let size₂ = size_of (fields c.begin_chain-before.new.table) in
    let more : size ≤ size₁ = made_larger e.blocks.0 (fields c.args.table.now) (fields c.give_base.new.table) e.blocks.4 in
    let same : size₂ ≡ size₁ = b.frame.size in
    let node = still_bare size size₁ T T₁ c.args.node c.args.wanted.now n e.based in
    let numbered = still_childless size₁ T₁ T₂ c.args.node c.args.number node b.gets in
    let held : Held T c.args.node = held_node T n.1.path c.args.node n.1.at in
    let base : (c.args.node ≢ 0) → InRange size₂ (T₂.stored c.args.node) = λ z.
    subst (λ m. InRange m (T₂.stored c.args.node)) (sym same) (subst (InRange size₁) (sym (b.gets.stays c.args.node (e.based.keeps c.args.node held))) (e.based.based z)) in
    let free : (l : ℕ) → Among c.args.labels.now l → Held T₂ (below T₂ c.args.node l) → ⊥ =
    labels_free size size₁ T T₁ T₂ c.args.node c.args.number c.args.labels.now held c.requires.ascends (subst (GetsBase size size₁ T T₁ c.args.node) c.requires.wanted e.based) b.gets in
    (search rules, record { sound = b.sound; node_in = omega (arith, c.requires.node_in, more, same); node = subst (λ m. IsChildless m T₂ c.args.node) (sym same) numbered; based = base; base_is = e.base ∙ ap base_in (sym (b.gets.stays c.args.node (e.based.keeps c.args.node held))); ascends = c.requires.ascends; free = free; ends = b.ends })

pub returns-clause-fills : goal.returns-clause-fills
returns-clause-fills g c =
    let n = c.requires.node in
    let e = c.in_ok-base.ensures in
    let b = c.begin_chain-before.ensures in
    let a = c.append_labels.ensures in
    let T = cells c.args.table.now in
    let T₁ = cells c.give_base.new.table in
    let T₂ = cells c.begin_chain-before.new.table in
    let T₃ = cells c.append_labels.new.table in
    let size = size_of (fields c.args.table.now) in
    let size₁ = size_of (fields c.give_base.new.table) in
    subst (λ m. Fills size m T T₃ c.args.node c.args.number c.args.labels.now) (sym (a.frame.size ∙ b.frame.size))
    (filled size size₁ T T₁ T₂ T₃ c.args.node c.args.number c.args.labels.now n.1.path n.1.at
    (subst (GetsBase size size₁ T T₁ c.args.node) c.requires.wanted e.based) b.gets (subst (λ m. GetsLabels m T₂ T₃ c.args.node c.args.labels.now) b.frame.size a.gets))

pub returns-clause-blocks : goal.returns-clause-blocks
returns-clause-blocks g c =
    let e = c.in_ok-base.ensures in (
      e.blocks.0,
      e.blocks.1,
      tt,
      e.blocks.3,
      made_framed e.blocks.0 (fields c.args.table.now) (fields c.give_base.new.table) (fields c.append_labels.new.table) e.blocks.4
          (frame_then (fields c.give_base.new.table) (fields c.begin_chain-before.new.table) (fields c.append_labels.new.table) c.begin_chain-before.ensures.frame c.append_labels.ensures.frame),
    )

pub returns-clause-base : goal.returns-clause-base
returns-clause-base g c =
    let n = c.requires.node in
    let e = c.in_ok-base.ensures in
    let b = c.begin_chain-before.ensures in
    let a = c.append_labels.ensures in
    let held = e.based.keeps c.args.node (held_node (cells c.args.table.now) n.1.path c.args.node n.1.at) in
    e.base ∙ ap base_in (sym (b.gets.stays c.args.node held)) ∙ ap base_in (sym (a.gets.stays c.args.node (b.gets.keeps c.args.node held)))

pub returns-clause-alone : goal.returns-clause-alone
returns-clause-alone g c = λ one.
    let n = c.requires.node in
    let e = c.in_ok-base.ensures in
    let b = c.begin_chain-before.ensures in
    let a = c.append_labels.ensures in
    let T = cells c.args.table.now in
    let T₁ = cells c.give_base.new.table in
    let T₂ = cells c.begin_chain-before.new.table in
    let T₃ = cells c.append_labels.new.table in
    let size = size_of (fields c.args.table.now) in
    let size₁ = size_of (fields c.give_base.new.table) in
    let size₃ = size_of (fields c.append_labels.new.table) in
    let some : 0 < length (slot_labels c.args.number c.args.labels.now) = subst (λ xs. 0 < length xs) c.requires.wanted c.requires.some in
    elim (e.alone one) [
      | inl none ↦ inl (made_framed 0 (fields c.args.table.now) (fields c.give_base.new.table) (fields c.append_labels.new.table) none
          (frame_then (fields c.give_base.new.table) (fields c.begin_chain-before.new.table) (fields c.append_labels.new.table) b.frame a.frame))
      | inr full ↦ inr (
        full,
        node_another size size₃ size₁ T T₁ T₂ T₃ c.args.node c.args.number c.args.labels.now n.1.path n.1.at some
            (subst (GetsBase size size₁ T T₁ c.args.node) c.requires.wanted e.based) b.taken a.gets.keeps (returns-clause-fills g c),
      )
    ]
