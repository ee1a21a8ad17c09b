use Rattle.std.proofs.Common.{◌≤◌, ◌∙◌, arith, inl, inr, refl, rules, sym, ap, subst, None, [], ◌∷◌}
use Rattle.std.specs.Prelude.{bit_xor}
use Rattle.cedar_model.specs.Meaning.Family.{base_in}
use Rattle.cedar_bulk.specs.Sorted.{Fills}
use Rattle.cedar_table.specs.Table.Views.{cells, fields}
use Rattle.cedar_model.specs.Table.TableFields.{size_of}
use Rattle.cedar_model.proofs.EditLemmas.AtPath.{held_node}
use Rattle.cedar_model.proofs.UpdateLemmas.BlocksMade.{made_framed, made_larger}
use Rattle.cedar_bulk.proofs.BulkLemmas.BareNode.{empty_node}
use Rattle.cedar_bulk.proofs.BulkLemmas.FilledNode.{filled, first_ends, no_number_got, still_bare, still_childless}
use Rattle.cedar_bulk.proofs.BulkLemmas.PackedBlocks.{label_another}
use Rattle.cedar_bulk.proofs.fill.name_alone.Goals as goal

pub find_base-requires : goal.find_base-requires
find_base-requires g c =
    let r = c.requires in
    (search rules, (record { sound = r.bare.sound; node_in = r.bare.node_in; node = r.bare.node; leaf = r.bare.leaf; some = omega arith; few = omega arith; positive_at_root = λ z. absurd (r.not_root z) }, r.not_root))

pub append_labels-requires : goal.append_labels-requires
append_labels-requires g c =
    let r = c.requires in
    let e = c.in_ok-base.ensures in
    let T = cells c.args.table.now in
    let T₁ = cells c.find_base.new.table in
    let size = size_of (fields c.args.table.now) in
    let size₁ = size_of (fields c.find_base.new.table) in
    let more : size ≤ size₁ = made_larger e.blocks.0 (fields c.args.table.now) (fields c.find_base.new.table) e.blocks.3 in
    let n = still_bare size size₁ T T₁ c.args.node (c.args.label ∷ []) r.bare.node e.based in
    let empty = empty_node size₁ T₁ n.0 n.1.path c.args.node n.1.holds n.1.at n.2 in
    (search rules, record { sound = e.sound; node_in = omega (arith, r.bare.node_in, more); node = still_childless size₁ T₁ T₁ c.args.node None n (no_number_got size₁ T₁ c.args.node); based = e.based.based; base_is = e.base; ascends = (r.positive, tt); free = e.based.free; ends = λ l. first_ends size₁ T₁ c.args.node l r.not_root empty })

pub returns-clause-fills : goal.returns-clause-fills
returns-clause-fills g c =
    let n = c.requires.bare.node in
    let a = c.append_labels.ensures in
    let T = cells c.args.table.now in
    let T₁ = cells c.find_base.new.table in
    let T₂ = cells c.append_labels.new.table in
    let size = size_of (fields c.args.table.now) in
    let size₁ = size_of (fields c.find_base.new.table) in
    subst (λ m. Fills size m T T₂ c.args.node None (c.args.label ∷ [])) (sym a.frame.size)
    (filled size size₁ T T₁ T₁ T₂ c.args.node None (c.args.label ∷ []) n.1.path n.1.at c.in_ok-base.ensures.based (no_number_got size₁ T₁ c.args.node) a.gets)

pub returns-clause-slot : goal.returns-clause-slot
returns-clause-slot g c =
    let n = c.requires.bare.node in
    let e = c.in_ok-base.ensures in
    let held = e.based.keeps c.args.node (held_node (cells c.args.table.now) n.1.path c.args.node n.1.at) in
    c.slot_at.ensures ∙ ap (λ b. bit_xor b c.args.label) (e.base ∙ ap base_in (sym (c.append_labels.ensures.gets.stays c.args.node held)))

pub returns-clause-blocks : goal.returns-clause-blocks
returns-clause-blocks g c =
    let e = c.in_ok-base.ensures in
    (e.blocks.0, e.blocks.1, tt, made_framed e.blocks.0 (fields c.args.table.now) (fields c.find_base.new.table) (fields c.append_labels.new.table) e.blocks.3 c.append_labels.ensures.frame)

pub returns-clause-alone : goal.returns-clause-alone
returns-clause-alone g c =
    let n = c.requires.bare.node in
    let label = c.args.label in
    let size = size_of (fields c.args.table.now) in
    let size₂ = size_of (fields c.append_labels.new.table) in
    elim (c.in_ok-base.ensures.alone refl) [
      | inl none ↦ inl (made_framed 0 (fields c.args.table.now) (fields c.find_base.new.table) (fields c.append_labels.new.table) none c.append_labels.ensures.frame)
      | inr full ↦ inr (full, label_another size size₂ (cells c.args.table.now) (cells c.append_labels.new.table) c.args.node None (label ∷ []) n.1.path label (returns-clause-fills g c) n.1.at (inl refl))
    ]
