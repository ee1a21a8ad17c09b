use Rattle.std.proofs.Common.{◌≡◌, ◌<◌, ◌∙◌, arith, inl, inr, rules, subst, sym, ap, refl, Some, w32, FitsSigned}
use Rattle.std.specs.Prelude.{bit_xor}
use Rattle.std.proofs.lemmas.Int.{to_z-of_z}
use Rattle.cedar_model.specs.Table.Cells.{Held, Takes}
use Rattle.cedar_model.specs.Meaning.Family.{below}
use Rattle.cedar_bulk.specs.Sorted.{GoesLast}
use Rattle.cedar_table.specs.Table.Views.{cells, fields}
use Rattle.cedar_model.specs.Table.TableFields.{size_of}
use Rattle.cedar_bulk.proofs.BulkLemmas.BareNode.{empty_node}
use Rattle.cedar_bulk.proofs.BulkLemmas.FilledNode.{number_ends, number_got}
use Rattle.cedar_model.proofs.EditLemmas.SlotForLabel.{lead_inside}
use Rattle.cedar_bulk.proofs.fill.take_number.Goals as goal

pub pop_e_node-requires : goal.pop_e_node-requires
pop_e_node-requires g c =
    let T = cells c.args.table.now in
    let size = size_of (fields c.args.table.now) in
    let shaped = c.args.table.now.shaped in
    let e : c.slot_at-slot.result ≡ below T c.args.node 0 = c.slot_at-slot.ensures ∙ ap (λ b. bit_xor b 0) c.requires.base_is in
    (search rules, (c.requires.sound, (subst (λ s. s < size) (sym e) (lead_inside size T c.args.node c.requires.based.1), (subst (λ s. Held T s → ⊥) (sym e) c.requires.free, omega (arith, c.requires.node_in, shaped.blocks.active_in, shaped.blocks.fits)))))

pub returns-clause-gets : goal.returns-clause-gets
returns-clause-gets g c =
    let T = cells c.args.table.now in
    let T₁ = cells c.pop_e_node.new.self in
    let size = size_of (fields c.args.table.now) in
    let n = c.requires.node in
    let popped = c.pop_e_node.ensures in
    let e : c.slot_at-slot.result ≡ below T c.args.node 0 = c.slot_at-slot.ensures ∙ ap (λ b. bit_xor b 0) c.requires.base_is in
    let fits : FitsSigned w32 c.args.value = search rules in
    number_got size T T₁ n.0 n.1.path c.args.node c.args.value n.1.holds n.1.at c.requires.not_root (empty_node size T n.0 n.1.path c.args.node n.1.holds n.1.at n.2) c.requires.based c.requires.free
    (subst (λ s. Takes T T₁ s c.args.node) e popped.takes) (ap T₁.base (sym e) ∙ popped.base ∙ to_z-of_z w32 c.args.value fits)

pub returns-clause-ends : goal.returns-clause-ends
returns-clause-ends g c = λ l.
    let T = cells c.args.table.now in
    let T₁ = cells c.pop_e_node.new.self in
    let size = size_of (fields c.args.table.now) in
    let size' = size_of (fields c.pop_e_node.new.self) in
    let n = c.requires.node in
    let popped = c.pop_e_node.ensures in
    let e : c.slot_at-slot.result ≡ below T c.args.node 0 = c.slot_at-slot.ensures ∙ ap (λ b. bit_xor b 0) c.requires.base_is in
    let fits : FitsSigned w32 c.args.value = search rules in
    subst (λ s. GoesLast size' T₁ c.args.node l (Some s)) (sym e)
    (number_ends size T T₁ n.0 n.1.path c.args.node c.args.value n.1.holds n.1.at c.requires.not_root (empty_node size T n.0 n.1.path c.args.node n.1.holds n.1.at n.2) c.requires.based c.requires.free
    (subst (λ s. Takes T T₁ s c.args.node) e popped.takes) (ap T₁.base (sym e) ∙ popped.base ∙ to_z-of_z w32 c.args.value fits)
    size' l (subst (λ m. below T c.args.node 0 < m) (sym popped.frame.size) (lead_inside size T c.args.node c.requires.based.1)))

pub returns-clause-root_check : goal.returns-clause-root_check
returns-clause-root_check g c =
    let T = cells c.args.table.now in
    let e : c.slot_at-slot.result ≡ below T c.args.node 0 = c.slot_at-slot.ensures ∙ ap (λ b. bit_xor b 0) c.requires.base_is in
    (c.pop_e_node.ensures.takes.other 0 (λ z. c.requires.free (inl (sym (z ∙ e)))) (inl refl)).check

pub returns-clause-taken : goal.returns-clause-taken
returns-clause-taken g c =
    let T = cells c.args.table.now in
    let e : c.slot_at-slot.result ≡ below T c.args.node 0 = c.slot_at-slot.ensures ∙ ap (λ b. bit_xor b 0) c.requires.base_is in
    subst (Held (cells c.pop_e_node.new.self)) e (inr (c.args.node, c.pop_e_node.ensures.takes.at))
