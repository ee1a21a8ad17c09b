use Rattle.std.proofs.Common.{arith, rules, subst, sym, ℕ, ◌≤◌, ◌∙◌, inl, inr, refl}
use Rattle.cedar_model.specs.Meaning.Family.{Among, owned_slots}
use Rattle.cedar_model.specs.Meaning.StandsFor.{HoldsTree}
use Rattle.cedar_model.specs.Relocation.Renaming.{Movable, SetMoved}
use Rattle.cedar_model.specs.Relocation.Reserved.{cells_without}
use Rattle.cedar_table.specs.Table.Views.{cells, fields}
use Rattle.cedar_model.specs.Table.TableFields.{size_of}
use Rattle.cedar_model.proofs.UpdateLemmas.BlocksMade.{growth_framed, made_larger, refuses_still}
use Rattle.cedar_model.proofs.RelocationLemmas.Movable.{relocated_holds}
use Rattle.cedar_model.proofs.RelocationLemmas.PlacesFirst.{can_relocate, same_holds, set_moved}
use Rattle.cedar_model.specs.Edit.Steps.{MayAddBlock}
use Rattle.cedar_edit.proofs.StepLemmas.{refused_step}
use Rattle.cedar_edit.proofs.relocation.resolve.move_set_around.Goals as goal

pub returns-in_err-base-clause-step : goal.returns-in_err-base-clause-step
returns-in_err-base-clause-step g c =
    let T = fields c.args.table.now in
    let T₁ = fields c.place_for.new.self in
    let e = c.in_err-base.ensures in
    let placed : MayAddBlock T T₁ = record { blocks = e.blocks; root_check = (e.held.other 0 (inl refl)).check; settings = e.settings } in
    refused_step _ T T₁ c.from_residual.result c.in_err-base.field-0.0 c.from_residual.ensures.1 (refuses_still T.places T₁.places _ _ e.unchanged e.refused) e.unchanged placed

pub relocate_around-requires : goal.relocate_around-requires
relocate_around-requires g c =
    let T = cells c.args.table.now in
    let T₁ = cells c.place_for.new.self in
    let blocks = c.place_for.ensures.blocks in
    let more : size_of (fields c.args.table.now) ≤ size_of (fields c.place_for.new.self) = made_larger blocks.0 (fields c.args.table.now) (fields c.place_for.new.self) blocks.2 in
    let n = c.requires.owned in
    let p = c.requires.node.on_path in
    let b = c.in_ok-base.base in
    let all : (l : ℕ) → Among (owned_slots n.head n.labels) l → Among c.args.labels.now l = λ l a. subst (λ xs. Among xs l) (sym n.owns) a in
    let m = can_relocate _ _ T T₁ c.requires.node.holds.0 c.args.node b p.0 n.head n.labels c.args.labels.now more (omega arith) c.place_for.ensures.held c.requires.node.holds.1 p.1 p.2 c.requires.node.not_root n.family c.requires.node.based all (λ i. omega (arith, c.type_inv.labels i)) c.requires.some c.in_ok-base.ensures.found in
    (search rules, (c.place_for.ensures.sound, (omega (arith, c.requires.node.node_in, more), (subst (λ xs. Movable (size_of (fields c.place_for.new.self)) T₁ c.args.node b xs) (sym n.owns) m, (c.place_for.ensures.held.other c.args.slot (inr (c.args.node, c.requires.mine))).check ∙ c.requires.mine))))

pub returns-clause-moved : goal.returns-clause-moved
returns-clause-moved g c =
    let T = cells c.args.table.now in
    let T₁ = cells c.place_for.new.self in
    let blocks = c.place_for.ensures.blocks in
    let more : size_of (fields c.args.table.now) ≤ size_of (fields c.place_for.new.self) = made_larger blocks.0 (fields c.args.table.now) (fields c.place_for.new.self) blocks.2 in
    let n = c.requires.owned in
    let p = c.requires.node.on_path in
    let b = c.in_ok-base.base in
    let all : (l : ℕ) → Among (owned_slots n.head n.labels) l → Among c.args.labels.now l = λ l a. subst (λ xs. Among xs l) (sym n.owns) a in
    let T' = cells c.relocate_around.new.table in
    let k : ℕ = c.args.slot in
    let moved = set_moved _ _ T T₁ c.requires.node.holds.0 c.args.node b p.0 n.head n.labels c.args.labels.now more (omega arith) c.place_for.ensures.held c.requires.node.holds.1 p.1 p.2 c.requires.node.not_root n.family c.requires.node.based all (λ i. omega (arith, c.type_inv.labels i)) c.requires.some c.in_ok-base.ensures.found (cells_without T' k) c.relocate_around.ensures.relocated in
    record {
      set = subst (λ s. SetMoved (size_of (fields c.args.table.now)) s T (cells_without T' k) c.args.node b c.args.labels.now c.args.labels.now) (sym c.relocate_around.ensures.frame.size)
          (subst (λ xs. SetMoved (size_of (fields c.args.table.now)) (size_of (fields c.place_for.new.self)) T (cells_without T' k) c.args.node b xs c.args.labels.now) (sym n.owns) moved);
      reserved = c.relocate_around.ensures.reserved;
      tree = λ f h.
          let made = same_holds _ _ T T₁ more c.place_for.ensures.held f h in
          subst (λ n. HoldsTree n (cells_without T' k) f) (sym c.relocate_around.ensures.frame.size) (relocated_holds _ T₁ (cells_without T' k) c.args.node b f c.relocate_around.ensures.relocated made);
    }

pub returns-clause-step : goal.returns-clause-step
returns-clause-step g c =
    let placed : MayAddBlock (fields c.args.table.now) (fields c.place_for.new.self) = record {
      blocks = c.place_for.ensures.blocks;
      root_check = (c.place_for.ensures.held.other 0 (inl refl)).check;
      settings = c.place_for.ensures.settings;
    } in
    record { refused = tt; unchanged = tt; growth = growth_framed _ _ _ placed c.relocate_around.ensures.frame c.relocate_around.ensures.root_check }
