use Rattle.std.proofs.Common.{◌≤◌, ◌∙◌, ap, arith, inl, inr, rules, subst, sym, refl}
use Rattle.cedar_model.specs.Table.Cells.{Held}
use Rattle.cedar_model.specs.Meaning.Family.{base_in}
use Rattle.cedar_bulk.specs.Sorted.{GetsBase}
use Rattle.cedar_table.specs.Table.Views.{cells, fields}
use Rattle.cedar_model.specs.Table.TableFields.{size_of}
use Rattle.cedar_model.proofs.EditLemmas.AtPath.{held_node}
use Rattle.cedar_model.proofs.UpdateLemmas.BlocksMade.{made_framed, made_larger, refuses_still}
use Rattle.cedar_bulk.proofs.BulkLemmas.FilledNode.{node_based}
use Rattle.cedar_model.proofs.EditLemmas.FirstBase.{held_still}
use Rattle.cedar_model.proofs.RelocationLemmas.PlacesFirst.{among_small, base_placed}
use Rattle.cedar_model.proofs.UpdateLemmas.StepAnswers.{refused_as}
use Rattle.cedar_bulk.proofs.fill.find_base.Goals as goal

pub returns-in_err-base-clause-refused : goal.returns-in_err-base-clause-refused
returns-in_err-base-clause-refused g c =
    let e = c.in_err-base.ensures in
    refused_as c.from_residual.result c.in_err-base.field-0.0 _ c.from_residual.ensures.1 (refuses_still (fields c.args.table.now).places (fields c.place_for.new.self).places g.row.SLOTS c.in_err-base.field-0.0 e.unchanged e.refused)

pub set_base-requires : goal.set_base-requires
set_base-requires g c =
    let n = c.requires.wants.node in
    let found = c.in_ok-base.ensures in
    let size' = size_of (fields c.place_for.new.self) in
    let more : size_of (fields c.args.table.now) ≤ size' = made_larger found.blocks.0 (fields c.args.table.now) (fields c.place_for.new.self) found.blocks.2 in
    let held : Held (cells c.place_for.new.self) c.args.node = held_still (cells c.args.table.now) (cells c.place_for.new.self) c.args.node found.held (held_node (cells c.args.table.now) n.1.path c.args.node n.1.at) in
    let placed = base_placed size' (cells c.place_for.new.self) c.in_ok-base.base c.args.wanted.now (omega arith) c.requires.wants.some (omega (arith, c.type_inv.wanted 0)) found.found in
    (search rules, (found.sound, (omega (arith, c.requires.wants.node_in, more), (placed.1, (held, c.requires.not_root)))))

pub returns-clause-based : goal.returns-clause-based
returns-clause-based g c =
    let n = c.requires.wants.node in
    let found = c.in_ok-base.ensures in
    let size = size_of (fields c.args.table.now) in
    let size' = size_of (fields c.place_for.new.self) in
    let more : size ≤ size' = made_larger found.blocks.0 (fields c.args.table.now) (fields c.place_for.new.self) found.blocks.2 in
    let wanted = c.args.wanted.now in
    subst (λ m. GetsBase size m (cells c.args.table.now) (cells c.set_base.new.self) c.args.node wanted) (sym c.set_base.ensures.frame.size)
    (node_based size size' (cells c.args.table.now) (cells c.place_for.new.self) (cells c.set_base.new.self) n.0 n.1.path c.args.node c.in_ok-base.base n.1.holds n.1.at c.requires.not_root c.requires.wants.leaf more (omega arith) found.held c.set_base.ensures.rebased
    wanted c.requires.wants.some (among_small wanted (λ i. omega (arith, c.type_inv.wanted i))) found.found)

pub returns-clause-root_check : goal.returns-clause-root_check
returns-clause-root_check g c = c.set_base.ensures.rebased.check 0 ∙ (c.in_ok-base.ensures.held.other 0 (inl refl)).check

pub returns-clause-base : goal.returns-clause-base
returns-clause-base g c = ap base_in (sym c.set_base.ensures.rebased.set)

pub returns-clause-alone : goal.returns-clause-alone
returns-clause-alone g c = λ one.
    elim (c.in_ok-base.ensures.single one) [
      | inl none ↦ inl (made_framed 0 (fields c.args.table.now) (fields c.place_for.new.self) (fields c.set_base.new.self) none.1 c.set_base.ensures.frame)
      | inr full ↦ inr full
    ]
