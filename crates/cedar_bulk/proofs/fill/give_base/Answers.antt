use Rattle.std.proofs.Common.{◌≡◌, ap, arith, inl, sym, refl}
use Rattle.cedar_model.specs.Meaning.Family.{base_in}
use Rattle.cedar_table.specs.Table.Views.{cells, fields}
use Rattle.cedar_model.specs.Table.TableFields.{size_of}
use Rattle.cedar_slots.specs.Views.{places_of}
use Rattle.cedar_model.proofs.UpdateLemmas.BlocksMade.{made_none, same_slots}
use Rattle.cedar_bulk.proofs.BulkLemmas.FilledNode.{root_based}
use Rattle.cedar_model.proofs.RelocationLemmas.PlacesFirst.{among_small}
use Rattle.cedar_bulk.proofs.fill.give_base.Goals as goal

pub returns-then-node-eq0-clause-based : goal.returns-then-node-eq0-clause-based
returns-then-node-eq0-clause-based g c =
    let n = c.requires.node in
    let wanted = c.args.wanted.now in
    let z : c.args.node ≡ 0 = omega arith in
    root_based (size_of (fields c.args.table.now)) (cells c.args.table.now) n.0 n.1.path c.args.node wanted n.1.holds n.1.at n.2 z
    (λ l among. (c.requires.positive_at_root z l among, among_small wanted (λ i. omega (arith, c.type_inv.wanted i)) l among))

pub returns-then-node-eq0-clause-blocks : goal.returns-then-node-eq0-clause-blocks
returns-then-node-eq0-clause-blocks g c = (0, omega arith, tt, λ _. refl, made_none (fields c.args.table.now) (fields c.args.table.now) (same_slots (places_of c.args.table.now.places)))

pub returns-then-node-eq0-clause-base : goal.returns-then-node-eq0-clause-base
returns-then-node-eq0-clause-base g c = ap base_in (sym c.requires.leaf)

pub returns-clause-blocks : goal.returns-clause-blocks
returns-clause-blocks g c =
    let b = c.find_base.ensures.blocks in
    (b.0, b.1, b.2, λ z. absurd (c.if-node-eq0.false z), b.3)

pub returns-then-node-eq0-clause-alone : goal.returns-then-node-eq0-clause-alone
returns-then-node-eq0-clause-alone g c = λ _. inl (made_none (fields c.args.table.now) (fields c.args.table.now) (same_slots (places_of c.args.table.now.places)))
