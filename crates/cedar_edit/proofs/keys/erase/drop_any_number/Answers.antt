use Rattle.std.proofs.Common.{◌≡◌, ◌∙◌, arith, inl, inr, refl, rules, sym}
use Rattle.std.specs.Prelude.{pos}
use Rattle.cedar_model.specs.Meaning.Family.{below}
use Rattle.cedar_table.specs.Table.Views.{cells, fields}
use Rattle.cedar_model.specs.Table.TableFields.{size_of}
use Rattle.cedar_model.proofs.MeaningLemmas.NodeAtPath.{at_number}
use Rattle.cedar_model.proofs.UpdateLemmas.Erasure.{dropped_at, number_based}
use Rattle.cedar_model.proofs.MeaningLemmas.NumberSlots.{dropped_marks, field_marks}
use Rattle.cedar_model.proofs.EditLemmas.OwnNumber.{field_paths, not_at_base, spare_past}
use Rattle.cedar_model.proofs.EditLemmas.NumberMovesOut.{leaf_alone}
use Rattle.cedar_edit.proofs.keys.erase.drop_any_number.Goals as goal

pub drop_number-requires : goal.drop_number-requires
drop_number-requires g c =
    let T = cells c.args.table.now in
    let size = size_of (fields c.args.table.now) in
    let n = c.requires.node.1 in
    let mine : T.check (below T c.args.node 0) ≡ pos c.args.node = (at_number size T c.requires.node.0 n.path c.args.node n.holds n.at (λ v e. let z = sym c.in-AtBase.is ∙ c.stored_at.ensures ∙ e in cc)).0 c.requires.node.2 in
    (search rules, record { sound = c.requires.sound; node_in = c.requires.node_in; not_root = c.requires.not_root; node = (c.requires.node.0, n); based = number_based size T c.requires.node.0 n.path c.args.node n.holds n.at mine; owned = mine })

pub returns-in-AtBase-clause-at : goal.returns-in-AtBase-clause-at
returns-in-AtBase-clause-at g c = λ w on.
    let n = c.requires.node.1 in
    dropped_at (size_of (fields c.args.table.now)) (cells c.args.table.now) (cells c.drop_number.new.table) c.requires.node.0 w c.args.node n.holds on c.drop_number.ensures.dropped

pub drop_own_number-requires : goal.drop_own_number-requires
drop_own_number-requires g c =
    let T = cells c.args.table.now in
    let size = size_of (fields c.args.table.now) in
    let n = c.requires.node.1 in
    let unbased = not_at_base (T.stored c.args.node) (λ b e. c.in_default.not-AtBase b (c.stored_at.ensures ∙ e)) in
    let alone = leaf_alone size T c.requires.node.0 n.path c.args.node n.holds n.at (λ z. omega (arith, z, c.requires.not_root)) unbased in
    (search rules, record { sound = c.requires.sound; node_in = c.requires.node_in; not_root = omega (arith, c.requires.not_root); node = (c.requires.node.0, n); alone = alone })

pub returns-in_default : goal.returns-in_default
returns-in_default g c =
    let T = fields c.args.table.now in
    let e = c.drop_own_number.ensures in
    let n = c.requires.node.1 in
    let unbased = not_at_base ((cells c.args.table.now).stored c.args.node) (λ b e. c.in_default.not-AtBase b (c.stored_at.ensures ∙ e)) in
    let alone = leaf_alone (size_of T) (cells c.args.table.now) c.requires.node.0 n.path c.args.node n.holds n.at (λ z. omega (arith, z, c.requires.not_root)) unbased in
    record {
      sound = e.sound;
      tree = e.tree;
      at = λ w on. field_paths (size_of T) (cells c.args.table.now) (cells c.drop_own_number.new.table) c.requires.node.0 w c.args.node (size_of T) _ _ n.holds on (λ z. omega (arith, z, c.requires.not_root)) alone e.set
          (spare_past T (omega (arith, c.requires.node_in))) (inr (inl refl, refl)) w c.args.node on;
      others = field_marks (cells c.args.table.now) (cells c.drop_own_number.new.table) c.args.node _ alone e.set (λ w s on. field_paths (size_of T) (cells c.args.table.now) (cells c.drop_own_number.new.table) c.requires.node.0 n.path c.args.node (size_of T) _ _ n.holds n.at (λ z. omega (arith, z, c.requires.not_root)) alone e.set
          (spare_past T (omega (arith, c.requires.node_in))) (inr (inl refl, refl)) w s on);
      root_check = e.set.check 0;
      frame = e.frame;
    }

pub returns-in-AtBase-clause-others : goal.returns-in-AtBase-clause-others
returns-in-AtBase-clause-others g c =
    let n = c.requires.node.1 in
    dropped_marks (size_of (fields c.args.table.now)) (cells c.args.table.now) (cells c.drop_number.new.table) c.requires.node.0 n.path c.args.node n.holds n.at c.drop_number.ensures.dropped
