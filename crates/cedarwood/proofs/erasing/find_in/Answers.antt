use Rattle.std.proofs.Common.{rules, ◌≡◌, ◌∙◌, ap, FitsSigned, Some, sym, w32}
use Rattle.std.proofs.lemmas.Int.{to_z-of_z}
use Rattle.cedar_tree.proofs.OrderLemmas.{number_of_node}
use Rattle.cedar_model.specs.Meaning.WellFormed.{tree_of}
use Rattle.cedar_table.specs.Table.Views.{fields}
use Rattle.cedar_walk.proofs.WalkLemmas.NextNode.{node_stands}
use Rattle.cedarwood.proofs.ErasureLemmas.{unheld}
use Rattle.cedarwood.proofs.erasing.find_in.Goals as goal

pub returns-in_err-slot-clause-absent : goal.returns-in_err-slot-clause-absent
returns-in_err-slot-clause-absent g c = λ n _. unheld g.row.SLOTS n (fields c.args.table.now) c.args.key.now c.requires c.in_err-slot.ensures.0

pub number_of-requires : goal.number_of-requires
number_of-requires g c =
    let T = fields c.args.table.now in
    let key = c.args.key.now in
    (search rules, (c.in_ok-slot.ensures.0, (_, node_stands g.row.SLOTS T c.requires key c.in_ok-slot.slot c.in_ok-slot.ensures.2)))

pub returns-in-Some-clause-found : goal.returns-in-Some-clause-found
returns-in-Some-clause-found g c = λ n.
    let T = fields c.args.table.now in
    let key = c.args.key.now in
    let v = c.in-Some.value in
    let fits : FitsSigned w32 v = search rules in
    record {
      value =
          number_of_node (tree_of T) key
          ∙ sym (c.number_of.ensures _ (node_stands g.row.SLOTS T c.requires key c.in_ok-slot.slot c.in_ok-slot.ensures.2))
          ∙ c.in-Some.is
          ∙ ap Some (sym (to_z-of_z w32 v fits));
      inside = c.in_ok-slot.ensures.0;
      at = c.in_ok-slot.ensures.2;
    }

pub returns-in-None-clause-found : goal.returns-in-None-clause-found
returns-in-None-clause-found g c = λ n.
    let T = fields c.args.table.now in
    let key = c.args.key.now in
    number_of_node (tree_of T) key ∙ sym (c.number_of.ensures _ (node_stands g.row.SLOTS T c.requires key c.in_ok-slot.slot c.in_ok-slot.ensures.2)) ∙ c.in-None.is

pub returns-in-None-clause-absent : goal.returns-in-None-clause-absent
returns-in-None-clause-absent g c = λ n _. unheld g.row.SLOTS n (fields c.args.table.now) c.args.key.now c.requires (returns-in-None-clause-found g c n)
