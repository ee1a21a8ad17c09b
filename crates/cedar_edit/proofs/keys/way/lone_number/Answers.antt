use Rattle.std.proofs.Common.{◌≡◌, ◌<◌, ◌∙◌, ap, arith, rules, subst, sym, w32, FitsSigned, cond}
use Rattle.std.specs.Prelude.{pos}
use Rattle.std.proofs.lemmas.Int.{to_z-of_z}
use Rattle.cedar_model.specs.Meaning.Family.{base_of, below}
use Rattle.cedar_table.specs.Table.Views.{cells, fields}
use Rattle.cedar_model.specs.Table.TableFields.{size_of}
use Rattle.cedar_model.proofs.UpdateLemmas.Erasure.{lead_of}
use Rattle.cedar_model.proofs.MeaningLemmas.KeyPath.{base_inside}
use Rattle.cedar_model.proofs.MeaningLemmas.OneTree.{owns_yes}
use Rattle.cedar_edit.proofs.keys.way.lone_number.Goals as goal
use Rattle.cedar_edit.proofs.keys.way.lone_number.Goals.{else-is_owned_by-via-then-is_owned_by+else-sibling-eq0, else-is_owned_by-via-else-is_owned_by}

pub is_owned_by-requires : goal.is_owned_by-requires
is_owned_by-requires g c =
    let T = fields c.args.table.now in
    let n = c.requires.node.1 in
    let inside : base_of (cells c.args.table.now) c.args.node < size_of T = base_inside (size_of T) (cells c.args.table.now) c.requires.node.0 n.path c.args.node n.holds n.at (omega (arith, c.requires.node_in)) in
    (search rules, (subst (λ s. s < size_of T) (sym c.base_of-slot.ensures) inside, c.requires.node_in))

pub sibling-requires : goal.sibling-requires
sibling-requires g c =
    let T = fields c.args.table.now in
    let n = c.requires.node.1 in
    let inside : base_of (cells c.args.table.now) c.args.node < size_of T = base_inside (size_of T) (cells c.args.table.now) c.requires.node.0 n.path c.args.node n.holds n.at (omega (arith, c.requires.node_in)) in
    (search rules, omega (arith, inside, c.base_of-slot.ensures, c.args.table.now.shaped.blocks.active_in))

pub base-requires : goal.base-requires
base-requires g c =
    let T = fields c.args.table.now in
    let n = c.requires.node.1 in
    let inside : base_of (cells c.args.table.now) c.args.node < size_of T = base_inside (size_of T) (cells c.args.table.now) c.requires.node.0 n.path c.args.node n.holds n.at (omega (arith, c.requires.node_in)) in
    (search rules, omega (arith, inside, c.base_of-slot.ensures, c.args.table.now.shaped.blocks.active_in))

pub returns-then-sibling-eq0 : goal.returns-then-sibling-eq0
returns-then-sibling-eq0 g c =
    let T = cells c.args.table.now in
    let e : below T c.args.node 0 ≡ c.base_of-slot.result = lead_of T c.args.node c.base_of-slot.result c.base_of-slot.ensures in
    let mine : T.check (below T c.args.node 0) ≡ pos c.args.node = ap T.check e ∙ c.is_owned_by.ensures.0 c.if-is_owned_by.true in
    let fits : FitsSigned w32 c.base.result = search rules in
    let first = ap (λ b. cond b (T.sibling (below T c.args.node 0)) (T.child c.args.node)) (owns_yes T c.args.node mine) ∙ ap T.sibling e ∙ sym c.sibling.ensures ∙ c.if-sibling-eq0.true in
    (mine, ap T.base e ∙ sym c.base.ensures ∙ sym (to_z-of_z w32 c.base.result fits), first)

pub returns : goal.returns
returns g c = λ mine first.
    let T = cells c.args.table.now in
    let e : below T c.args.node 0 ≡ c.base_of-slot.result = lead_of T c.args.node c.base_of-slot.result c.base_of-slot.ensures in
    elim c.else-is_owned_by.branch [
      | else-is_owned_by-via-then-is_owned_by+else-sibling-eq0 w ↦
          let zero : w.sibling.result ≡ 0 = w.sibling.ensures ∙ ap T.sibling (sym e) ∙ sym (ap (λ b. cond b (T.sibling (below T c.args.node 0)) (T.child c.args.node)) (owns_yes T c.args.node mine)) ∙ first in
          w.if-sibling-eq0.false zero
      | else-is_owned_by-via-else-is_owned_by w ↦ let yes = c.is_owned_by.ensures.1 (ap T.check (sym e) ∙ mine) in let no = w.if-is_owned_by.false in cc
    ]
