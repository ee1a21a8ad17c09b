use Rattle.std.proofs.Common.{◌<◌, arith, rules, sym, ◌∙◌, ap, subst, eqb, refl}
use lib.Bits.{xor_zero_r}
use Rattle.cedar_table.specs.Table.Views.{cells, fields}
use Rattle.cedar_model.specs.Table.TableFields.{size_of}
use Rattle.cedar_model.proofs.MeaningLemmas.NodeAtPath.{at_node}
use Rattle.cedar_model.proofs.MeaningLemmas.BareSlot.{bare_is, found_not_bare, own_not_bare}
use Rattle.cedar_model.proofs.MeaningLemmas.SearchStep.{never_nothing, slot_in}
use Rattle.cedar_model.proofs.UpdateLemmas.LeftBare.{at_root, not_at_root}
use Rattle.cedar_edit.proofs.keys.erase.is_bare.Goals as goal

pub returns-then-node-eq0 : goal.returns-then-node-eq0
returns-then-node-eq0 g c = λ f w h at. at_root c.args.node _ _ c.if-node-eq0.true refl

pub is_owned_by-requires : goal.is_owned_by-requires
is_owned_by-requires g c =
    let T = c.args.table.now in
    let n = c.requires.node.1 in
    let st = at_node (size_of (fields T)) (cells T) c.requires.node.0 n.path c.args.node n.holds n.at in
    let within : c.in-AtBase.base < size_of (fields T) = subst (λ x. x < size_of (fields T)) (xor_zero_r c.in-AtBase.base) (slot_in (size_of (fields T)) (cells T) c.args.node _ st c.in-AtBase.base 0 (sym c.stored_at.ensures ∙ c.in-AtBase.is) (omega arith) (omega (arith, T.shaped.blocks.some)) (omega arith)) in
    (search rules, (within, c.requires.node_in))

pub returns-then-not-is_owned_by : goal.returns-then-not-is_owned_by
returns-then-not-is_owned_by g c = λ f w h at.
    let T = c.args.table.now in
    let st = at_node (size_of (fields T)) (cells T) f w c.args.node h at in
    not_at_root c.args.node _ _ c.if-node-eq0.false (ap (λ x. eqb x 0) c.child.ensures ∙ bare_is (size_of (fields T)) (cells T) c.args.node _ st c.in-AtBase.base (sym c.stored_at.ensures ∙ c.in-AtBase.is) c.if-node-eq0.false (λ o. let yes = c.is_owned_by.ensures.1 o in cc))

pub returns-else-not-is_owned_by : goal.returns-else-not-is_owned_by
returns-else-not-is_owned_by g c = λ f w h at.
    let T = c.args.table.now in
    let st = at_node (size_of (fields T)) (cells T) f w c.args.node h at in
    not_at_root c.args.node _ _ c.if-node-eq0.false (rw c.if-not-is_owned_by.false (found_not_bare (size_of (fields T)) (cells T) c.args.node _ st c.in-AtBase.base (sym c.stored_at.ensures ∙ c.in-AtBase.is) (c.is_owned_by.ensures.0 c.if-not-is_owned_by.false)))

pub returns-in-OwnNumber : goal.returns-in-OwnNumber
returns-in-OwnNumber g c = λ f w h at.
    let T = c.args.table.now in
    not_at_root c.args.node _ _ c.if-node-eq0.false (own_not_bare (size_of (fields T)) (cells T) c.args.node _ (at_node (size_of (fields T)) (cells T) f w c.args.node h at) c.in-OwnNumber.field-0 (sym c.stored_at.ensures ∙ c.in-OwnNumber.is))

pub returns-in-Nothing : goal.returns-in-Nothing
returns-in-Nothing g c = λ f w h at.
    let T = c.args.table.now in
    absurd (never_nothing _ _ c.args.node _ (at_node (size_of (fields T)) (cells T) f w c.args.node h at) (sym c.stored_at.ensures ∙ c.in-Nothing.is))
