use Rattle.std.proofs.Common.{◌<◌, ◌+◌, ◌∙◌, ap, arith, drop, get_or, rules, subst, sym, take}
use Rattle.cedar_model.specs.Edit.Own.{HasWay, NoOwn}
use Rattle.cedar_table.specs.Table.Views.{cells, fields}
use Rattle.cedar_model.specs.Table.TableFields.{size_of}
use Rattle.cedar_model.specs.Meaning.WellFormed.{tree_of}
use Rattle.cedar_model.proofs.MeaningLemmas.KeyPath.{key_goes_on, slot_within}
use Rattle.cedar_model.proofs.TreeLemmas.{key_is_path}
use Rattle.cedar_model.proofs.UpdateLemmas.AlongKey.{walk_begins}
use Rattle.cedar_model.proofs.UpdateLemmas.FreeWay.{next_bytes, way_behind, way_ends}
use Rattle.cedar_edit.proofs.keys.way.own_front.Goals as goal

pub loop-length-init : goal.loop-length-init
loop-length-init g c =
    let w = walk_begins g.row.SLOTS (fields c.args.table.now) c.args.key.now c.requires.well_formed (key_is_path c.args.key.now c.requires.key) in
    record { inside = w.inside; at = w.at; bytes = w.bytes; way = λ rest. rest }

pub is_owned_by-requires : goal.is_owned_by-requires
is_owned_by-requires g c =
    let T = fields c.args.table.now in
    let i = c.loop-length.invariant in
    let small : get_or c.args.key.now c.loop-length.length 0 < 256 = omega (arith, c.type_inv.key c.loop-length.length) in
    let inside = slot_within (size_of T) (cells c.args.table.now) (tree_of T).children (take c.loop-length.length c.args.key.now) c.loop-length.node c.requires.well_formed.stands i.at (get_or c.args.key.now c.loop-length.length 0) (omega (arith, i.inside)) (omega arith) small in
    (search rules, (subst (λ s. s < size_of T) (sym c.child_slot-slot.ensures) inside, i.inside))

pub returns-then-not-is_owned_by : goal.returns-then-not-is_owned_by
returns-then-not-is_owned_by g c =
    let T = cells c.args.table.now in
    let i = c.loop-length.invariant in
    let own : NoOwn T c.loop-length.node = λ v e. c.in_default.not-OwnNumber v (c.stored_at.ensures ∙ e) in
    i.way (way_behind T c.args.key.now c.loop-length.length c.loop-length.node c.loop-length-test.true own (λ o. let yes = c.is_owned_by.ensures.1 (ap T.check c.child_slot-slot.ensures ∙ o) in let no = c.if-not-is_owned_by.true in absurd (cc)))

pub loop-length-preserved : goal.loop-length-preserved
loop-length-preserved g c =
    let T = fields c.args.table.now in
    let i = c.loop-length.invariant in
    let key = c.args.key.now in
    let n = c.loop-length.length in
    let bytes = next_bytes (cells c.args.table.now) key n c.loop-length.node c.loop-length-test.true i.bytes in
    let small : get_or key n 0 < 256 = omega (arith, c.type_inv.key n) in
    let inside = slot_within (size_of T) (cells c.args.table.now) (tree_of T).children (take n key) c.loop-length.node c.requires.well_formed.stands i.at (get_or key n 0) (omega (arith, i.inside)) (omega arith) small in
    let own : NoOwn (cells c.args.table.now) c.loop-length.node = λ v e. c.in_default.not-OwnNumber v (c.stored_at.ensures ∙ e) in
    record {
      inside = subst (λ s. s < size_of T) (sym c.child_slot-slot.ensures) inside;
      at = key_goes_on (size_of T) (cells c.args.table.now) (tree_of T).children key n c.loop-length.node c.requires.well_formed.stands i.at c.loop-length-test.true (λ z. omega (arith, z, bytes.0)) c.child_slot-slot.result c.child_slot-slot.ensures (c.is_owned_by.ensures.0 c.if-not-is_owned_by.false);
      bytes = bytes.2;
      way = λ rest. i.way (way_behind (cells c.args.table.now) key n c.loop-length.node c.loop-length-test.true own (λ _. subst (λ s. HasWay (cells c.args.table.now) s (drop (n + 1) key)) c.child_slot-slot.ensures rest));
    }

pub returns : goal.returns
returns g c = c.loop-length.invariant.way (way_ends (cells c.args.table.now) c.args.key.now c.loop-length.length c.loop-length.node c.loop-length-test.false)
