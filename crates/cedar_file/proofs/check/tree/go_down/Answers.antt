use Rattle.std.proofs.Common.{rules, ◌≡◌, ◌<◌, sym, ◌∙◌, ap, arith, pos, w32, FitsSigned}
use Rattle.std.specs.Prelude.{bit_xor}
use Rattle.std.proofs.lemmas.Int.{to_z-of_z}
use Rattle.cedar_model.specs.declared.layout.Stored.TheVariants.{OwnNumber}
use Rattle.cedar_table.specs.Table.Views.{cells, fields}
use Rattle.cedar_model.specs.Table.TableFields.{size_of}
use Rattle.cedar_model.specs.Meaning.Family.{below}
use Rattle.cedar_model.specs.Table.Layouts.{reading}
use Rattle.cedar_model.proofs.MeaningLemmas.TreeOf.{in_use}
use Rattle.cedar_file.proofs.TreeLemmas.WhatIsRead.{down_met, down_faulty, nothing_looks}
use Rattle.cedar_file.proofs.check.tree.go_down.Goals as goal

pub returns-then-slot-size-clause-faulty : goal.returns-then-slot-size-clause-faulty
returns-then-slot-size-clause-faulty g c = λ down.
    let T = cells c.args.table.now in
    let at : bit_xor c.args.walk.base c.from.result ≡ below T c.args.walk.node c.args.walk.label = ap (λ b. bit_xor b c.from.result) c.requires.at.base ∙ ap (below T c.args.walk.node) c.from.ensures in
    let inside = in_use (fields c.args.table.now) _ _ down.owned in
    omega (arith, at, inside, c.if-slot-size.true, c.size.ensures)

pub returns-then-not-names-clause-faulty : goal.returns-then-not-names-clause-faulty
returns-then-not-names-clause-faulty g c = λ down.
    let T = cells c.args.table.now in
    let fits_check : FitsSigned w32 c.read_node-node.result.check = search rules in
    let at : bit_xor c.args.walk.base c.from.result ≡ below T c.args.walk.node c.args.walk.label = ap (λ b. bit_xor b c.from.result) c.requires.at.base ∙ ap (below T c.args.walk.node) c.from.ensures in
    let yes = c.names.ensures.1 (to_z-of_z w32 c.read_node-node.result.check fits_check ∙ c.read_node-node.ensures.check ∙ ap T.check at ∙ down.owned) in
    cc

pub meet_based-requires : goal.meet_based-requires
meet_based-requires g c =
    let fits : FitsSigned w32 c.read_node-node.result.base = search rules in
    let inside : bit_xor c.args.walk.base c.from.result < size_of (fields c.args.table.now) = omega (arith, c.if-slot-size.false, c.size.ensures) in
    let stored = sym c.read_node-node.ensures.stored ∙ sym (ap (reading g.L.Layout.kind) (to_z-of_z w32 c.read_node-node.result.base fits)) ∙ sym c.read_base.ensures ∙ c.in-AtBase.is in
    (search rules, record { inside = inside; room = c.requires.at.room; stored = stored })

pub meet_own-requires : goal.meet_own-requires
meet_own-requires g c =
    let fits : FitsSigned w32 c.read_node-node.result.base = search rules in
    let inside : bit_xor c.args.walk.base c.from.result < size_of (fields c.args.table.now) = omega (arith, c.if-slot-size.false, c.size.ensures) in
    let stored = sym c.read_node-node.ensures.stored ∙ sym (ap (reading g.L.Layout.kind) (to_z-of_z w32 c.read_node-node.result.base fits)) ∙ sym c.read_base.ensures ∙ c.in-OwnNumber.is in
    let fits_value : FitsSigned w32 c.in-OwnNumber.value = search rules in
    (search rules, record { inside = inside; room = c.requires.at.room; root = c.requires.at.root; stored = stored ∙ ap OwnNumber (sym (to_z-of_z w32 c.in-OwnNumber.value fits_value)) })

pub returns-in-AtBase-clause-down : goal.returns-in-AtBase-clause-down
returns-in-AtBase-clause-down g c =
    let T = cells c.args.table.now in
    let at : bit_xor c.args.walk.base c.from.result ≡ below T c.args.walk.node c.args.walk.label = ap (λ b. bit_xor b c.from.result) c.requires.at.base ∙ ap (below T c.args.walk.node) c.from.ensures in
    let fits_check : FitsSigned w32 c.read_node-node.result.check = search rules in
    let owned : T.check (bit_xor c.args.walk.base c.from.result) ≡ pos c.args.walk.node = sym (to_z-of_z w32 c.read_node-node.result.check fits_check ∙ c.read_node-node.ensures.check) ∙ c.names.ensures.0 c.if-not-names.false in
    let small : c.args.walk.label < 256 = search rules in
    down_met _ T c.args.walk _ _ at c.requires.label small owned c.meet_based.ensures.meets.met

pub returns-in-AtBase-clause-faulty : goal.returns-in-AtBase-clause-faulty
returns-in-AtBase-clause-faulty g c =
    let T = cells c.args.table.now in
    let at : bit_xor c.args.walk.base c.from.result ≡ below T c.args.walk.node c.args.walk.label = ap (λ b. bit_xor b c.from.result) c.requires.at.base ∙ ap (below T c.args.walk.node) c.from.ensures in
    down_faulty _ T c.args.walk _ _ at c.meet_based.ensures.meets.faulty

pub returns-in-OwnNumber-clause-down : goal.returns-in-OwnNumber-clause-down
returns-in-OwnNumber-clause-down g c =
    let T = cells c.args.table.now in
    let at : bit_xor c.args.walk.base c.from.result ≡ below T c.args.walk.node c.args.walk.label = ap (λ b. bit_xor b c.from.result) c.requires.at.base ∙ ap (below T c.args.walk.node) c.from.ensures in
    let fits_check : FitsSigned w32 c.read_node-node.result.check = search rules in
    let owned : T.check (bit_xor c.args.walk.base c.from.result) ≡ pos c.args.walk.node = sym (to_z-of_z w32 c.read_node-node.result.check fits_check ∙ c.read_node-node.ensures.check) ∙ c.names.ensures.0 c.if-not-names.false in
    let small : c.args.walk.label < 256 = search rules in
    down_met _ T c.args.walk _ _ at c.requires.label small owned c.meet_own.ensures.meets.met

pub returns-in-OwnNumber-clause-faulty : goal.returns-in-OwnNumber-clause-faulty
returns-in-OwnNumber-clause-faulty g c =
    let T = cells c.args.table.now in
    let at : bit_xor c.args.walk.base c.from.result ≡ below T c.args.walk.node c.args.walk.label = ap (λ b. bit_xor b c.from.result) c.requires.at.base ∙ ap (below T c.args.walk.node) c.from.ensures in
    down_faulty _ T c.args.walk _ _ at c.meet_own.ensures.meets.faulty

pub returns-in-Nothing-clause-faulty : goal.returns-in-Nothing-clause-faulty
returns-in-Nothing-clause-faulty g c = λ down.
    let T = cells c.args.table.now in
    let fits : FitsSigned w32 c.read_node-node.result.base = search rules in
    let at : bit_xor c.args.walk.base c.from.result ≡ below T c.args.walk.node c.args.walk.label = ap (λ b. bit_xor b c.from.result) c.requires.at.base ∙ ap (below T c.args.walk.node) c.from.ensures in
    let stored = sym c.read_node-node.ensures.stored ∙ sym (ap (reading g.L.Layout.kind) (to_z-of_z w32 c.read_node-node.result.base fits)) ∙ sym c.read_base.ensures ∙ c.in-Nothing.is in
    nothing_looks _ T _ (ap T.stored (sym at) ∙ stored) down.looks
