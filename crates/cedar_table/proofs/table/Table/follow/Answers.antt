use Rattle.std.proofs.Common.{◌≡◌, ◌<◌, arith, rules, sym, ◌∙◌, subst, false}
use Rattle.std.specs.Prelude.{bit_xor}
use Rattle.cedar_model.specs.Tree.{has_label, subtree}
use Rattle.cedar_model.specs.Meaning.StandsFor.{Stands}
use Rattle.cedar_table.specs.Table.Views.{cells, fields}
use Rattle.cedar_model.specs.Table.TableFields.{size_of}
use Rattle.cedar_model.proofs.MeaningLemmas.SearchStep.{never_nothing, no_label_zero, unbased, slot_in, child_found, child_missing}
use Rattle.cedar_table.proofs.table.Table.follow.Goals as goal

pub stored_at_node-requires : goal.stored_at_node-requires
stored_at_node-requires g c =
    let T = c.args.self.now in
    (search rules, (c.requires.node_in, never_nothing (size_of (fields T)) (cells T) c.args.node c.requires.node.0 c.requires.node.1))

pub returns-then-label-eq0-clause-answer : goal.returns-then-label-eq0-clause-answer
returns-then-label-eq0-clause-answer g c = λ t k.
    subst (λ l. has_label t.children l ≡ false) (sym c.if-label-eq0.true) (no_label_zero _ _ c.args.node t k)

pub returns-in_default : goal.returns-in_default
returns-in_default g c = record {
  answer = λ t k. unbased _ _ c.args.node t k (λ b e. c.in_default.not-AtBase b (c.stored_at_node.ensures ∙ e)) c.args.label;
  cost = omega arith;
  found = search rules;
}

pub belongs-requires : goal.belongs-requires
belongs-requires g c =
    let T = c.args.self.now in
    let label : c.from.result < 256 = omega (arith, c.from.ensures, c.ranges.label.fits) in
    let within : bit_xor c.in-AtBase.base c.from.result < size_of (fields T) = slot_in (size_of (fields T)) (cells T) c.args.node c.requires.node.0 c.requires.node.1 c.in-AtBase.base c.from.result (sym c.stored_at_node.ensures ∙ c.in-AtBase.is) label (omega (arith, T.shaped.blocks.some)) (omega arith) in
    (search rules, (within, c.requires.node_in))

pub returns-then-belongs-clause-answer : goal.returns-then-belongs-clause-answer
returns-then-belongs-clause-answer g c = λ t k.
    let T = c.args.self.now in
    let at = sym c.stored_at_node.ensures ∙ c.in-AtBase.is in
    let label : c.from.result < 256 = omega (arith, c.from.ensures, c.ranges.label.fits) in
    let within : bit_xor c.in-AtBase.base c.from.result < size_of (fields T) = slot_in (size_of (fields T)) (cells T) c.args.node t k c.in-AtBase.base c.from.result at label (omega (arith, T.shaped.blocks.some)) (omega arith) in
    let found = child_found (size_of (fields T)) (cells T) c.args.node t k c.in-AtBase.base c.from.result at (omega (arith, c.from.ensures, c.if-label-eq0.false)) (c.belongs.ensures.answer.0 c.if-belongs.true) in
    (within, subst (λ l. Stands (size_of (fields T)) (cells T) (bit_xor c.in-AtBase.base c.from.result) (subtree t.children l)) c.from.ensures found)

pub returns-else-belongs-clause-answer : goal.returns-else-belongs-clause-answer
returns-else-belongs-clause-answer g c = λ t k.
    let T = c.args.self.now in
    subst (λ l. has_label t.children l ≡ false) c.from.ensures (child_missing (size_of (fields T)) (cells T) c.args.node t k c.in-AtBase.base c.from.result (sym c.stored_at_node.ensures ∙ c.in-AtBase.is) (λ e. let yes = c.belongs.ensures.answer.1 e in cc))
