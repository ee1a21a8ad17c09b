use Rattle.std.proofs.Common.{◌∙◌, ◌<◌, ap, arith, rules, subst, sym}
use lib.Bits.{xor_zero_r}
use Rattle.cedar_table.specs.Table.Views.{cells, fields}
use Rattle.cedar_model.specs.Table.TableFields.{size_of}
use Rattle.cedar_model.proofs.MeaningLemmas.SearchStep.{says_something}
use Rattle.cedar_model.proofs.RelocationLemmas.Repointed.{base_within, names_none}
use Rattle.cedar_table.proofs.table.Table.has_number_slot.Goals as goal

pub returns-then-child-ne0 : goal.returns-then-child-ne0
returns-then-child-ne0 g c = (
  λ yes. cc,
  λ o. let n = c.requires.node in absurd (c.if-child-ne0.true (c.child.ensures ∙ names_none _ (cells c.args.self.now) c.args.node n.head n.labels c.requires.not_root o n.family)),
)

pub node_base-requires : goal.node_base-requires
node_base-requires g c =
    let n = c.requires.node in
    (search rules, (c.requires.node_in, says_something _ (cells c.args.self.now) c.args.node n.head n.labels n.family))

pub is_owned_by-requires : goal.is_owned_by-requires
is_owned_by-requires g c =
    let n = c.requires.node in
    (search rules, (subst (λ s. s < size_of (fields c.args.self.now)) (sym c.node_base.ensures) (base_within _ _ _ n.head n.labels (omega (arith, c.args.self.now.shaped.blocks.some)) n.family), c.requires.node_in))

pub returns : goal.returns
returns g c =
    let T = cells c.args.self.now in
    let at = c.node_base.ensures ∙ sym (xor_zero_r _) in
    (λ yes. ap T.check (sym at) ∙ c.is_owned_by.ensures.0 yes, λ o. c.is_owned_by.ensures.1 (ap T.check at ∙ o))
