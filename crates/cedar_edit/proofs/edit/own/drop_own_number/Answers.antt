use Rattle.std.proofs.Common.{arith, inl, inr, refl, rules, subst, sym, None}
use Rattle.cedar_model.specs.Edits.{edit_at}
use Rattle.cedar_model.specs.declared.layout.Stored.TheVariants.{AtBase}
use Rattle.cedar_model.specs.Meaning.StandsFor.{HoldsTree}
use Rattle.cedar_table.specs.Table.Views.{cells, fields}
use Rattle.cedar_model.specs.Table.TableFields.{size_of}
use Rattle.cedar_model.proofs.EditLemmas.AtPath.{held_node}
use Rattle.cedar_model.proofs.EditLemmas.OwnNumber.{field_edited, field_from_base, spare_past}
use Rattle.cedar_edit.proofs.edit.own.drop_own_number.Goals as goal

pub set_base-requires : goal.set_base-requires
set_base-requires g c =
    let n = c.requires.node.1 in
    (search rules, (c.requires.sound, (c.requires.node_in, (omega (arith, c.requires.node_in), (held_node (cells c.args.table.now) n.path c.args.node n.at, c.requires.not_root)))))

pub returns-clause-set : goal.returns-clause-set
returns-clause-set g c = field_from_base _ _ c.args.node 0 c.set_base.ensures.rebased

pub returns-clause-tree : goal.returns-clause-tree
returns-clause-tree g c = λ f w h at.
    let T = fields c.args.table.now in
    subst (λ m. HoldsTree m (cells c.set_base.new.self) (edit_at w (λ _. None) (λ u. u) f)) (sym c.set_base.ensures.frame.size)
    (field_edited (size_of T) (cells c.args.table.now) (cells c.set_base.new.self) f w c.args.node (size_of T) (AtBase 0) None h at c.requires.not_root c.requires.alone (returns-clause-set g c)
    (spare_past T (omega (arith, c.requires.node_in))) (inr (inl refl, refl)))
