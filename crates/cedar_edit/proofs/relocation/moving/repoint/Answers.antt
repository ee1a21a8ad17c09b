use Rattle.std.proofs.Common.{◌<◌, arith, rules, subst, sym}
use Rattle.cedar_table.specs.Table.Views.{cells, fields}
use Rattle.cedar_model.specs.Table.TableFields.{size_of}
use Rattle.cedar_model.specs.Meaning.Family.{base_in}
use Rattle.cedar_model.proofs.UpdateLemmas.Frame.{frame_then}
use Rattle.cedar_model.proofs.RelocationLemmas.Repointed.{base_within, repointed_both}
use Rattle.cedar_edit.proofs.relocation.moving.repoint.Goals as goal

pub repoint_chain-requires : goal.repoint_chain-requires
repoint_chain-requires g c =
    let n = c.requires.node in
    let same = sym c.repoint_number-first.ensures.frame.size in
    let based = base_within _ _ _ n.head n.labels (omega (arith, c.args.table.now.shaped.blocks.some)) n.family in (
      search rules,
      (
        c.repoint_number-first.ensures.sound,
        (
          subst (λ s. c.args.from < s) same c.requires.from_in,
          (
            subst (λ s. base_in ((cells c.repoint_number-first.new.table).stored c.args.from) < s) same (subst (λ st. base_in st < size_of (fields c.args.table.now)) (sym (c.repoint_number-first.ensures.number.stored c.args.from)) based),
            (c.requires.to_in, (n.labels, c.repoint_number-first.ensures.chain n.head n.labels n.family)),
          ),
        ),
      ),
    )

pub returns-clause-repointed : goal.returns-clause-repointed
returns-clause-repointed g c =
    let n = c.requires.node in
    repointed_both _ _ _ _ c.args.from c.args.to n c.requires.not_root c.repoint_number-first.ensures.number (c.repoint_chain.ensures.repointed n.labels (c.repoint_number-first.ensures.chain n.head n.labels n.family))

pub returns-clause-frame : goal.returns-clause-frame
returns-clause-frame g c = frame_then _ _ _ c.repoint_number-first.ensures.frame c.repoint_chain.ensures.frame
