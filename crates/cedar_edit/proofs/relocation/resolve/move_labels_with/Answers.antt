use Rattle.std.proofs.Common.{◌≡◌, ◌+◌, ◌<◌, ◌∙◌, ap, arith, length, rules, subst, sym, ℕ, List}
use Rattle.cedar_model.specs.Meaning.Family.{Among, owned_slots}
use Rattle.cedar_table.specs.Table.Views.{cells, fields}
use Rattle.cedar_model.specs.Table.TableFields.{size_of}
use Rattle.cedar_model.specs.Relocation.Wanted.{with_label}
use Rattle.cedar_model.proofs.RelocationLemmas.Conflict.{not_owned, owned_short}
use Rattle.cedar_model.proofs.RelocationLemmas.WantedLabels.{with_length, with_new, with_old}
use Rattle.cedar_edit.proofs.StepLemmas.{refused_step}
use Rattle.cedar_edit.proofs.relocation.resolve.move_labels_with.Goals as goal

pub move_set_with-requires : goal.move_set_with-requires
move_set_with-requires g c =
    let T = cells c.args.table.now in
    let size : ℕ = size_of (fields c.args.table.now) in
    let n = c.requires.owned in
    let ls : List ℕ = owned_slots n.head n.labels in
    let labels : c.args.labels.now ≡ ls = n.owns in
    let wanted : c.args.wanted.now ≡ with_label (fields c.args.table.now).ordered c.args.label ls = c.requires.wanted ∙ ap (with_label (fields c.args.table.now).ordered c.args.label) labels in
    let short : length ls < 256 = owned_short size T c.args.node c.args.label n.head n.labels (omega (arith, c.ranges.label)) c.requires.absent n.family in
    let long : length (with_label (fields c.args.table.now).ordered c.args.label ls) ≡ length ls + 1 = with_length (fields c.args.table.now).ordered c.args.label ls in (
      search rules,
      (
        c.requires.node,
        (
          c.requires.owned,
          (
            λ l a. subst (λ v. Among v l) (sym wanted) (with_old (fields c.args.table.now).ordered c.args.label ls l (subst (λ v. Among v l) labels a)),
            (
              omega (arith, ap length wanted, long),
              (
                omega (arith, ap length wanted, long, short),
                (
                  subst (λ v. Among v c.args.label) (sym wanted) (with_new (fields c.args.table.now).ordered c.args.label ls),
                  λ a. not_owned size T c.args.node c.args.label n.head n.labels c.requires.absent n.family (subst (λ v. Among v c.args.label) labels a),
                ),
              ),
            ),
          ),
        ),
      ),
    )

pub returns-in_err-move_set_with-clause-step : goal.returns-in_err-move_set_with-clause-step
returns-in_err-move_set_with-clause-step g c =
    let step = c.in_err-move_set_with.ensures.step in
    refused_step _ _ _ c.from_residual.result c.in_err-move_set_with.field-0.0 c.from_residual.ensures.1 step.refused step.unchanged step.growth

pub returns-clause-moved : goal.returns-clause-moved
returns-clause-moved g c =
    let T = cells c.args.table.now in
    let size : ℕ = size_of (fields c.args.table.now) in
    let n = c.requires.owned in
    let ls : List ℕ = owned_slots n.head n.labels in
    let labels : c.args.labels.now ≡ ls = n.owns in
    let wanted : c.args.wanted.now ≡ with_label (fields c.args.table.now).ordered c.args.label ls = c.requires.wanted ∙ ap (with_label (fields c.args.table.now).ordered c.args.label) labels in
    let moved = c.in_ok-move_set_with.ensures.moved in
    let new : Among c.args.labels.now c.args.label → ⊥ = λ a. not_owned size T c.args.node c.args.label n.head n.labels c.requires.absent n.family (subst (λ v. Among v c.args.label) labels a) in
    let there : Among c.args.wanted.now c.args.label = subst (λ v. Among v c.args.label) (sym wanted) (with_new (fields c.args.table.now).ordered c.args.label ls) in
    (c.in_ok-move_set_with.field-0, c.args.labels.now, c.args.wanted.now, (moved.set.room c.args.label there new).not_first, (moved.set.room c.args.label there new).in_use, moved)
