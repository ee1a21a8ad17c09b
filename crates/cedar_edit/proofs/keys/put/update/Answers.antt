use Rattle.std.proofs.Common.{◌≡◌, ◌⊎◌, ◌∙◌, ◌<◌, ℕ, ap, arith, FitsSigned, inl, inr, None, of_z, refl, rules, subst, sym, take, to_z, w32}
use Rattle.std.specs.Prelude.{is_some, length, true}
use Rattle.std.proofs.lemmas.Int.{to_z-of_z}
use Rattle.cedar_model.specs.Tree.{has_label, number_at, put, Tree}
use Rattle.cedar_model.specs.Queries.{node_at}
use Rattle.cedar_model.specs.Table.Cells.{NoPlace}
use Rattle.cedar_model.specs.Meaning.Marks.{KeepsMarks, mark, MovesOut}
use Rattle.cedar_model.specs.Edit.KeyWalk.{TakenBack}
use Rattle.cedar_model.specs.Edit.Steps.{MakesBlocks, root_of}
use Rattle.cedar_table.specs.Table.Views.{fields}
use Rattle.cedar_model.specs.Table.TableFields.{Fields, size_of}
use Rattle.cedar_model.specs.Meaning.WellFormed.{cells_in, is_value, tree_of}
use Rattle.cedar_model.proofs.UpdateLemmas.MarksMovedBack.{childless_first, moved_back}
use Rattle.cedar_model.proofs.MeaningLemmas.NumberSlots.{root_unmarked}
use Rattle.cedar_model.proofs.UpdateLemmas.MarkedTree.{marks_put}
use Rattle.cedar_model.proofs.UpdateLemmas.MarksAfterUpdate.{puts_marks}
use Rattle.cedar_model.proofs.MeaningLemmas.SameMarks.{marks_stay}
use Rattle.cedar_model.proofs.UpdateLemmas.StepAnswers.{on_refusal}
use Rattle.cedar_model.proofs.UpdateLemmas.Ending.{refuses_on}
use Rattle.cedar_model.proofs.UpdateLemmas.BlocksMade.{made_framed}
use Rattle.cedar_model.proofs.UpdateLemmas.WayAndPut.{all_made, each_moved, fewer_made, some_or_none}
use Rattle.cedar_model.proofs.UpdateLemmas.AlongKey.{key_some}
use Rattle.cedar_model.specs.Edit.Packing.{joins}
use Rattle.cedar_model.proofs.MeaningLemmas.TreeOf.{tree_of_is}
use Rattle.cedar_edit.proofs.PackingLemmas.{moved_joins, packs_after}
use Rattle.cedar_edit.proofs.PutLemmas.{refused_put, two_bytes}
use Rattle.cedar_edit.proofs.keys.put.update.Goals as goal

pub returns-in_err-moved-clause-puts : goal.returns-in_err-moved-clause-puts
returns-in_err-moved-clause-puts g c =
    let e = c.in_err-moved.ensures in
    let some = key_some c.args.key.now c.requires.key in
    let made = e.blocks in
    let few : made.0 < 1 = made.2 in
    let back : TakenBack g.row.SLOTS (fields c.args.table.now) (fields c.make_way.new.table) c.args.key.now c.in_err-moved.field-0.0 = record {
      well_formed = c.make_way.ensures.well_formed;
      tree = c.make_way.ensures.tree;
      refused = e.refused;
      blocks = (made.0, omega (arith, few, some), (λ _ _. let more = two_bytes (length c.args.key.now) some (λ one. (e.one_byte one).1) in omega (arith, few, more)), made.3);
      marks = e.stays;
      over = λ held. (e.over held).1;
      one_byte = λ b only new. absurd (e.one_byte (ap length only)).1;
      modes = c.make_way.ensures.modes;
    } in
    refused_put g.row.SLOTS (fields c.args.table.now) (fields c.make_way.new.table) c.args.key.now c.args.value c.from_residual.result c.in_err-moved.field-0.0 c.from_residual.ensures.1 back

pub put_along-requires : goal.put_along-requires
put_along-requires g c =
    let fits : FitsSigned w32 c.args.value = search rules in
    let same : to_z w32 (of_z w32 c.args.value) ≡ c.args.value = to_z-of_z w32 c.args.value fits in
    (search rules, (c.make_way.ensures.well_formed, (c.requires.key, (ap is_value same ∙ c.requires.value, c.in_ok-moved.ensures.way))))

pub close_way-requires : goal.close_way-requires
close_way-requires g c =
    (search rules, (c.put_along.ensures.puts.well_formed, each_moved c.in_ok-moved.moved _ (λ n is. let k = c.in_ok-moved.ensures.moved n is in (k.0, k.1))))

pub returns-in-Err-clause-puts : goal.returns-in-Err-clause-puts
returns-in-Err-clause-puts g c =
    let way = c.make_way.ensures in
    let none : c.in_ok-moved.moved ≡ None → fields c.make_way.new.table ≡ fields c.args.table.now = c.in_ok-moved.ensures.none in
    let next = c.in-Err.ensures.puts in
    let back = c.close_way.ensures in
    let first = way.blocks in
    let made = fewer_made (fields c.args.table.now) (fields c.make_way.new.table) (fields c.put_along.new.table) (length c.args.key.now) c.in_ok-moved.moved none (first.0, first.1, first.3) (next.blocks.0, next.blocks.2, next.blocks.3)
    (λ n is. let k = c.in_ok-moved.ensures.moved n is in let rest = c.in-Err.ensures.lacking k.1 k.2 in (rest.0, rest.2, rest.3)) in
    let few = made.1 in
    record {
      well_formed = back.well_formed;
      put = tt;
      held = tt;
      taken_back = back.tree ∙ next.taken_back ∙ way.tree;
      refused = refuses_on (fields c.put_along.new.table) (fields c.close_way.new.table) g.row.SLOTS c.in-Err.error back.frame next.refused;
      blocks = (made.0, omega (arith, few), few, made_framed made.0 (fields c.args.table.now) (fields c.put_along.new.table) (fields c.close_way.new.table) made.2 back.frame);
      over = λ held. absurd (next.over (ap (λ (t : Tree). is_some (number_at t c.args.key.now)) way.tree ∙ held)).0;
      one_byte = λ b is new.
          let same : fields c.make_way.new.table ≡ fields c.args.table.now = none (c.in_ok-moved.ensures.one_byte (ap length is)).0 in
          elim (next.one_byte b is (ap (λ (t : Tree). has_label t.children b) way.tree ∙ new)) [
            | inl made ↦ absurd made.0
            | inr full ↦ inr (full.0, subst (λ (T : Fields). NoPlace (size_of T) (cells_in T)) same full.1)
          ];
      packs = tt;
      modes = record { ordered = back.frame.settings.ordered ∙ next.modes.ordered ∙ way.modes.ordered; max_trial = back.frame.settings.max_trial ∙ next.modes.max_trial ∙ way.modes.max_trial };
    }

pub returns-in-Ok-clause-puts : goal.returns-in-Ok-clause-puts
returns-in-Ok-clause-puts g c =
    let fits : FitsSigned w32 c.args.value = search rules in
    let same_value : to_z w32 (of_z w32 c.args.value) ≡ c.args.value = to_z-of_z w32 c.args.value fits in
    let way = c.make_way.ensures in
    let none : c.in_ok-moved.moved ≡ None → fields c.make_way.new.table ≡ fields c.args.table.now = c.in_ok-moved.ensures.none in
    let next = c.in-Ok.ensures.puts in
    let first = way.blocks in
    let made = all_made (fields c.args.table.now) (fields c.make_way.new.table) (fields c.put_along.new.table) (length c.args.key.now) c.in_ok-moved.moved none (first.0, first.1, first.3) (next.blocks.0, next.blocks.1, next.blocks.3)
    (λ n is. let k = c.in_ok-moved.ensures.moved n is in let rest = c.in-Ok.ensures.lacking k.1 k.2 in (rest.0, rest.1, rest.3)) in
    let old = fields c.args.table.now in
    let moved_or_same : (fields c.make_way.new.table ≡ old) ⊎ (joins (tree_of old) c.args.key.now ≡ 1) = elim (some_or_none c.in_ok-moved.moved) [
      | inl none_moved ↦ inl (none none_moved)
      | inr some ↦
          let one = moved_joins (size_of old) old (cells_in (fields c.make_way.new.table)) (tree_of old).children c.args.key.now some.0 c.requires.well_formed.stands (c.in_ok-moved.ensures.moves some.0 some.1) in
          inr (ap (λ (t : Tree). joins t c.args.key.now) (tree_of_is old (tree_of old).children c.requires.well_formed.stands) ∙ one)
    ] in
    record {
      well_formed = next.well_formed;
      put = next.put ∙ ap (λ v. put (tree_of (fields c.make_way.new.table)) (fields c.make_way.new.table).ordered c.args.key.now v) same_value
          ∙ ap (λ (t : Tree). put t (fields c.make_way.new.table).ordered c.args.key.now c.args.value) way.tree
          ∙ ap (λ o. put (tree_of (fields c.args.table.now)) o c.args.key.now c.args.value) way.modes.ordered;
      held = next.held ∙ ap (λ (t : Tree). number_at t c.args.key.now) way.tree;
      taken_back = tt;
      refused = tt;
      blocks = (made.0, made.1, tt, made.2);
      over = λ held.
          let same : fields c.make_way.new.table ≡ fields c.args.table.now = none (c.in_ok-moved.ensures.over held).0 in
          (tt, subst (λ (T : Fields). MakesBlocks 0 T (fields c.put_along.new.table)) same (next.over (ap (λ (t : Tree). is_some (number_at t c.args.key.now)) way.tree ∙ held)).1);
      one_byte = λ b is new.
          let same : fields c.make_way.new.table ≡ fields c.args.table.now = none (c.in_ok-moved.ensures.one_byte (ap length is)).0 in
          elim (next.one_byte b is (ap (λ (t : Tree). has_label t.children b) way.tree ∙ new)) [
            | inl made ↦ inl (tt, subst (λ (T : Fields). MakesBlocks 0 T (fields c.put_along.new.table)) same made.1)
            | inr full ↦ inr (full.0, subst (λ (T : Fields). NoPlace (size_of T) (cells_in T)) same full.1)
          ];
      packs = packs_after (fields c.args.table.now) (fields c.make_way.new.table) (fields c.put_along.new.table) c.args.key.now first.0 first.1 first.3 way.tree c.in_ok-moved.ensures.made moved_or_same c.in-Ok.ensures.small;
      modes = record { ordered = next.modes.ordered ∙ way.modes.ordered; max_trial = next.modes.max_trial ∙ way.modes.max_trial };
    }

pub returns-in_err-moved-clause-marks : goal.returns-in_err-moved-clause-marks
returns-in_err-moved-clause-marks g c = on_refusal c.from_residual.result _ c.in_err-moved.ensures.stays

pub returns-in-Err-clause-marks : goal.returns-in-Err-clause-marks
returns-in-Err-clause-marks g c =
    let T = fields c.args.table.now in
    let mid = fields c.make_way.new.table in
    let after = fields c.put_along.new.table in
    let last = fields c.close_way.new.table in
    let well = c.put_along.ensures.puts.well_formed in
    elim (some_or_none c.in_ok-moved.moved) [
      | inl none_moved ↦
          let same : mid ≡ T = c.in_ok-moved.ensures.none none_moved in
          let still : cells_in last ≡ cells_in after = c.close_way.ensures.none none_moved in
          subst (λ (F : Fields). KeepsMarks (cells_in F) (cells_in last)) same (subst (KeepsMarks (cells_in mid)) (sym still) c.in-Err.ensures.marks)
      | inr some ↦
          let u = take some.0 c.args.key.now in
          let k = c.in_ok-moved.ensures.moves some.0 some.1 in
          let tree : tree_of after ≡ tree_of T = c.in-Err.ensures.puts.taken_back ∙ c.make_way.ensures.tree in
          moved_back (cells_in T) (cells_in mid) (cells_in after) (cells_in last) (root_of (tree_of T).children) u c.requires.well_formed.stands.root well.stands.root k c.in-Err.ensures.marks
          (λ s at is. c.close_way.ensures.here some.0 some.1 s at is
          (childless_first (size_of after) (cells_in after) (tree_of after).children u s well.stands at (λ z. root_unmarked (size_of after) (cells_in after) (tree_of after).children true well.stands (ap (mark (cells_in after)) (sym z) ∙ is))
          (λ l h. k.childless l (ap (λ (t : Tree). has_label (node_at (root_of t.children) u).children l) (sym tree) ∙ h))))
          (λ s at. c.close_way.ensures.others some.0 s some.1 at)
    ]

pub returns-in-Ok-clause-new_marks : goal.returns-in-Ok-clause-new_marks
returns-in-Ok-clause-new_marks g c =
    let T = fields c.args.table.now in
    let mid = fields c.make_way.new.table in
    let way = c.in_ok-moved.ensures in
    let moved : (mid ≡ T) ⊎ ((n : ℕ) × (n < length c.args.key.now) × MovesOut (cells_in T) (cells_in mid) (root_of (tree_of T).children) (take n c.args.key.now)) = elim (some_or_none c.in_ok-moved.moved) [
      | inl none_moved ↦ inl (way.none none_moved)
      | inr some ↦ inr (some.0, (way.moved some.0 some.1).0, way.moves some.0 some.1)
    ] in
    puts_marks g.row.SLOTS T mid (fields c.put_along.new.table) c.args.key.now c.requires.well_formed c.make_way.ensures.well_formed c.make_way.ensures.tree refl way.way (λ held. way.none (way.over held).0) moved c.in-Ok.ensures.marks c.in-Ok.ensures.new_mark

pub returns-in-Ok-clause-marks_put : goal.returns-in-Ok-clause-marks_put
returns-in-Ok-clause-marks_put g c = λ reduced.
    marks_put g.row.SLOTS (fields c.args.table.now) (fields c.put_along.new.table) c.args.key.now c.args.value c.requires.well_formed c.in-Ok.ensures.puts.well_formed (key_some c.args.key.now c.requires.key) reduced
    (returns-in-Ok-clause-puts g c).put (returns-in-Ok-clause-new_marks g c)

pub returns-in_err-moved-clause-marks_stay : goal.returns-in_err-moved-clause-marks_stay
returns-in_err-moved-clause-marks_stay g c =
    on_refusal c.from_residual.result _ (marks_stay g.row.SLOTS (fields c.args.table.now) (fields c.make_way.new.table) c.requires.well_formed c.make_way.ensures.well_formed c.make_way.ensures.tree c.in_err-moved.ensures.stays)

pub returns-in-Err-clause-marks_stay : goal.returns-in-Err-clause-marks_stay
returns-in-Err-clause-marks_stay g c =
    marks_stay g.row.SLOTS (fields c.args.table.now) (fields c.close_way.new.table) c.requires.well_formed c.close_way.ensures.well_formed
    (c.close_way.ensures.tree ∙ c.in-Err.ensures.puts.taken_back ∙ c.make_way.ensures.tree) (returns-in-Err-clause-marks g c)
