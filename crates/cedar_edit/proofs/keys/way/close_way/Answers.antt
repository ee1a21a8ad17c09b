use Rattle.std.proofs.Common.{◌≡◌, ◌∙◌, ◌<◌, ℕ, arith, length, None, Option, rules, Some, subst, sym, take}
use Rattle.cedar_model.specs.Edit.NodeEdits.{IsAt}
use Rattle.cedar_model.specs.Meaning.Marks.{KeepsOtherMarks}
use Rattle.std.specs.Prelude.{MatchOption}
use Rattle.std.proofs.lemmas.List.{length-take-le}
use Rattle.cedar_model.specs.Table.Layouts.{reduced_layout}
use Rattle.cedar_table.specs.Table.Views.{cells, fields}
use Rattle.cedar_edit.specs.Changes.{MovesIn}
use Rattle.cedar_edit.proofs.keys.way.close_way.Goals as goal

-- what is known of the length where there is one
is_short : (o : Option ℕ) (n : ℕ) (P : ℕ → Type 0) → o ≡ Some n → MatchOption o (Unit {0}) P → P n
is_short o n P e m = subst (λ x. MatchOption x (Unit {0}) P) e m

pub slice_bounds-move_in-end : goal.slice_bounds-move_in-end
slice_bounds-move_in-end g c =
    let m : c.in-Some.length < length c.args.key.now = (is_short c.args.moved c.in-Some.length (λ n. (n < length c.args.key.now) × ((fields c.args.table.now).layout ≡ reduced_layout)) c.in-Some.is c.requires.moved).0 in
    sym (length-take-le _ _ (omega (arith, m)))

pub move_in-requires : goal.move_in-requires
move_in-requires g c =
    let m = is_short c.args.moved c.in-Some.length (λ n. (n < length c.args.key.now) × ((fields c.args.table.now).layout ≡ reduced_layout)) c.in-Some.is c.requires.moved in
    (search rules, (c.requires.well_formed, m.1))

pub returns-in-Some-clause-here : goal.returns-in-Some-clause-here
returns-in-Some-clause-here g c = λ n is.
    let chosen : Some c.in-Some.length ≡ Some n = sym c.in-Some.is ∙ is in
    let same : c.in-Some.length ≡ n = cc in
    subst (λ k. MovesIn (cells c.args.table.now) (cells c.move_in.new.table) (take k c.args.key.now)) same c.move_in.ensures.here

pub returns-in-Some-clause-none : goal.returns-in-Some-clause-none
returns-in-Some-clause-none g c = λ is. let clash : ◌≡◌ {A = Option ℕ} (Some c.in-Some.length) None = sym c.in-Some.is ∙ is in cc

pub returns-in_default-clause-here : goal.returns-in_default-clause-here
returns-in_default-clause-here g c = λ n is. absurd (c.in_default.not-Some n is)

pub returns-in_default-clause-others : goal.returns-in_default-clause-others
returns-in_default-clause-others g c = λ n s is. absurd (c.in_default.not-Some n is)

pub returns-in-Some-clause-others : goal.returns-in-Some-clause-others
returns-in-Some-clause-others g c = λ n s is.
    let chosen : Some c.in-Some.length ≡ Some n = sym c.in-Some.is ∙ is in
    let same : c.in-Some.length ≡ n = cc in
    subst (λ k. IsAt (cells c.args.table.now) (take k c.args.key.now) s → KeepsOtherMarks (cells c.args.table.now) (cells c.move_in.new.table) s) same (c.move_in.ensures.others s)
