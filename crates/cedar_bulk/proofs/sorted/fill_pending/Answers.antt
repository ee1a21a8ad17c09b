use Rattle.std.proofs.Common.{◌≡◌, ℕ, ◌+◌, ◌<◌, ◌∙◌, length, arith, rules, refl, sym, ap, subst, inl, inr, Option, Some, None, List, [], ◌∷◌, ◌++◌}
use Rattle.std.specs.Prelude.{MatchOption, option_to_list}
use Rattle.cedar_bulk.specs.declared.spans.Span.{Span}
use Rattle.cedar_bulk.specs.Packed.{Packed}
use Rattle.cedar_bulk.specs.Spans.{Filling, Part, part_of, parts_of, work}
use Rattle.cedar_table.specs.Table.Views.{fields}
use Rattle.cedar_model.proofs.UpdateLemmas.BlocksMade.{made_nothing, made_then}
use Rattle.cedar_bulk.proofs.BulkLemmas.Pending.{parts_last}
use Rattle.cedar_model.proofs.UpdateLemmas.Frame.{settings_then}
use Rattle.cedar_model.proofs.UpdateLemmas.StepAnswers.{refused_as}
use Rattle.cedar_bulk.proofs.sorted.fill_pending.Goals as goal

-- those that wait, the next one last
next_last : {K : Type 0} (bytes : K → List ℕ) (spans : List (Span K)) (next : Option (Span K)) (span : Span K) → next ≡ Some span
    → parts_of bytes (spans ++ option_to_list next) ≡ parts_of bytes spans ++ part_of bytes span ∷ []
next_last bytes spans next span is = ap (λ o. parts_of bytes (spans ++ option_to_list o)) is ∙ parts_last bytes spans span

none_next : {X : Type 0} {P : Type 0} (next : Option X) (Q : X → Type 0) → MatchOption next P Q → next ≡ None → P
none_next None Q p e = p
none_next (Some x) Q p e = cc

none_left : {K : Type 0} (bytes : K → List ℕ) (spans : List (Span K)) (next : Option (Span K)) → length spans ≡ 0 → next ≡ None → parts_of bytes (spans ++ option_to_list next) ≡ []
none_left bytes [] None e is = refl
none_left bytes [] (Some x) e is = cc
none_left bytes (x ∷ spans) next e is = absurd (omega (arith, e))

pub loop-next-init : goal.loop-next-init
loop-next-init g c = record {
  filling = λ f most k. k;
  packs = λ f most k p. p;
  last = λ e. let empty = none_next c.pop-next.result _ c.pop-next.ensures.cases e in omega (arith, empty.1);
  blocks = (0, made_nothing (fields c.args.table.now) (fields c.args.table.now) refl);
  root_check = refl;
  settings = record { ordered = refl; entries = refl; max_trial = refl };
}

pub fill_turn-requires : goal.fill_turn-requires
fill_turn-requires g c =
    let items = g.K.AsSlice.items in
    let r = c.requires.filling in
    let waits = next_last items c.loop-next.pending.items c.loop-next.next c.in-Some.span c.in-Some.is in
    let begun = subst (λ xs. Filling g.row.SLOTS (fields c.args.table.now) xs r.0 r.1) (ap (parts_of items) c.pop-next.ensures.items) r.2 in
    let k = subst (λ xs. Filling g.row.SLOTS (fields c.loop-next.table) xs r.0 r.1) waits (c.loop-next.invariant.filling r.0 r.1 begun) in
    (search (rules, c.requires-raw), (r.0, r.1, k))

pub loop-next-smaller : goal.loop-next-smaller
loop-next-smaller g c =
    let items = g.K.AsSlice.items in
    let r = c.requires.filling in
    let waits = next_last items c.loop-next.pending.items c.loop-next.next c.in-Some.span c.in-Some.is in
    let begun = subst (λ xs. Filling g.row.SLOTS (fields c.args.table.now) xs r.0 r.1) (ap (parts_of items) c.pop-next.ensures.items) r.2 in
    let k = subst (λ xs. Filling g.row.SLOTS (fields c.loop-next.table) xs r.0 r.1) waits (c.loop-next.invariant.filling r.0 r.1 begun) in
    let new : List Part = parts_of items (c.fill_turn.new.pending.items ++ option_to_list c.in_ok-next.next) in
    subst (λ xs. work new < work xs) (sym waits) (c.in_ok-next.ensures.turn r.0 r.1 k).1

pub loop-next-preserved : goal.loop-next-preserved
loop-next-preserved g c =
    let items = g.K.AsSlice.items in
    let i = c.loop-next.invariant in
    let e = c.in_ok-next.ensures in
    let waits = next_last items c.loop-next.pending.items c.loop-next.next c.in-Some.span c.in-Some.is in
    record {
      filling = λ f most h. (e.turn f most (subst (λ xs. Filling g.row.SLOTS (fields c.loop-next.table) xs f most) waits (i.filling f most h))).0;
      packs = λ f most h p. e.packs f most (subst (λ xs. Filling g.row.SLOTS (fields c.loop-next.table) xs f most) waits (i.filling f most h)) (subst (λ xs. Packed (fields c.loop-next.table) xs f) waits (i.packs f most h p));
      last = e.last;
      blocks = (i.blocks.0 + e.blocks.0, made_then i.blocks.0 e.blocks.0 (fields c.args.table.now) (fields c.loop-next.table) (fields c.fill_turn.new.table) i.blocks.1 e.blocks.1);
      root_check = e.root_check ∙ i.root_check;
      settings = settings_then (fields c.args.table.now) (fields c.loop-next.table) (fields c.fill_turn.new.table) i.settings e.settings;
    }

pub returns-in_err-next-clause-refused : goal.returns-in_err-next-clause-refused
returns-in_err-next-clause-refused g c =
    let items = g.K.AsSlice.items in
    let i = c.loop-next.invariant in
    let e = c.in_err-next.ensures in
    let waits = next_last items c.loop-next.pending.items c.loop-next.next c.in-Some.span c.in-Some.is in
    refused_as c.from_residual.result c.in_err-next.field-0.0 _ c.from_residual.ensures.1
    (elim e.refused [
      | inl m ↦ inl m
      | inr s ↦ inr (
        s.0,
        λ f most h.
            let begun = subst (λ xs. Filling g.row.SLOTS (fields c.args.table.now) xs f most) (ap (parts_of items) c.pop-next.ensures.items) h in
            s.1 f most (subst (λ xs. Filling g.row.SLOTS (fields c.loop-next.table) xs f most) waits (i.filling f most begun)),
      )
    ])

pub returns-in_err-next-clause-blocks : goal.returns-in_err-next-clause-blocks
returns-in_err-next-clause-blocks g c =
    let i = c.loop-next.invariant in
    let e = c.in_err-next.ensures in
    (i.blocks.0 + e.blocks.0, made_then i.blocks.0 e.blocks.0 (fields c.args.table.now) (fields c.loop-next.table) (fields c.fill_turn.new.table) i.blocks.1 e.blocks.1)

pub returns-clause-filled : goal.returns-clause-filled
returns-clause-filled g c = λ f most h.
    let items = g.K.AsSlice.items in
    let i = c.loop-next.invariant in
    let is : c.loop-next.next ≡ None = c.in_default.is in
    let begun = subst (λ xs. Filling g.row.SLOTS (fields c.args.table.now) xs f most) (ap (parts_of items) c.pop-next.ensures.items) h in
    subst (λ xs. Filling g.row.SLOTS (fields c.loop-next.table) xs f most) (none_left items c.loop-next.pending.items c.loop-next.next (i.last is) is) (i.filling f most begun)

pub returns-clause-packs : goal.returns-clause-packs
returns-clause-packs g c = λ f most h p.
    let items = g.K.AsSlice.items in
    let i = c.loop-next.invariant in
    let is : c.loop-next.next ≡ None = c.in_default.is in
    let first = ap (parts_of items) c.pop-next.ensures.items in
    let begun = subst (λ xs. Filling g.row.SLOTS (fields c.args.table.now) xs f most) first h in
    let packed = subst (λ xs. Packed (fields c.args.table.now) xs f) first p in
    subst (λ xs. Packed (fields c.loop-next.table) xs f) (none_left items c.loop-next.pending.items c.loop-next.next (i.last is) is) (i.packs f most begun packed)
