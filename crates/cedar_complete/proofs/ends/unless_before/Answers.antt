use Rattle.std.proofs.Common.{rules, ◌≡◌, ℕ, ℤ, List, true, false, Option, Some, ap, sym, ◌∙◌, FitsSigned, to_z, of_z, w32, Vec}
use Rattle.std.specs.Cmp.Lexicographic.{slice_cmp}
use Rattle.std.specs.Ordering.{is_lt, nat_cmp}
use Rattle.std.proofs.lemmas.Int.{to_z-of_z}
use Rattle.cedar_tree.specs.Queries.{Entry}
use Rattle.last_entries.specs.Nearness.{entry_told}
use Rattle.cedar_complete.specs.Ends.{unless_before}
use Rattle.cedar_complete.proofs.RangeEndLemmas.{told_before, told_from}
use Rattle.cedar_complete.proofs.ends.unless_before.Goals as goal

abbrev entry_at_key : List ℕ → ℤ → Option Entry
entry_at_key key value = Some (key, value)

pub returns-then-is_lt : goal.returns-then-is_lt
returns-then-is_lt g c =
    let from = c.args.from.now in
    let e : Entry = (c.in-Some.key.items, c.in-Some.value) in
    let told = ap (λ (o : Option (ℤ × Vec ℕ g.row.B.Denot)). entry_told o) c.in-Some.is in
    let at : c.as_slice.result.now ≡ e.0 = search rules in
    let low : is_lt (slice_cmp nat_cmp e.0 from) ≡ true = sym (c.is_lt.ensures ∙ ap is_lt (c.cmp.ensures ∙ ap (λ w. slice_cmp nat_cmp w from) at)) ∙ c.if-is_lt.true in
    told_before from e low ∙ ap (unless_before from) (sym told)

pub returns : goal.returns
returns g c =
    let from = c.args.from.now in
    let e : Entry = (c.in-Some.key.items, c.in-Some.value) in
    let told = ap (λ (o : Option (ℤ × Vec ℕ g.row.B.Denot)). entry_told o) c.in-Some.is in
    let at : c.as_slice.result.now ≡ e.0 = search rules in
    let high : is_lt (slice_cmp nat_cmp e.0 from) ≡ false = sym (c.is_lt.ensures ∙ ap is_lt (c.cmp.ensures ∙ ap (λ w. slice_cmp nat_cmp w from) at)) ∙ c.if-is_lt.false in
    let fits : FitsSigned w32 e.1 = search rules in
    let number : to_z w32 (of_z w32 e.1) ≡ e.1 = to_z-of_z w32 e.1 fits in
    ap (entry_at_key e.0) number ∙ told_from from e high ∙ ap (unless_before from) (sym told)
