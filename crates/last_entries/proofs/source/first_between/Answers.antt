use Rattle.std.proofs.Common.{rules, ◌≡◌, ◌∷◌, [], ℕ, ℤ, List, true, false, Option, option_map, Some, ap, sym, subst, ◌∙◌, Bor, FitsSigned, to_z, of_z, w32}
use Rattle.std.proofs.lemmas.Int.{to_z-of_z}
use Rattle.last_entries.specs.Nearness.{before_end, from_on, IsFirstOf}
use Rattle.key_ranges.specs.Spans.{ends_before}
use Rattle.last_entries.proofs.NearLemmas.{first_is_behind, first_is_between, none_between}
use Rattle.last_entries.proofs.source.first_between.Goals as goal

pub returns-in_default : goal.returns-in_default
returns-in_default g c =
    let es = g.S.Ascending.entries c.args.source.now in
    let to : Option (List ℕ) = option_map {T = Bor (List ℕ)} {U = List ℕ} (λ z. z.now) c.args.to in
    let none : from_on c.args.from.now es ≡ [] = search rules in
    none_between to c.args.from.now es none

pub returns-then-comes_before : goal.returns-then-comes_before
returns-then-comes_before g c =
    let es = g.S.Ascending.entries c.args.source.now in
    let to : Option (List ℕ) = option_map {T = Bor (List ℕ)} {U = List ℕ} (λ z. z.now) c.args.to in
    let from = c.args.from.now in
    let key = c.first_since.new.key.items in
    let value : ℤ = c.in-Some.value in
    let first : IsFirstOf (from_on from es) key (Some value) = subst (λ (o : Option ℤ). IsFirstOf (from_on from es) key o) c.in-Some.is c.in_ok-value.ensures in
    let passing : ends_before to key ≡ true = sym (c.comes_before.ensures ∙ ap (ends_before to) c.deref.ensures.value) ∙ c.if-comes_before.true in
    let fits : FitsSigned w32 value = search rules in
    let number : to_z w32 (of_z w32 value) ≡ value = to_z-of_z w32 value fits in
    (before_end to first.0, first_is_between to from es key value first.0 first.1 passing ∙ ap (λ (n : ℤ). (key, n) ∷ before_end to first.0) (sym number))

pub returns : goal.returns
returns g c =
    let es = g.S.Ascending.entries c.args.source.now in
    let to : Option (List ℕ) = option_map {T = Bor (List ℕ)} {U = List ℕ} (λ z. z.now) c.args.to in
    let from = c.args.from.now in
    let key = c.first_since.new.key.items in
    let value : ℤ = c.in-Some.value in
    let first : IsFirstOf (from_on from es) key (Some value) = subst (λ (o : Option ℤ). IsFirstOf (from_on from es) key o) c.in-Some.is c.in_ok-value.ensures in
    let fails : ends_before to key ≡ false = sym (c.comes_before.ensures ∙ ap (ends_before to) c.deref.ensures.value) ∙ c.if-comes_before.false in
    first_is_behind to from es key value first.0 c.requires first.1 fails
