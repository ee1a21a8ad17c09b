use Rattle.std.proofs.Common.{◌≡◌, ◌∙◌, ◌+◌, ◌++◌, ◌≤◌, ◌∷◌, ℕ, ℤ, List, Bor, FitsSigned, ap, arith, length, map, rules, sym, w32}
use Rattle.std.proofs.lemmas.Int.{to_z-of_z}
use Rattle.std.proofs.lemmas.List.Elements.{All-head, All-same, All-tail}
use Rattle.cedar_words.specs.Words.{AreWholeCharacters, keywords_in, Spot}
use Rattle.uses.specs.Parts.{term_of}
use Rattle.uses.proofs.PartLemmas.{all_parts, part_is, part_more}
use Rattle.uses.proofs.TermLemmas.{terms_whole}
use Rattle.uses.proofs.glossary.Glossary.terms_in.Goals as goal

pub loop-keyword-init : goal.loop-keyword-init
loop-keyword-init c =
    let text = c.args.text.now in
    let P = λ (s : Spot). AreWholeCharacters text s.0 s.1 in
    let all : c.into_iter-keyword-iterator.result ≡ keywords_in c.args.self.now.tree text = search rules in (
      All-same P c.into_iter-keyword-iterator.result (keywords_in c.args.self.now.tree text) all (terms_whole c.self.inside.terms.state c.args.self.now text c.self.view_is c.self.invariant c.utf8.text),
      ap (λ (xs : List (Bor (List ℕ) × ℤ)). map (λ term. (term.0.now, term.1)) xs ++ map (term_of text) c.into_iter-keyword-iterator.result) c.new-found.ensures.items
          ∙ ap (λ (spots : List Spot). map (term_of text) spots) all,
    )

pub overflow_add-start : goal.overflow_add-start
overflow_add-start c =
    let P = λ (s : Spot). AreWholeCharacters c.args.text.now s.0 s.1 in
    let whole = All-head P c.in-Some.keyword c.next.new.self (All-same P (c.in-Some.keyword ∷ c.next.new.self) c.loop-keyword.keyword-iterator (sym c.in-Some.ensures.steps) c.loop-keyword.invariant.0) in
    let within : c.in-Some.keyword.0 + c.in-Some.keyword.1 ≤ length c.args.text.now = whole.1.0 in
    omega (arith, within)

pub range-requires-clause-start_boundary : goal.range-requires-clause-start_boundary
range-requires-clause-start_boundary c =
    let P = λ (s : Spot). AreWholeCharacters c.args.text.now s.0 s.1 in
    let whole = All-head P c.in-Some.keyword c.next.new.self (All-same P (c.in-Some.keyword ∷ c.next.new.self) c.loop-keyword.keyword-iterator (sym c.in-Some.ensures.steps) c.loop-keyword.invariant.0) in
    λ _. whole.0

pub range-requires-clause-end_boundary : goal.range-requires-clause-end_boundary
range-requires-clause-end_boundary c =
    let P = λ (s : Spot). AreWholeCharacters c.args.text.now s.0 s.1 in
    let whole = All-head P c.in-Some.keyword c.next.new.self (All-same P (c.in-Some.keyword ∷ c.next.new.self) c.loop-keyword.keyword-iterator (sym c.in-Some.ensures.steps) c.loop-keyword.invariant.0) in
    whole.1

pub loop-keyword-preserved : goal.loop-keyword-preserved
loop-keyword-preserved c =
    let text = c.args.text.now in
    let P = λ (s : Spot). AreWholeCharacters c.args.text.now s.0 s.1 in
    let fits : FitsSigned w32 c.in-Some.keyword.2 = search rules in
    let all = All-same P (c.in-Some.keyword ∷ c.next.new.self) c.loop-keyword.keyword-iterator (sym c.in-Some.ensures.steps) c.loop-keyword.invariant.0 in (
      All-tail P c.in-Some.keyword c.next.new.self all,
      part_more (λ (term : Bor (List ℕ) × ℤ). (term.0.now, term.1)) (term_of text) c.loop-keyword.found.items c.push.new.self.items _ c.in-Some.keyword c.loop-keyword.keyword-iterator c.next.new.self
          (map (term_of text) (keywords_in c.args.self.now.tree text)) c.loop-keyword.invariant.1 c.in-Some.ensures.steps c.in_ok-push.ensures.items
          (ap (λ (v : ℤ). (c.range.result.now, v)) (to_z-of_z w32 c.in-Some.keyword.2 fits)
          ∙ ap (λ (part : List ℕ). (part, c.in-Some.keyword.2)) (c.range.ensures.value ∙ part_is text c.in-Some.keyword.0 c.in-Some.keyword.1)),
    )

pub returns : goal.returns
returns c =
    let text = c.args.text.now in
    all_parts (λ (term : Bor (List ℕ) × ℤ). (term.0.now, term.1)) (term_of text) c.loop-keyword.found.items c.loop-keyword.keyword-iterator (map (term_of text) (keywords_in c.args.self.now.tree text))
    c.loop-keyword.invariant.1 c.in-None.ensures.steps.0
