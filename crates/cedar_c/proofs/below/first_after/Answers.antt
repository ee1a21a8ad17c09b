use Rattle.std.proofs.Common.{◌≡◌, ◌∙◌, Bool, true, false, refl, sym}
use Rattle.std.proofs.lemmas.Bool.{true≢false}
use Rattle.cedarwood.specs.WellFormed.{tree_of}
use Rattle.cedar_c.proofs.BelowLemmas.{finds_none, holds_on_error, lacks_room, none_from, none_since, wants_memory}
use Rattle.cedar_c.proofs.below.first_after.Goals as goal

pub returns-in_default-clause-place : goal.returns-in_default-clause-place
returns-in_default-clause-place g c =
    (tt, sym (none_from (tree_of (g.T.Walked.shown c.args.trie.now)) c.args.prefix.now c.args.behind.now c.in_default.ensures))

pub returns-in_err-first_begins-clause-refused : goal.returns-in_err-first_begins-clause-refused
returns-in_err-first_begins-clause-refused g c =
    let T = g.T.Walked.shown c.args.trie.now in
    let first = c.in-Some.first in
    let comes = c.in-Some.ensures in
    let short = c.in_err-first_begins.ensures.refused in
    holds_on_error c.from_residual.result _ (
      wants_memory _ T c.requires.well_formed c.requires.ordered c.args.behind.now first.depth first.slot first.number comes.below comes.number comes.entries _
          (λ some. true≢false (sym (c.requires.held.1 some) ∙ short.1)) short.0,
      c.first_begins.ensures.unchanged short.0,
    )

pub returns-then-not-branch-clause-place : goal.returns-then-not-branch-clause-place
returns-then-not-branch-clause-place g c =
    let T = g.T.Walked.shown c.args.trie.now in
    let first = c.in-Some.first in
    let comes = c.in-Some.ensures in (
      tt,
      sym (none_since _ T c.requires.well_formed c.requires.ordered c.args.behind.now first.depth first.slot first.number comes.below comes.number comes.entries c.args.prefix.now c.requires.after
          (sym c.in_ok-first_begins.ensures.answer ∙ c.if-not-branch.true)),
    )

pub returns-then-not-branch-clause-unchanged : goal.returns-then-not-branch-clause-unchanged
returns-then-not-branch-clause-unchanged g c = λ short.
    let T = g.T.Walked.shown c.args.trie.now in
    let first = c.in-Some.first in
    let comes = c.in-Some.ensures in
    absurd (finds_none _ _ (none_since _ T c.requires.well_formed c.requires.ordered c.args.behind.now first.depth first.slot first.number comes.below comes.number comes.entries c.args.prefix.now c.requires.after
    (sym c.in_ok-first_begins.ensures.answer ∙ c.if-not-branch.true)) short)

pub place_from-requires-clause-begins : goal.place_from-requires-clause-begins
place_from-requires-clause-begins g c = sym c.in_ok-first_begins.ensures.answer ∙ c.if-not-branch.false

pub returns-clause-unchanged : goal.returns-clause-unchanged
returns-clause-unchanged g c = λ short.
    let T = g.T.Walked.shown c.args.trie.now in
    let first = c.in-Some.first in
    let comes = c.in-Some.ensures in
    let begins = sym c.in_ok-first_begins.ensures.answer ∙ c.if-not-branch.false in
    (elim c.args.is_held as (λ (b : Bool). c.args.is_held ≡ b → c.first_begins.new.bytes ≡ c.args.bytes.now) [
      | true ↦ λ held. c.first_begins.ensures.held held
      | false ↦ λ no. c.first_begins.ensures.unchanged
          (lacks_room _ T c.requires.well_formed c.requires.ordered c.args.behind.now first.depth first.slot first.number comes.below comes.number comes.entries c.args.prefix.now begins _
          (λ some. true≢false (sym (c.requires.held.1 some) ∙ no)) short)
    ]) refl
