use Rattle.std.proofs.Common.{◌≡◌, ◌≤◌, ◌++◌, ◌∷◌, ◌∙◌, [], ℕ, List, true, false, ap, arith, length, length-append, refl, subst}
use Rattle.word_lists.specs.Texts.{body_of}
use Rattle.word_lists.specs.Stored.{TakesNext, lines_absent, lines_erased, lines_in}
use Rattle.device_lines.proofs.Bytes.{on_err}
use Rattle.word_lists.proofs.ListedLines.{absent_step, all_came, erase_step, first_ones, too_many, took_more, took_none}
use Rattle.word_lists.proofs.lines.erase_lines.Goals as goal

pub loop-turn-init : goal.loop-turn-init
loop-turn-init g c = ([], took_none (g.R.Read.remaining c.args.reader.now), refl, refl, omega arith, refl)

pub loop-turn-preserved : goal.loop-turn-preserved
loop-turn-preserved g c =
    let i = c.loop-turn.invariant in
    let came = i.0 in
    let line = c.next_line.new.line.items in
    let before = g.R.Read.remaining c.loop-turn.reader in
    let after = g.R.Read.remaining c.next_line.new.reader in
    let taken : TakesNext before after line true = subst (λ m. TakesNext before after line m) c.if-not-more.false c.in_ok-more.ensures.next in
    let text : c.body.result.now ≡ body_of line = c.body.ensures.body ∙ ap body_of c.deref.ensures.value in
    let few : c.loop-turn.absent ≤ c.loop-turn.turn = i.4 in
    let one : c.in_ok-missing.missing ≤ 1 = c.in_ok-missing.ensures.one in
    let turns : c.loop-turn.turn ≡ length came = i.5 in (
      came ++ line ∷ [],
      took_more (g.R.Read.remaining c.args.reader.now) before after came (line ∷ []) i.1 taken,
      erase_step c.args.trie.now.state c.loop-turn.trie.state c.erase_line.new.trie.state came line c.body.result.now text i.2 c.in_ok-missing.ensures.ok,
      absent_step c.args.trie.now.state c.loop-turn.trie.state came line c.body.result.now c.loop-turn.absent c.in_ok-missing.missing text i.2 i.3 c.in_ok-missing.ensures.absent,
      omega (arith, few, one),
      omega (arith, turns, length-append came (line ∷ [])),
    )

pub returns-in_err-more-clause-err : goal.returns-in_err-more-clause-err
returns-in_err-more-clause-err g c =
    let i = c.loop-turn.invariant in
    on_err c.from_residual.result (i.0, first_ones (g.R.Read.remaining c.args.reader.now) (g.R.Read.remaining c.loop-turn.reader) i.0 i.1, i.2)

pub returns-in_err-missing-clause-err : goal.returns-in_err-missing-clause-err
returns-in_err-missing-clause-err g c =
    let i = c.loop-turn.invariant in
    on_err c.from_residual-in_err-missing.result (
      i.0,
      first_ones (g.R.Read.remaining c.args.reader.now) (g.R.Read.remaining c.loop-turn.reader) i.0 i.1,
      c.in_err-missing.ensures.err ∙ i.2,
    )

pub returns-then-not-more-clause-ok : goal.returns-then-not-more-clause-ok
returns-then-not-more-clause-ok g c =
    let i = c.loop-turn.invariant in
    let before = g.R.Read.remaining c.loop-turn.reader in
    let after = g.R.Read.remaining c.next_line.new.reader in
    let line = c.next_line.new.line.items in
    let none : TakesNext before after line false = subst (λ m. TakesNext before after line m) c.if-not-more.true c.in_ok-more.ensures.next in
    all_came (λ (lines : List (List ℕ)). c.loop-turn.trie.state ≡ lines_erased c.args.trie.now.state lines) (g.R.Read.remaining c.args.reader.now) before after line i.0 i.1 none i.2

pub returns-then-not-more-clause-absent : goal.returns-then-not-more-clause-absent
returns-then-not-more-clause-absent g c =
    let i = c.loop-turn.invariant in
    let before = g.R.Read.remaining c.loop-turn.reader in
    let after = g.R.Read.remaining c.next_line.new.reader in
    let line = c.next_line.new.line.items in
    let none : TakesNext before after line false = subst (λ m. TakesNext before after line m) c.if-not-more.true c.in_ok-more.ensures.next in
    all_came (λ (lines : List (List ℕ)). c.loop-turn.absent ≡ lines_absent c.args.trie.now.state lines) (g.R.Read.remaining c.args.reader.now) before after line i.0 i.1 none i.3

-- the loop ends so only behind more lines than there are
pub returns-clause-ok : goal.returns-clause-ok
returns-clause-ok g c =
    let i = c.loop-turn.invariant in
    let turns : c.loop-turn.turn ≡ length i.0 = i.5 in
    too_many (λ (input : List ℕ). c.loop-turn.trie.state ≡ lines_erased c.args.trie.now.state (lines_in input)) (g.R.Read.remaining c.args.reader.now) (g.R.Read.remaining c.loop-turn.reader) i.0 i.1
    (omega (arith, turns, c.loop-turn-test.false))

pub returns-clause-absent : goal.returns-clause-absent
returns-clause-absent g c =
    let i = c.loop-turn.invariant in
    let turns : c.loop-turn.turn ≡ length i.0 = i.5 in
    too_many (λ (input : List ℕ). c.loop-turn.absent ≡ lines_absent c.args.trie.now.state (lines_in input)) (g.R.Read.remaining c.args.reader.now) (g.R.Read.remaining c.loop-turn.reader) i.0 i.1
    (omega (arith, turns, c.loop-turn-test.false))
