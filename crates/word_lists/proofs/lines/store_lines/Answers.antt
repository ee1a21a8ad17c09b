use Rattle.std.proofs.Common.{◌≡◌, ◌+◌, ◌++◌, ◌∷◌, ◌∙◌, [], ℕ, List, true, false, ap, arith, length, length-append, refl, rules, subst, sym}
use Rattle.word_lists.specs.Texts.{body_of}
use Rattle.word_lists.specs.Stored.{Adds, TakesNext, lines_in, lines_stored, lines_told}
use Rattle.device_lines.proofs.Bytes.{on_err}
use Rattle.word_lists.proofs.ListedLines.{Adds-none, all_came, first_ones, store_step, told_step, too_many, took_more, took_none}
use Rattle.word_lists.proofs.lines.store_lines.Goals as goal

pub loop-number-init : goal.loop-number-init
loop-number-init g c = ([], took_none (g.R.Read.remaining c.args.reader.now), refl, Adds-none (g.F.LineFaults.told c.args.faults.now), refl)

pub pass_line-requires : goal.pass_line-requires
pass_line-requires g c = search (rules, c.requires-raw)

pub loop-number-preserved : goal.loop-number-preserved
loop-number-preserved g c =
    let i = c.loop-number.invariant in
    let came = i.0 in
    let line = c.next_line.new.line.items in
    let before = g.R.Read.remaining c.loop-number.reader in
    let after = g.R.Read.remaining c.next_line.new.reader in
    let taken : TakesNext before after line true = subst (λ m. TakesNext before after line m) c.if-not-more.false c.in_ok-more.ensures.next in
    let text : c.body.result.now ≡ body_of line = c.body.ensures.body ∙ ap body_of c.deref.ensures.value in
    let at : c.loop-number.number ≡ 1 + length came = i.4 in (
      came ++ line ∷ [],
      took_more (g.R.Read.remaining c.args.reader.now) before after came (line ∷ []) i.1 taken,
      store_step c.args.trie.now.state c.loop-number.trie.state c.pass_line.new.trie.state c.loop-number.number came line c.body.result.now at text i.2 c.in_ok-pass_line.ensures.ok,
      told_step (g.F.LineFaults.told c.args.faults.now) (g.F.LineFaults.told c.loop-number.faults) (g.F.LineFaults.told c.pass_line.new.faults) c.args.trie.now.state c.loop-number.trie.state
          c.loop-number.number came line c.body.result.now at text i.2 i.3 c.in_ok-pass_line.ensures.told,
      omega (arith, at, length-append came (line ∷ [])),
    )

pub returns-in_err-more-clause-err : goal.returns-in_err-more-clause-err
returns-in_err-more-clause-err g c =
    let i = c.loop-number.invariant in
    on_err c.from_residual.result (i.0, first_ones (g.R.Read.remaining c.args.reader.now) (g.R.Read.remaining c.loop-number.reader) i.0 i.1, i.2, i.3)

pub returns-in_err-pass_line-clause-err : goal.returns-in_err-pass_line-clause-err
returns-in_err-pass_line-clause-err g c =
    let i = c.loop-number.invariant in
    let told = g.F.LineFaults.told c.args.faults.now in
    on_err c.from_residual-in_err-pass_line.result (
      i.0,
      first_ones (g.R.Read.remaining c.args.reader.now) (g.R.Read.remaining c.loop-number.reader) i.0 i.1,
      c.in_err-pass_line.ensures.err.0 ∙ i.2,
      subst (λ f. Adds told (g.F.LineFaults.told f) (lines_told c.args.trie.now.state 1 i.0)) (sym c.in_err-pass_line.ensures.err.1) i.3,
    )

pub returns-then-not-more-clause-ok : goal.returns-then-not-more-clause-ok
returns-then-not-more-clause-ok g c =
    let i = c.loop-number.invariant in
    let before = g.R.Read.remaining c.loop-number.reader in
    let after = g.R.Read.remaining c.next_line.new.reader in
    let line = c.next_line.new.line.items in
    let none : TakesNext before after line false = subst (λ m. TakesNext before after line m) c.if-not-more.true c.in_ok-more.ensures.next in
    all_came (λ (lines : List (List ℕ)). c.loop-number.trie.state ≡ lines_stored c.args.trie.now.state 1 lines) (g.R.Read.remaining c.args.reader.now) before after line i.0 i.1 none i.2

pub returns-then-not-more-clause-told : goal.returns-then-not-more-clause-told
returns-then-not-more-clause-told g c =
    let i = c.loop-number.invariant in
    let before = g.R.Read.remaining c.loop-number.reader in
    let after = g.R.Read.remaining c.next_line.new.reader in
    let line = c.next_line.new.line.items in
    let none : TakesNext before after line false = subst (λ m. TakesNext before after line m) c.if-not-more.true c.in_ok-more.ensures.next in
    all_came (λ (lines : List (List ℕ)). Adds (g.F.LineFaults.told c.args.faults.now) (g.F.LineFaults.told c.loop-number.faults) (lines_told c.args.trie.now.state 1 lines))
    (g.R.Read.remaining c.args.reader.now) before after line i.0 i.1 none i.3

-- the loop ends so only behind more lines than there are
pub returns-clause-ok : goal.returns-clause-ok
returns-clause-ok g c =
    let i = c.loop-number.invariant in
    let turns : c.loop-number.number ≡ 1 + length i.0 = i.4 in
    too_many (λ (input : List ℕ). c.loop-number.trie.state ≡ lines_stored c.args.trie.now.state 1 (lines_in input)) (g.R.Read.remaining c.args.reader.now) (g.R.Read.remaining c.loop-number.reader) i.0 i.1
    (omega (arith, turns, c.loop-number-test.false))

pub returns-clause-told : goal.returns-clause-told
returns-clause-told g c =
    let i = c.loop-number.invariant in
    let turns : c.loop-number.number ≡ 1 + length i.0 = i.4 in
    too_many _ (g.R.Read.remaining c.args.reader.now) (g.R.Read.remaining c.loop-number.reader) i.0 i.1 (omega (arith, turns, c.loop-number-test.false))
