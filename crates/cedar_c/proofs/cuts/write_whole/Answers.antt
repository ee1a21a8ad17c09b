use Rattle.std.proofs.Common.{◌≡◌, ◌+◌, ◌∙◌, ◌++◌, ℕ, List, None, ap, arith, drop, map, set, slice_index_or, suc, take}
use Rattle.cedar_words.specs.Words.{Token}
use Rattle.cedar_c.specs.Scans.{found_token}
use Rattle.cedar_c.specs.declared.scans.Found.{Found}
use Rattle.cedar_c.proofs.CutLemmas.{token_written}
use Rattle.cedar_c.proofs.cuts.write_whole.Goals as goal

-- the element behind the end, which means none
abbrev nothing : Token
nothing = (0, 0, None)

pub loop-at-preserved : goal.loop-at-preserved
loop-at-preserved c =
    let tokens = c.args.tokens.now in
    let xs = c.args.found.now in
    let at = c.loop-at.at in
    let one : suc at ≡ at + 1 = omega arith in
    let room = c.if-found-tokens.false in (
      c.put_token.ensures
          ∙ ap (λ (l : List Found). set l at (found_token (slice_index_or tokens at nothing))) c.loop-at.invariant.0
          ∙ token_written tokens xs at nothing c.loop-at-test.true room
          ∙ ap (λ (n : ℕ). map found_token (take n tokens) ++ drop n xs) one,
      room,
    )
