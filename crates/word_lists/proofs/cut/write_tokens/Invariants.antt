use Rattle.std.proofs.Common.{◌≡◌, ◌++◌, List, length}
use Rattle.std.specs.Io.KnownBytes.{Appends}
use Rattle.cedarwood.specs.WatchedDevice.{device_of, has_failed}
use Rattle.cedar_words.specs.Words.{Token}
use Rattle.word_lists.specs.Texts.{styled_text}
use Rattle.word_lists.proofs.cut.write_tokens.Given as goal

-- the tokens that came were written
abbrev pub invariant-loop-token : goal.invariant-loop-token
invariant-loop-token g l =
    (came : List Token) × (g.T.Tokens.left l.fn.tokens ≡ came ++ g.T.Tokens.left l.tokens)
    × Appends (g.W.Write.contents (device_of l.fn.writer)) (g.W.Write.contents (device_of l.writer)) (styled_text l.fn.style l.fn.text came)
    × (has_failed l.writer ≡ has_failed l.fn.writer)

abbrev pub decreases-loop-token : goal.decreases-loop-token
decreases-loop-token g l = length (g.T.Tokens.left l.tokens)
