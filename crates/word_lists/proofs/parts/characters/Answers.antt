use Rattle.std.proofs.Common.{rules, ◌≡◌, ◌+◌, ◌<◌, ◌∙◌, ap, length, get_or}
use Rattle.word_lists.specs.Texts.{characters_begun}
use Rattle.word_lists.proofs.Texts.{characters_next}
use Rattle.word_lists.proofs.parts.characters.Goals as goal

pub loop-byte-preserved : goal.loop-byte-preserved
loop-byte-preserved c =
    let i = c.loop-byte.byte-index in
    let inside : i < length c.args.bytes.now = search rules in
    let one : c.characters_begun-count.result ≡ characters_begun (get_or c.args.bytes.now i 0) = search rules in (
      ap (λ k. c.loop-byte.count + k) one ∙ characters_next c.args.bytes.now i c.loop-byte.count inside c.loop-byte.invariant.0,
      search rules,
    )
