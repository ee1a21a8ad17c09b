use Rattle.std.proofs.Common.{List, [], ◌∷◌, ℕ, get_or, take, refl, sym, ◌∙◌, ap}
use Rattle.std.specs.Prelude.{fold}
use Rattle.std.proofs.lemmas.List.{take_all, take_more}
use Rattle.std.proofs.lemmas.List.Sums.{fold-append}
use Rattle.crc32c.specs.Sums.{after_byte}
use Rattle.crc32c.proofs.sum.after_each.Goals as goal

pub loop-byte-init : goal.loop-byte-init
loop-byte-init c = refl

pub loop-byte-preserved : goal.loop-byte-preserved
loop-byte-preserved c =
    let bytes = c.args.bytes.now in
    let before = c.args.before in
    let at = c.loop-byte.byte-index in
    c.after_byte-register.ensures
    ∙ ap (λ r. after_byte r (get_or bytes at 0)) c.loop-byte.invariant
    ∙ sym (fold-append after_byte before (take at bytes) (get_or bytes at 0 ∷ []))
    ∙ ap (λ (l : List ℕ). fold after_byte before l) (sym (take_more bytes at 0 c.loop-byte-test.true))

pub returns : goal.returns
returns c =
    let all = take_all c.loop-byte.byte-index c.args.bytes.now c.loop-byte-test.false in
    c.loop-byte.invariant ∙ ap (λ (l : List ℕ). fold after_byte c.args.before l) all
