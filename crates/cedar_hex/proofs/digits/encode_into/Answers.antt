use Rattle.std.proofs.Common.{◌/◌, ◌%◌, ℕ, arith, slice_index}
use Rattle.hex.specs.Hex.{lower_digits}
use Rattle.hex.proofs.Pairs.{encode_done, encode_step}
use Rattle.cedar_hex.proofs.DigitLemmas.{digit_small}
use Rattle.cedar_hex.proofs.digits.encode_into.Goals as goal

pub loop-i-preserved : goal.loop-i-preserved
loop-i-preserved c =
    let byte : ℕ = slice_index c.args.bytes.now c.loop-i.i in
    let range = (c.type_inv.bytes c.loop-i.i).fits in
    let high = digit_small (byte / 16) (omega (arith, range)) in
    let low = digit_small (byte % 16) (omega arith) in
    let word = c.digit_pair-digits.ensures in
    encode_step lower_digits c.args.bytes.now c.loop-i.text c.loop-i.i _ _ (omega arith) (omega arith)
    (omega (arith, high, word)) (omega (arith, high, word)) c.loop-i.invariant

pub returns : goal.returns
returns c = encode_done _ _ _ c.loop-i.i (omega arith) (omega arith) c.loop-i.invariant
