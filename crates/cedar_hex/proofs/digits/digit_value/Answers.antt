use Rattle.std.proofs.Common.{◌≡◌, ◌≤◌, ◌∙◌, ℕ, MatchOption, min, sym, subst, ap, ◌%◌, ◌+◌, ◌-◌}
use Rattle.hex.specs.Hex.{hex_digit_value}
use Rattle.cedar_hex.proofs.DigitLemmas.{number_of, number_of-tells}
use Rattle.cedar_hex.proofs.digits.digit_value.Goals as goal

pub returns : goal.returns
returns c =
    let same : number_of c.args.byte ≡ c.min.result =
    sym (c.min.ensures ∙ ap (λ (n : ℕ). min ((n + 16) % 256) c.saturating_add-letter.result) c.saturating_sub-figure.ensures
    ∙ ap (λ (n : ℕ). min (((c.args.byte + 198) % 256 - 6 + 16) % 256) n) c.saturating_add-letter.ensures) in
    subst (λ (n : ℕ). MatchOption (hex_digit_value c.args.byte) (16 ≤ n) (λ value. n ≡ value)) same
    (number_of-tells c.args.byte c.ranges.byte.fits)
