use Rattle.std.proofs.Common.{w32, ap, ◌∙◌, ◌≡◌, ◌++◌, ◌∷◌, [], List, ℕ}
use Rattle.std.proofs.lemmas.Int.{to_z-of_z}
use Rattle.std.specs.Prelude.{codes}
use Rattle.std.specs.Fmt.{signed_decimal}
use Rattle.hex.specs.Hex.{encode_lower}
use Rattle.device_lines.proofs.Writing.{breaks_first, then_writes, writes_same}
use Rattle.cedar_cli.proofs.answers.write_entry.Goals as goal

pub returns-in_err-write_digits : goal.returns-in_err-write_digits
returns-in_err-write_digits g c = breaks_first (codes " " ++ (signed_decimal c.args.value ++ 10 ∷ [])) c.from_residual.ensures.1 c.in_err-write_digits.ensures

pub returns : goal.returns
returns g c =
    let figures : c.as_bytes.result.now ≡ signed_decimal c.args.value = c.as_bytes.ensures.value ∙ c.format.ensures.text ∙ ap signed_decimal (to_z-of_z w32 c.args.value c.ranges.value) in
    writes_same (ap (λ (text : List ℕ). encode_lower c.args.key.now ++ (codes " " ++ (text ++ 10 ∷ []))) figures)
    (then_writes c.in_ok-write_digits.ensures c.write_line.ensures)
