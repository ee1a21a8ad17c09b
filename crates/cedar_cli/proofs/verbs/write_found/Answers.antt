use Rattle.std.proofs.Common.{w32, ap, refl, ◌∙◌, ◌≡◌, ◌++◌, ◌∷◌, []}
use Rattle.std.proofs.lemmas.Int.{to_z-of_z}
use Rattle.std.specs.Prelude.{codes, decimal}
use Rattle.std.specs.Fmt.{signed_decimal}
use Rattle.device_lines.proofs.Writing.{breaks_first, then_writes, writes_same}
use Rattle.cedar_cli.proofs.Orders.{found_line}
use Rattle.cedar_cli.proofs.verbs.write_found.Goals as goal

pub returns-in_err-write_whole : goal.returns-in_err-write_whole
returns-in_err-write_whole g c =
    let figures : c.as_bytes.result.now ≡ signed_decimal c.args.value = c.as_bytes.ensures.value ∙ c.format.ensures.text ∙ ap signed_decimal (to_z-of_z w32 c.args.value c.ranges.value) in
    writes_same (found_line c.args.value c.args.length c.as_bytes.result.now (decimal c.args.length) figures refl)
    (breaks_first (codes " " ++ (decimal c.args.length ++ 10 ∷ [])) c.from_residual.ensures.1 c.in_err-write_whole.ensures)

pub returns : goal.returns
returns g c =
    let figures : c.as_bytes.result.now ≡ signed_decimal c.args.value = c.as_bytes.ensures.value ∙ c.format.ensures.text ∙ ap signed_decimal (to_z-of_z w32 c.args.value c.ranges.value) in
    writes_same (found_line c.args.value c.args.length c.as_bytes.result.now c.as_bytes-2.result.now figures (c.as_bytes-2.ensures.value ∙ c.format-2.ensures.text))
    (then_writes c.in_ok-write_whole.ensures c.write_line.ensures)
