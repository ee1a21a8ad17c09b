use Rattle.std.proofs.Common.{rules, w32, ap, ap₂, FitsSigned, ◌∙◌, ◌≡◌, ◌++◌, List, ℕ}
use Rattle.std.proofs.lemmas.Int.{to_z-of_z}
use Rattle.std.specs.Prelude.{codes, decimal}
use Rattle.std.specs.Fmt.{signed_decimal}
use Rattle.device_lines.proofs.Writing.{breaks_first, then_writes, writes_same}
use Rattle.cedar_cli.proofs.answers.write_pair.Goals as goal

pub returns-in_err-write_whole : goal.returns-in_err-write_whole
returns-in_err-write_whole g c =
    let fits : FitsSigned w32 c.args.pair.0 = search rules in
    let figures : c.as_bytes.result.now ≡ signed_decimal c.args.pair.0 = c.as_bytes.ensures.value ∙ c.format.ensures.text ∙ ap signed_decimal (to_z-of_z w32 c.args.pair.0 fits) in
    writes_same (ap (λ (text : List ℕ). text ++ (codes ":" ++ decimal c.args.pair.1)) figures)
    (breaks_first (codes ":" ++ decimal c.args.pair.1) c.from_residual.ensures.1 c.in_err-write_whole.ensures)

pub returns-in_err-write_whole-2 : goal.returns-in_err-write_whole-2
returns-in_err-write_whole-2 g c =
    let fits : FitsSigned w32 c.args.pair.0 = search rules in
    let figures : c.as_bytes.result.now ≡ signed_decimal c.args.pair.0 = c.as_bytes.ensures.value ∙ c.format.ensures.text ∙ ap signed_decimal (to_z-of_z w32 c.args.pair.0 fits) in
    writes_same (ap (λ (text : List ℕ). text ++ (codes ":" ++ decimal c.args.pair.1)) figures)
    (then_writes c.in_ok-write_whole.ensures (breaks_first (decimal c.args.pair.1) c.from_residual-in_err-write_whole-2.ensures.1 c.in_err-write_whole-2.ensures))

pub returns : goal.returns
returns g c =
    let fits : FitsSigned w32 c.args.pair.0 = search rules in
    let figures : c.as_bytes.result.now ≡ signed_decimal c.args.pair.0 = c.as_bytes.ensures.value ∙ c.format.ensures.text ∙ ap signed_decimal (to_z-of_z w32 c.args.pair.0 fits) in
    let count : c.as_bytes-2.result.now ≡ decimal c.args.pair.1 = c.as_bytes-2.ensures.value ∙ c.format-2.ensures.text in
    writes_same (ap₂ (λ (first second : List ℕ). first ++ (codes ":" ++ second)) figures count)
    (then_writes c.in_ok-write_whole.ensures (then_writes c.in_ok-write_whole-2.ensures c.write_whole-3.ensures))
