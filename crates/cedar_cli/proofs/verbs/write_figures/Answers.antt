use Rattle.std.proofs.Common.{◌≡◌, ◌∙◌, ◌++◌, ◌∷◌, [], refl}
use Rattle.std.specs.Prelude.{codes, decimal}
use Rattle.device_lines.proofs.Writing.{breaks_first, then_writes, writes_same}
use Rattle.cedar_cli.proofs.Orders.{figures_line}
use Rattle.cedar_cli.proofs.verbs.write_figures.Goals as goal

pub returns-in_err-write_whole : goal.returns-in_err-write_whole
returns-in_err-write_whole g c =
    writes_same (figures_line c.args.keys c.args.slots c.as_bytes.result.now (decimal c.args.slots) (c.as_bytes.ensures.value ∙ c.format.ensures.text) refl)
    (breaks_first (codes " " ++ (decimal c.args.slots ++ 10 ∷ [])) c.from_residual.ensures.1 c.in_err-write_whole.ensures)

pub returns : goal.returns
returns g c =
    let keys : c.as_bytes.result.now ≡ decimal c.args.keys = c.as_bytes.ensures.value ∙ c.format.ensures.text in
    let slots : c.as_bytes-2.result.now ≡ decimal c.args.slots = c.as_bytes-2.ensures.value ∙ c.format-2.ensures.text in
    writes_same (figures_line c.args.keys c.args.slots c.as_bytes.result.now c.as_bytes-2.result.now keys slots)
    (then_writes c.in_ok-write_whole.ensures c.write_line.ensures)
