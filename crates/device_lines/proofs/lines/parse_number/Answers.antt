use Rattle.std.proofs.Common.{◌∙◌, ap}
use Rattle.device_lines.specs.Lines.{figures_number}
use Rattle.device_lines.proofs.Figures.{failed, not_text, parsed, text_of}
use Rattle.device_lines.proofs.lines.parse_number.Goals as goal

pub returns-in_err-text : goal.returns-in_err-text
returns-in_err-text c =
    c.from_residual.ensures ∙ not_text c.args.figures.now (failed _ _ _ c.from_utf8.result c.from_utf8.ensures.cases c.in_err-text.ensures.value)

pub returns : goal.returns
returns c =
    c.ok-2.ensures.value ∙ parsed c.in_ok-text.text.now c.parse.result c.parse.ensures.value.0
    ∙ ap figures_number (text_of c.args.figures.now _ _ c.from_utf8.result c.in_ok-text.text c.from_utf8.ensures.cases c.in_ok-text.ensures.value)
