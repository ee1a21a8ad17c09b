use Rattle.std.proofs.Common.{rules, ◌∙◌, FitsSigned, w32}
use Rattle.std.proofs.lemmas.Int.{to_z-of_z}
use Rattle.device_lines.proofs.Writing.{writes_same}
use Rattle.cedar_cli.proofs.Orders.{empty_line, nul_line, value_line}
use Rattle.cedar_cli.proofs.verbs.write_refusal.Goals as goal

pub returns-in-EmptyKey : goal.returns-in-EmptyKey
returns-in-EmptyKey g c = writes_same (empty_line c.args.error c.in-EmptyKey.is) c.write_whole.ensures

pub returns-in-NulByte : goal.returns-in-NulByte
returns-in-NulByte g c =
    writes_same (nul_line c.args.error c.in-NulByte.position c.as_bytes.result.now c.in-NulByte.is (c.as_bytes.ensures.value ∙ c.format-position.ensures.text)) c.write_line.ensures

pub returns-in-InvalidValue : goal.returns-in-InvalidValue
returns-in-InvalidValue g c =
    let fits : FitsSigned w32 c.in-InvalidValue.value = search rules in
    writes_same (value_line c.args.error c.in-InvalidValue.value c.as_bytes-in-InvalidValue.result.now c.in-InvalidValue.is (c.as_bytes-in-InvalidValue.ensures.value ∙ simp to_z-of_z at c.format-value.ensures.text))
    c.write_line-in-InvalidValue.ensures
