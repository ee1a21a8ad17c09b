use Rattle.std.proofs.Common.{◌∙◌}
use Rattle.cedar_cli.proofs.Text.{parsed_limit}
use Rattle.cedar_cli.proofs.options.limit_of.Goals as goal

pub returns : goal.returns
returns c = c.ok.ensures.value ∙ parsed_limit c.args.text.now c.parse.result c.parse.ensures.value.0
