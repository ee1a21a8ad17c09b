use Rattle.std.proofs.Common.{rules}
use Rattle.cedarwood.specs.Layouts.{layout_byte}
use Rattle.cedarwood.specs.Format.{header_answer}
use Rattle.cedar_c.specs.Files.{early_refusal}
use Rattle.cedarwood.specs.Limits.{most_slots}
use Rattle.cedar_c.specs.Layouts.{layout_for}
use Rattle.cedar_c.proofs.FileLemmas.{none_refused}
use Rattle.cedar_c.proofs.files.renew.Goals as goal

pub returns-in-Ok : goal.returns-in-Ok
returns-in-Ok c = record {
  opens = record {
    loaded = search rules;
    stands = search rules;
    layout = search rules;
    refused = search rules;
    header = none_refused (header_answer (layout_byte (layout_for c.args.is_reduced)) most_slots c.args.memory_limit c.args.bytes.now) _ c.in-Ok.ensures.header;
    early = none_refused (early_refusal (layout_byte (layout_for c.args.is_reduced)) most_slots c.args.memory_limit c.args.bytes.now) _ c.in-Ok.ensures.early;
    behind = search rules;
    read = search rules;
  };
}
