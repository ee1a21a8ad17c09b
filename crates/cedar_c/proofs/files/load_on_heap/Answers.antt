use Rattle.cedarwood.specs.Layouts.{layout_byte}
use Rattle.cedarwood.specs.Format.{header_answer}
use Rattle.cedar_c.specs.Files.{early_refusal}
use Rattle.cedarwood.specs.Limits.{most_slots}
use Rattle.cedar_c.specs.Layouts.{layout_for}
use Rattle.cedar_c.proofs.FileLemmas.{none_refused}
use Rattle.cedar_c.proofs.files.load_on_heap.Goals as goal

pub returns-in-Ok-clause-header : goal.returns-in-Ok-clause-header
returns-in-Ok-clause-header c = none_refused (header_answer (layout_byte (layout_for c.args.is_reduced)) most_slots c.args.memory_limit c.args.bytes.now) _ c.in-Ok.ensures.header

pub returns-in-Ok-clause-early : goal.returns-in-Ok-clause-early
returns-in-Ok-clause-early c = none_refused (early_refusal (layout_byte (layout_for c.args.is_reduced)) most_slots c.args.memory_limit c.args.bytes.now) _ c.in-Ok.ensures.early
