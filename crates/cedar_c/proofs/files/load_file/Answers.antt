use Rattle.std.proofs.Common.{Bool, IfSome, subst, sym}
use Rattle.cedarwood.specs.Layouts.{layout_byte}
use Rattle.cedarwood.specs.Format.{header_answer}
use Rattle.cedarwood.specs.Limits.{most_slots}
use Rattle.either_layout.specs.Layouts.{layout_for}
use Rattle.cedar_c.specs.Files.{early_refusal, TellsHeader, TellsJust}
use Rattle.cedar_c.proofs.files.load_file.Goals as goal

pub returns-in-Err-clause-header : goal.returns-in-Err-clause-header
returns-in-Err-clause-header c =
    subst (λ (b : Bool). IfSome (header_answer (layout_byte (layout_for b)) most_slots c.args.memory_limit c.args.bytes.now) (λ r. TellsHeader r c.in-Err.status)) (sym c.if-is_reduced.true) c.in-Err.ensures.header

pub returns-in-Err-clause-early : goal.returns-in-Err-clause-early
returns-in-Err-clause-early c =
    subst (λ (b : Bool). IfSome (early_refusal (layout_byte (layout_for b)) most_slots c.args.memory_limit c.args.bytes.now) (λ r. TellsJust r c.in-Err.status)) (sym c.if-is_reduced.true) c.in-Err.ensures.early

pub returns-in-Ok-load-clause-header : goal.returns-in-Ok-load-clause-header
returns-in-Ok-load-clause-header c =
    subst (λ (b : Bool). IfSome (header_answer (layout_byte (layout_for b)) most_slots c.args.memory_limit c.args.bytes.now) (λ _. ⊥)) (sym c.if-is_reduced.false) c.in-Ok-load.ensures.header

pub returns-in-Err-load-clause-header : goal.returns-in-Err-load-clause-header
returns-in-Err-load-clause-header c =
    subst (λ (b : Bool). IfSome (header_answer (layout_byte (layout_for b)) most_slots c.args.memory_limit c.args.bytes.now) (λ r. TellsHeader r c.in-Err-load.status)) (sym c.if-is_reduced.false) c.in-Err-load.ensures.header

pub returns-in-Err-load-clause-early : goal.returns-in-Err-load-clause-early
returns-in-Err-load-clause-early c =
    subst (λ (b : Bool). IfSome (early_refusal (layout_byte (layout_for b)) most_slots c.args.memory_limit c.args.bytes.now) (λ r. TellsJust r c.in-Err-load.status)) (sym c.if-is_reduced.false) c.in-Err-load.ensures.early
