use Rattle.std.proofs.Common.{◌∙◌, Ok, Err, refl, sym}
use Rattle.std.proofs.lemmas.Bool.{false≢true}
use Rattle.cedarwood.specs.Layouts.{layout_byte}
use Rattle.cedarwood.specs.Format.{header_answer}
use Rattle.cedarwood.specs.Dictionary.{Dictionary}
use Rattle.cedarwood.specs.Loading.{LoadAnswers}
use Rattle.cedar_c.specs.Files.{early_refusal}
use Rattle.cedar_c.proofs.FileLemmas.{loaded_bytes, loaded_early, loaded_header, read_status, refused_at_once, refused_behind, refused_header, told_behind, told_early, told_status}
use Rattle.cedar_c.proofs.files.load.Goals as goal

pub returns-in-Ok-clause-loaded : goal.returns-in-Ok-clause-loaded
returns-in-Ok-clause-loaded g c =
    let trie : Dictionary = c.in-Ok.trie in
    let told : LoadAnswers (λ (d : Dictionary). d.table) g.L.Layout.kind g.row.SLOTS c.args.memory_limit c.args.bytes.now (Ok trie) = c.in-Ok.ensures.loads.answer refl in
    loaded_bytes (λ (d : Dictionary). d.table) g.L.Layout.kind g.row.SLOTS c.args.memory_limit c.args.bytes.now trie told

pub returns-in-Ok-clause-header : goal.returns-in-Ok-clause-header
returns-in-Ok-clause-header g c =
    let trie : Dictionary = c.in-Ok.trie in
    let told : LoadAnswers (λ (d : Dictionary). d.table) g.L.Layout.kind g.row.SLOTS c.args.memory_limit c.args.bytes.now (Ok trie) = c.in-Ok.ensures.loads.answer refl in
    loaded_header (λ (d : Dictionary). d.table) g.L.Layout.kind g.row.SLOTS c.args.memory_limit c.args.bytes.now _ trie told

pub returns-in-Err-clause-header : goal.returns-in-Err-clause-header
returns-in-Err-clause-header g c =
    let error = c.in-Err.error in
    let told : LoadAnswers (λ (d : Dictionary). d.table) g.L.Layout.kind g.row.SLOTS c.args.memory_limit c.args.bytes.now (Err error) = c.in-Err.ensures.loads.answer refl in
    told_status (header_answer (layout_byte g.L.Layout.kind) g.row.SLOTS c.args.memory_limit c.args.bytes.now) error c.tell_refusal.result c.tell_refusal.ensures
    (refused_header (λ (d : Dictionary). d.table) g.L.Layout.kind g.row.SLOTS c.args.memory_limit c.args.bytes.now error told)

pub returns-in-Ok-clause-early : goal.returns-in-Ok-clause-early
returns-in-Ok-clause-early g c =
    let trie : Dictionary = c.in-Ok.trie in
    let told : LoadAnswers (λ (d : Dictionary). d.table) g.L.Layout.kind g.row.SLOTS c.args.memory_limit c.args.bytes.now (Ok trie) = c.in-Ok.ensures.loads.answer refl in
    loaded_early (λ (d : Dictionary). d.table) g.L.Layout.kind g.row.SLOTS c.args.memory_limit c.args.bytes.now _ trie told

pub returns-in-Err-clause-early : goal.returns-in-Err-clause-early
returns-in-Err-clause-early g c =
    let error = c.in-Err.error in
    let told : LoadAnswers (λ (d : Dictionary). d.table) g.L.Layout.kind g.row.SLOTS c.args.memory_limit c.args.bytes.now (Err error) = c.in-Err.ensures.loads.answer refl in
    told_early (early_refusal (layout_byte g.L.Layout.kind) g.row.SLOTS c.args.memory_limit c.args.bytes.now) error c.tell_refusal.result c.tell_refusal.ensures
    (refused_at_once (λ (d : Dictionary). d.table) g.L.Layout.kind g.row.SLOTS c.args.memory_limit c.args.bytes.now error told)

pub returns-in-Err-clause-behind : goal.returns-in-Err-clause-behind
returns-in-Err-clause-behind g c =
    let error = c.in-Err.error in
    let told : LoadAnswers (λ (d : Dictionary). d.table) g.L.Layout.kind g.row.SLOTS c.args.memory_limit c.args.bytes.now (Err error) = c.in-Err.ensures.loads.answer refl in
    λ none. told_behind g.row.SLOTS c.args.bytes.now error c.tell_refusal.result c.tell_refusal.ensures
    (refused_behind (λ (d : Dictionary). d.table) g.L.Layout.kind g.row.SLOTS c.args.memory_limit c.args.bytes.now error told none)

pub returns-in-Err-clause-read : goal.returns-in-Err-clause-read
returns-in-Err-clause-read g c = λ same. read_status c.in-Err.error (λ io. absurd (false≢true (c.in-Err.ensures.loads.io io))) (sym c.tell_refusal.ensures ∙ same)
