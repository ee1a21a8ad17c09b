use Rattle.std.proofs.Common.{rules, w32, to_z, of_z, FitsSigned, ap, sym, subst, ◌∙◌, ◌≡◌, ◌++◌, ◌∷◌, [], append_assoc, ◌<◌, length}
use Rattle.std.proofs.lemmas.Int.{to_z-of_z}
use Rattle.std.specs.Io.KnownBytes.{Appends}
use Rattle.cedarwood.specs.Queries.{Entry}
use Rattle.cedarwood.specs.WatchedDevice.{device_of}
use Rattle.device_lines.specs.Written.{WritesFront}
use Rattle.word_lists.specs.Lines.{entry_line, entry_lines}
use Rattle.device_lines.proofs.Bytes.{Appends-append, on_err}
use Rattle.word_lists.proofs.WordLines.{lines_push, lines_begun, lines_stopped}
use Rattle.word_lists.proofs.lists.write_entries.Goals as goal

pub returns-in-Err-clause-err : goal.returns-in-Err-clause-err
returns-in-Err-clause-err g c =
    let i = c.loop-entry.invariant in
    let some : 0 < length c.loop-entry.entries = search rules in
    lines_begun (g.W.Write.contents (device_of c.args.writer.now)) (g.W.Write.contents (device_of c.loop-entry.writer)) c.args.entries i.0 c.loop-entry.entries i.1 some i.2

pub returns-in_err-write_entry-in-Ok-clause-err : goal.returns-in_err-write_entry-in-Ok-clause-err
returns-in_err-write_entry-in-Ok-clause-err g c =
    let i = c.loop-entry.invariant in
    let e : Entry = (c.in-Ok.key.items, c.in-Ok.value) in
    let step : c.loop-entry.entries ≡ e ∷ c.next.new.self = search rules in
    let fits : FitsSigned w32 c.in-Ok.value = search rules in
    let same : (c.deref.result.now, to_z w32 (of_z w32 c.in-Ok.value)) ≡ e = λ k. (c.deref.ensures.value k, to_z-of_z w32 c.in-Ok.value fits k) in
    let begun = g.W.Write.contents (device_of c.loop-entry.writer) in
    let holds = g.W.Write.contents (device_of c.write_entry.new.writer) in
    on_err c.from_residual.result
    (lines_stopped (g.W.Write.contents (device_of c.args.writer.now)) begun holds c.args.entries i.0 c.next.new.self e (i.1 ∙ ap (λ l. i.0 ++ l) step) i.2
    (subst (λ (x : Entry). WritesFront begun holds (entry_line x)) same c.in_err-write_entry-in-Ok.ensures.err))

pub loop-entry-preserved : goal.loop-entry-preserved
loop-entry-preserved g c =
    let i = c.loop-entry.invariant in
    let came = i.0 in
    let e : Entry = (c.in-Ok.key.items, c.in-Ok.value) in
    let step : c.loop-entry.entries ≡ e ∷ c.next.new.self = search rules in
    let fits : FitsSigned w32 c.in-Ok.value = search rules in
    let same : (c.deref.result.now, to_z w32 (of_z w32 c.in-Ok.value)) ≡ e = λ k. (c.deref.ensures.value k, to_z-of_z w32 c.in-Ok.value fits k) in
    let held = g.W.Write.contents (device_of c.args.writer.now) in
    let begun = g.W.Write.contents (device_of c.loop-entry.writer) in
    let holds = g.W.Write.contents (device_of c.write_entry.new.writer) in (
      came ++ e ∷ [],
      i.1 ∙ ap (λ l. came ++ l) step ∙ sym (append_assoc came (e ∷ []) c.next.new.self),
      subst (Appends held holds) (sym (lines_push came e)) (Appends-append held begun holds (entry_lines came) (entry_line e) i.2
          (subst (λ (x : Entry). Appends begun holds (entry_line x)) same c.in_ok-write_entry-in-Ok.ensures.ok)),
      c.in_ok-write_entry-in-Ok.ensures.faults.unfailed ∙ i.3,
    )
