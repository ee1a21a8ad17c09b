use Rattle.std.proofs.Common.{rules, w32, to_z, of_z, FitsSigned, ◌≡◌, ◌<◌, ◌++◌, ◌∷◌, ◌∙◌, [], ap, append_assoc, arith, length, length-append, subst, sym}
use Rattle.std.proofs.lemmas.Int.{to_z-of_z}
use Rattle.std.specs.Io.KnownBytes.{Appends}
use Rattle.cedarwood.specs.Queries.{Entry}
use Rattle.cedarwood.specs.WatchedDevice.{device_of}
use Rattle.device_lines.specs.Written.{WritesFront}
use Rattle.word_lists.specs.Lines.{entry_line, entry_lines}
use Rattle.device_lines.proofs.Bytes.{Appends-append, on_err}
use Rattle.word_lists.proofs.NextEntries.{begun_next, stopped_next}
use Rattle.word_lists.proofs.WordLines.{lines_push}
use Rattle.word_lists.proofs.lists.write_next_entries.Goals as goal

pub returns-in_err-value-clause-err : goal.returns-in_err-value-clause-err
returns-in_err-value-clause-err g c =
    let i = c.loop-left.invariant in
    let any : 0 < length c.loop-left.entries = search rules in
    on_err c.from_residual.result
    (begun_next (g.W.Write.contents (device_of c.args.writer.now)) (g.W.Write.contents (device_of c.loop-left.writer)) c.args.entries.now i.0 c.loop-left.entries
    c.loop-left.left c.args.most i.1 i.4 c.loop-left-test.true any i.2)

pub returns-in_err-write_entry-clause-err : goal.returns-in_err-write_entry-clause-err
returns-in_err-write_entry-clause-err g c =
    let i = c.loop-left.invariant in
    let e : Entry = (c.next_entry.new.key.items, c.in-Some.value) in
    let step : c.loop-left.entries ≡ e ∷ c.next_entry.new.entries = search rules in
    let fits : FitsSigned w32 c.in-Some.value = search rules in
    let same : (c.deref.result.now, to_z w32 (of_z w32 c.in-Some.value)) ≡ e = λ k. (c.deref.ensures.value k, to_z-of_z w32 c.in-Some.value fits k) in
    let begun = g.W.Write.contents (device_of c.loop-left.writer) in
    let holds = g.W.Write.contents (device_of c.write_entry.new.writer) in
    on_err c.from_residual-in_err-write_entry.result
    (stopped_next (g.W.Write.contents (device_of c.args.writer.now)) begun holds c.args.entries.now i.0 c.loop-left.entries c.next_entry.new.entries e
    c.loop-left.left c.args.most i.1 i.4 c.loop-left-test.true step i.2
    (subst (λ (x : Entry). WritesFront begun holds (entry_line x)) same c.in_err-write_entry.ensures.err))

pub loop-left-preserved : goal.loop-left-preserved
loop-left-preserved g c =
    let i = c.loop-left.invariant in
    let came = i.0 in
    let e : Entry = (c.next_entry.new.key.items, c.in-Some.value) in
    let step : c.loop-left.entries ≡ e ∷ c.next_entry.new.entries = search rules in
    let fits : FitsSigned w32 c.in-Some.value = search rules in
    let same : (c.deref.result.now, to_z w32 (of_z w32 c.in-Some.value)) ≡ e = λ k. (c.deref.ensures.value k, to_z-of_z w32 c.in-Some.value fits k) in
    let held = g.W.Write.contents (device_of c.args.writer.now) in
    let begun = g.W.Write.contents (device_of c.loop-left.writer) in
    let holds = g.W.Write.contents (device_of c.write_entry.new.writer) in
    let some = c.loop-left-test.true in
    let count = i.4 in (
      came ++ e ∷ [],
      i.1 ∙ ap (λ l. came ++ l) step ∙ sym (append_assoc came (e ∷ []) c.next_entry.new.entries),
      subst (Appends held holds) (sym (lines_push came e)) (Appends-append held begun holds (entry_lines came) (entry_line e) i.2
          (subst (λ (x : Entry). Appends begun holds (entry_line x)) same c.in_ok-write_entry.ensures.ok)),
      c.in_ok-write_entry.ensures.faults.unfailed ∙ i.3,
      omega (arith, count, some, length-append came (e ∷ [])),
    )
