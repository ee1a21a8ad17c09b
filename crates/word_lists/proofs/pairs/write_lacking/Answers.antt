use Rattle.std.proofs.Common.{rules, w32, to_z, of_z, FitsSigned, ◌≡◌, ◌++◌, ◌∷◌, ◌∙◌, ◌||◌, [], Bool, ap, ap₂, append_assoc, length, refl, subst, sym}
use Rattle.std.specs.Prelude.{Err, ltb}
use Rattle.std.proofs.lemmas.Int.{to_z-of_z}
use Rattle.std.specs.Io.KnownBytes.{Appends}
use Rattle.cedarwood.specs.Queries.{Entry}
use Rattle.cedarwood.specs.WatchedDevice.{device_of, has_failed}
use Rattle.device_lines.specs.Written.{WritesFront}
use Rattle.word_lists.specs.Lines.{entries_missing, signed_lines}
use Rattle.word_lists.specs.declared.write.ListError.TheVariants.{Write}
use Rattle.word_lists.proofs.Answered.{broken_lines, memory_told, starved_lines, whole_lines}
use Rattle.device_lines.proofs.Bytes.{Appends-append, Appends-none, on_err}
use Rattle.word_lists.proofs.SignedLines.{lacking_begun, lacking_lines, lacking_some, lacking_stopped, or_all}
use Rattle.word_lists.proofs.pairs.write_lacking.Goals as goal

pub loop-value-init : goal.loop-value-init
loop-value-init g c = ([], refl, Appends-none (g.W.Write.contents (device_of c.args.writer.now)), refl, refl)

pub loop-value-preserved : goal.loop-value-preserved
loop-value-preserved g c =
    let i = c.loop-value.invariant in
    let came = i.0 in
    let tree = c.args.other.now.state.tree in
    let e : Entry = (c.next_entry.new.key.items, c.in-Some.value) in
    let step : c.loop-value.entries ≡ e ∷ c.next_entry.new.entries = search rules in
    let fits : FitsSigned w32 c.in-Some.value = search rules in
    let same : (c.deref.result.now, to_z w32 (of_z w32 c.in-Some.value)) ≡ e = λ k. (c.deref.ensures.value k, to_z-of_z w32 c.in-Some.value fits k) in
    let one = c.in_ok-any.ensures.any ∙ ap (λ (x : Entry). ltb 0 (length (entries_missing tree (x ∷ [])))) same in
    let held = g.W.Write.contents (device_of c.args.writer.now) in
    let begun = g.W.Write.contents (device_of c.loop-value.writer) in
    let holds = g.W.Write.contents (device_of c.write_unless_held.new.writer) in (
      came ++ e ∷ [],
      i.1 ∙ ap (λ l. came ++ l) step ∙ sym (append_assoc came (e ∷ []) c.next_entry.new.entries),
      subst (Appends held holds) (sym (lacking_lines c.args.sign.now tree came (e ∷ []))) (Appends-append held begun holds (signed_lines c.args.sign.now (entries_missing tree came)) (signed_lines c.args.sign.now (entries_missing tree (e ∷ []))) i.2
          (subst (λ (x : Entry). Appends begun holds (signed_lines c.args.sign.now (entries_missing tree (x ∷ [])))) same c.in_ok-any.ensures.writes.ok)),
      c.in_ok-any.ensures.writes.faults.unfailed ∙ i.3,
      ap₂ (λ (a b : Bool). a || b) i.4 one ∙ sym (lacking_some tree came (e ∷ [])),
    )

pub returns-in_err-value-clause-err : goal.returns-in_err-value-clause-err
returns-in_err-value-clause-err g c =
    let i = c.loop-value.invariant in
    on_err c.from_residual.result
    (lacking_begun c.args.sign.now c.args.other.now.state.tree (g.W.Write.contents (device_of c.args.writer.now)) (g.W.Write.contents (device_of c.loop-value.writer)) c.args.entries i.0 c.loop-value.entries i.1 i.2)

pub returns-in_err-any-clause-err : goal.returns-in_err-any-clause-err
returns-in_err-any-clause-err g c =
    let i = c.loop-value.invariant in
    let tree = c.args.other.now.state.tree in
    let e : Entry = (c.next_entry.new.key.items, c.in-Some.value) in
    let step : c.loop-value.entries ≡ e ∷ c.next_entry.new.entries = search rules in
    let fits : FitsSigned w32 c.in-Some.value = search rules in
    let same : (c.deref.result.now, to_z w32 (of_z w32 c.in-Some.value)) ≡ e = λ k. (c.deref.ensures.value k, to_z-of_z w32 c.in-Some.value fits k) in
    let held = g.W.Write.contents (device_of c.args.writer.now) in
    let begun = g.W.Write.contents (device_of c.loop-value.writer) in
    let holds = g.W.Write.contents (device_of c.write_unless_held.new.writer) in
    on_err c.from_residual-in_err-any.result
    (or_all held holds (signed_lines c.args.sign.now (entries_missing tree c.args.entries)) (lacking_stopped c.args.sign.now tree held begun holds c.args.entries i.0 c.next_entry.new.entries e
    (i.1 ∙ ap (λ l. i.0 ++ l) step) i.2 (subst (λ (x : Entry). WritesFront begun holds (signed_lines c.args.sign.now (entries_missing tree (x ∷ [])))) same c.in_err-any.ensures.writes.err)))

pub returns-in_err-any-clause-broken : goal.returns-in_err-any-clause-broken
returns-in_err-any-clause-broken g c = λ _.
    let i = c.loop-value.invariant in
    let tree = c.args.other.now.state.tree in
    let e : Entry = (c.next_entry.new.key.items, c.in-Some.value) in
    let step : c.loop-value.entries ≡ e ∷ c.next_entry.new.entries = search rules in
    let fits : FitsSigned w32 c.in-Some.value = search rules in
    let same : (c.deref.result.now, to_z w32 (of_z w32 c.in-Some.value)) ≡ e = λ k. (c.deref.ensures.value k, to_z-of_z w32 c.in-Some.value fits k) in
    let held = g.W.Write.contents (device_of c.args.writer.now) in
    let begun = g.W.Write.contents (device_of c.loop-value.writer) in
    let holds = g.W.Write.contents (device_of c.write_unless_held.new.writer) in
    lacking_stopped c.args.sign.now tree held begun holds c.args.entries i.0 c.next_entry.new.entries e
    (i.1 ∙ ap (λ l. i.0 ++ l) step) i.2 (subst (λ (x : Entry). WritesFront begun holds (signed_lines c.args.sign.now (entries_missing tree (x ∷ [])))) same c.in_err-any.ensures.writes.err)

pub write_unless_held-requires : goal.write_unless_held-requires
write_unless_held-requires g c = search (rules, c.requires-raw)

pub returns-in_err-value-clause-faults : goal.returns-in_err-value-clause-faults
returns-in_err-value-clause-faults g c =
    let is = memory_told c.from_residual.result c.in_err-value.field-0.0 c.from_residual.ensures.1 c.in_err-value.ensures.refused.0 in
    starved_lines (has_failed c.args.writer.now) (has_failed c.loop-value.writer) c.from_residual.result is c.loop-value.invariant.3

pub returns-in_err-any-clause-faults : goal.returns-in_err-any-clause-faults
returns-in_err-any-clause-faults g c =
    let is : c.from_residual-in_err-any.result ≡ Err Write = search rules in
    broken_lines (has_failed c.args.writer.now) (has_failed c.write_unless_held.new.writer) c.from_residual-in_err-any.result is c.in_err-any.ensures.writes.faults.cause.1

pub returns-clause-faults : goal.returns-clause-faults
returns-clause-faults g c =
    whole_lines (has_failed c.args.writer.now) (has_failed c.loop-value.writer) c.loop-value.any c.loop-value.invariant.3
