use Rattle.std.proofs.Common.{rules, w32, to_z, of_z, FitsSigned, ◌≡◌, ◌<◌, ◌++◌, ◌∷◌, ◌∙◌, [], ap, append_assoc, length, refl, subst, sym}
use Rattle.std.proofs.lemmas.Int.{to_z-of_z}
use Rattle.cedarwood.specs.Queries.{Entry}
use Rattle.cedarwood.specs.State.{after_put, State}
use Rattle.device_lines.proofs.Bytes.{on_err}
use Rattle.word_lists.proofs.SignedLines.{stored_more}
use Rattle.word_lists.proofs.pairs.store_entries.Goals as goal

pub loop-value-init : goal.loop-value-init
loop-value-init g c = ([], refl, refl, refl)

pub loop-value-preserved : goal.loop-value-preserved
loop-value-preserved g c =
    let i = c.loop-value.invariant in
    let came = i.0 in
    let e : Entry = (c.next_stored.new.key.items, c.in-Some.value) in
    let step : c.loop-value.entries ≡ e ∷ c.next_stored.new.entries = search rules in
    let fits : FitsSigned w32 c.in-Some.value = search rules in
    let same : (c.deref.result.now, to_z w32 (of_z w32 c.in-Some.value)) ≡ e = λ k. (c.deref.ensures.value k, to_z-of_z w32 c.in-Some.value fits k) in (
      came ++ e ∷ [],
      i.1 ∙ ap (λ l. came ++ l) step ∙ sym (append_assoc came (e ∷ []) c.next_stored.new.entries),
      subst (λ (x : Entry). c.store_pair.new.trie.state ≡ after_put c.loop-value.trie.state x.0 x.1) same c.in_ok-store_pair.ensures.ok
          ∙ ap (λ (s : State). after_put s e.0 e.1) i.2 ∙ sym (stored_more c.args.trie.now.state came e),
      c.store_pair.ensures.max_trial ∙ i.3,
    )

pub returns-in_err-value-clause-err : goal.returns-in_err-value-clause-err
returns-in_err-value-clause-err g c =
    let i = c.loop-value.invariant in
    let some : 0 < length c.loop-value.entries = search rules in
    on_err c.from_residual.result (i.0, c.loop-value.entries, some, i.1, i.2)

pub returns-in_err-store_pair-clause-err : goal.returns-in_err-store_pair-clause-err
returns-in_err-store_pair-clause-err g c =
    let i = c.loop-value.invariant in
    let e : Entry = (c.next_stored.new.key.items, c.in-Some.value) in
    let some : 0 < length c.loop-value.entries = search rules in
    on_err c.from_residual-in_err-store_pair.result (i.0, c.loop-value.entries, some, i.1, c.in_err-store_pair.ensures.err ∙ i.2)
