use Rattle.std.proofs.Common.{◌≡◌, ◌∙◌, ℤ, w32, None, is_some, ap, subst, sym, to_z, of_z}
use Rattle.std.proofs.lemmas.Int.{to_z-of_z}
use Rattle.std.specs.Prelude.{IfOk, OnOk}
use Rattle.cedarwood.specs.Tree.{number_at}
use Rattle.cedarwood.specs.Fault.{fault}
use Rattle.word_lists.specs.Stored.{line_refusal, stored_by, told_by}
use Rattle.device_lines.proofs.Bytes.{on_err}
use Rattle.word_lists.proofs.Refusals.{refused_slots, refused_state, refused_told, stored_state, stored_told, update_err}
use Rattle.word_lists.proofs.lines.store_word.Goals as goal

pub returns-in-Ok-clause-ok : goal.returns-in-Ok-clause-ok
returns-in-Ok-clause-ok g c =
    let u = c.in-Ok.ensures.updated in
    let word = c.args.word.now in
    let before = c.args.trie.now.state in
    let after = c.insert_bytes.new.self.state in
    let v = to_z w32 (of_z w32 c.args.value) in
    subst (λ (x : ℤ). after ≡ stored_by (fault word x) before word x) (to_z-of_z w32 c.args.value c.ranges.value) (stored_state (fault word v) word v before after u.faulty u.ok)

pub returns-in-Ok-clause-told : goal.returns-in-Ok-clause-told
returns-in-Ok-clause-told g c =
    let u = c.in-Ok.ensures.updated in
    let word = c.args.word.now in
    let held = is_some (number_at c.args.trie.now.state.tree word) in
    let v = to_z w32 (of_z w32 c.args.value) in
    subst (λ (x : ℤ). c.repeat_fault.result ≡ told_by (fault word x) held) (to_z-of_z w32 c.args.value c.ranges.value)
    (stored_told (fault word v) held c.repeat_fault.result u.faulty (c.repeat_fault.ensures ∙ ap (λ o. told_by None (is_some o)) c.in-Ok.ensures.held))

pub returns-in-Err-clause-ok : goal.returns-in-Err-clause-ok
returns-in-Err-clause-ok g c =
    let u = c.in-Err.ensures.updated in
    let word = c.args.word.now in
    let before = c.args.trie.now.state in
    let after = c.insert_bytes.new.self.state in
    let v = to_z w32 (of_z w32 c.args.value) in
    subst (λ r. OnOk r (after ≡ stored_by (fault word c.args.value) before word c.args.value)) (sym c.refusal.ensures)
    (subst (λ (x : ℤ). OnOk (line_refusal c.in-Err.error) (after ≡ stored_by (fault word x) before word x)) (to_z-of_z w32 c.args.value c.ranges.value)
    (refused_state (Unit {0}) (fault word v) word v before after c.in-Err.error u.faulty (λ fine. (u.refused fine).0) u.err))

pub returns-in-Err-clause-told : goal.returns-in-Err-clause-told
returns-in-Err-clause-told g c =
    let u = c.in-Err.ensures.updated in
    let word = c.args.word.now in
    let held = is_some (number_at c.args.trie.now.state.tree word) in
    let v = to_z w32 (of_z w32 c.args.value) in
    subst (λ r. IfOk r (λ told. told ≡ told_by (fault word c.args.value) held)) (sym c.refusal.ensures)
    (subst (λ (x : ℤ). IfOk (line_refusal c.in-Err.error) (λ told. told ≡ told_by (fault word x) held)) (to_z-of_z w32 c.args.value c.ranges.value)
    (refused_told (Unit {0}) (fault word v) held c.in-Err.error u.faulty (λ fine. (u.refused fine).0)))

pub returns-in-Err-clause-limit : goal.returns-in-Err-clause-limit
returns-in-Err-clause-limit g c = λ is.
    c.in-Err.ensures.updated.limit (update_err (refused_slots c.in-Err.error (sym c.refusal.ensures ∙ is)))

pub returns-in-Err-clause-err : goal.returns-in-Err-clause-err
returns-in-Err-clause-err g c = on_err c.refusal.result c.in-Err.ensures.updated.err
