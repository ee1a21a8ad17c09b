use Rattle.std.proofs.Common.{◌≡◌, ◌∙◌, ℤ, ap, true, false, w32, subst, sym}
use Rattle.std.proofs.lemmas.Int.{to_z-of_z}
use Rattle.device_lines.proofs.Writing.{breaks_all, writes_all, writes_nothing, writes_same}
use Rattle.word_lists.specs.Lines.{holds_entry, signed_line}
use Rattle.word_lists.proofs.SignedLines.{none_lacking, nothing_lacking, one_lacking, some_lacking}
use Rattle.word_lists.proofs.pairs.write_unless_held.Goals as goal

pub returns-then-holds-clause-writes : goal.returns-then-holds-clause-writes
returns-then-holds-clause-writes g c =
    let tree = c.args.other.now.state.tree in
    let key = c.args.key.now in
    let same = to_z-of_z w32 c.args.value c.ranges.value in
    let held : holds_entry tree (key, c.args.value) ≡ true = subst (λ (v : ℤ). holds_entry tree (key, v) ≡ true) same (sym c.holds.ensures ∙ c.if-holds.true) in
    writes_same (none_lacking c.args.sign.now tree (key, c.args.value) held) writes_nothing

pub returns-then-holds-clause-any : goal.returns-then-holds-clause-any
returns-then-holds-clause-any g c =
    let tree = c.args.other.now.state.tree in
    let key = c.args.key.now in
    let same = to_z-of_z w32 c.args.value c.ranges.value in
    let held : holds_entry tree (key, c.args.value) ≡ true = subst (λ (v : ℤ). holds_entry tree (key, v) ≡ true) same (sym c.holds.ensures ∙ c.if-holds.true) in
    nothing_lacking tree (key, c.args.value) held

pub returns-in_err-write_signed-clause-writes : goal.returns-in_err-write_signed-clause-writes
returns-in_err-write_signed-clause-writes g c =
    let tree = c.args.other.now.state.tree in
    let key = c.args.key.now in
    let same = to_z-of_z w32 c.args.value c.ranges.value in
    let lacks : holds_entry tree (key, c.args.value) ≡ false = subst (λ (v : ℤ). holds_entry tree (key, v) ≡ false) same (sym c.holds.ensures ∙ c.if-holds.false) in
    writes_same (ap (λ (v : ℤ). signed_line c.args.sign.now (key, v)) same ∙ one_lacking c.args.sign.now tree (key, c.args.value) lacks)
    (breaks_all c.from_residual.ensures.1 c.in_err-write_signed.ensures)

pub returns-clause-writes : goal.returns-clause-writes
returns-clause-writes g c =
    let tree = c.args.other.now.state.tree in
    let key = c.args.key.now in
    let same = to_z-of_z w32 c.args.value c.ranges.value in
    let lacks : holds_entry tree (key, c.args.value) ≡ false = subst (λ (v : ℤ). holds_entry tree (key, v) ≡ false) same (sym c.holds.ensures ∙ c.if-holds.false) in
    writes_same (ap (λ (v : ℤ). signed_line c.args.sign.now (key, v)) same ∙ one_lacking c.args.sign.now tree (key, c.args.value) lacks)
    (writes_all c.in_ok-write_signed.ensures)

pub returns-clause-any : goal.returns-clause-any
returns-clause-any g c =
    let tree = c.args.other.now.state.tree in
    let key = c.args.key.now in
    let same = to_z-of_z w32 c.args.value c.ranges.value in
    let lacks : holds_entry tree (key, c.args.value) ≡ false = subst (λ (v : ℤ). holds_entry tree (key, v) ≡ false) same (sym c.holds.ensures ∙ c.if-holds.false) in
    some_lacking tree (key, c.args.value) lacks
