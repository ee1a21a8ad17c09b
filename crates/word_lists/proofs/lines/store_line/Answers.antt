use Rattle.std.proofs.Common.{rules, w32, FitsSigned, ◌≡◌, ◌∙◌, ℤ, Option, is_some, ap, subst, sym}
use Rattle.std.proofs.lemmas.Int.{to_z-of_z}
use Rattle.std.specs.Prelude.{IfOk, OnOk}
use Rattle.cedarwood.specs.State.{State}
use Rattle.cedarwood.specs.Tree.{number_at}
use Rattle.cedarwood.specs.Fault.{fault}
use Rattle.word_lists.specs.Stored.{line_stored, line_told, number_of_line, number_with, stored_by, told_by}
use Rattle.word_lists.specs.declared.lines.LineFault.{LineFault as Fault}
use Rattle.word_lists.proofs.Figures.{filled_unless}
use Rattle.word_lists.proofs.ListedLines.{none_left}
use Rattle.word_lists.proofs.OneLine.{lacks_number, stored_as, told_as, unnumbered_stored, unnumbered_told}
use Rattle.word_lists.proofs.lines.store_line.Goals as goal

pub returns-then-is_empty-clause-ok : goal.returns-then-is_empty-clause-ok
returns-then-is_empty-clause-ok g c =
    let s = c.args.trie.now.state in
    let number = c.args.number in
    let line = c.args.line.now in
    sym (ap (line_stored s number) (none_left line (sym c.if-is_empty.true ∙ c.is_empty.ensures)))

pub returns-then-is_empty-clause-told : goal.returns-then-is_empty-clause-told
returns-then-is_empty-clause-told g c =
    let s = c.args.trie.now.state in
    let number = c.args.number in
    let line = c.args.line.now in
    sym (ap (line_told s number) (none_left line (sym c.if-is_empty.true ∙ c.is_empty.ensures)))

pub returns-in_default-clause-ok : goal.returns-in_default-clause-ok
returns-in_default-clause-ok g c =
    let s = c.args.trie.now.state in
    let number = c.args.number in
    let line = c.args.line.now in
    let filled = filled_unless line (sym c.if-is_empty.false ∙ c.is_empty.ensures) in
    let found : number_of_line number line ≡ c.value_of.result = ap (number_with number) (sym c.split_line.ensures.figures) ∙ sym c.value_of.ensures in
    unnumbered_stored s number line filled (found ∙ lacks_number c.value_of.result (λ v e. c.in_default.not-Some v e))

pub returns-in_default-clause-told : goal.returns-in_default-clause-told
returns-in_default-clause-told g c =
    let s = c.args.trie.now.state in
    let number = c.args.number in
    let line = c.args.line.now in
    let filled = filled_unless line (sym c.if-is_empty.false ∙ c.is_empty.ensures) in
    let found : number_of_line number line ≡ c.value_of.result = ap (number_with number) (sym c.split_line.ensures.figures) ∙ sym c.value_of.ensures in
    unnumbered_told s number line filled (found ∙ lacks_number c.value_of.result (λ v e. c.in_default.not-Some v e))

pub returns-clause-ok : goal.returns-clause-ok
returns-clause-ok g c =
    let s = c.args.trie.now.state in
    let number = c.args.number in
    let line = c.args.line.now in
    let filled = filled_unless line (sym c.if-is_empty.false ∙ c.is_empty.ensures) in
    let found : number_of_line number line ≡ c.value_of.result = ap (number_with number) (sym c.split_line.ensures.figures) ∙ sym c.value_of.ensures in
    let word = c.deref.result.now in
    let v = c.in-Some.value in
    let fits : FitsSigned w32 v = search rules in
    let same = to_z-of_z w32 v fits in
    let reads = c.deref.ensures.value ∙ c.in_ok-read_word.ensures in
    subst (λ (t : State). OnOk c.store_word.result (c.store_word.new.trie.state ≡ t)) (stored_as s number line c.split_line.result.0.now word v filled c.split_line.ensures.word reads (found ∙ c.in-Some.is))
    (subst (λ (x : ℤ). OnOk c.store_word.result (c.store_word.new.trie.state ≡ stored_by (fault word x) s word x)) same c.store_word.ensures.ok)

pub returns-clause-told : goal.returns-clause-told
returns-clause-told g c =
    let s = c.args.trie.now.state in
    let number = c.args.number in
    let line = c.args.line.now in
    let filled = filled_unless line (sym c.if-is_empty.false ∙ c.is_empty.ensures) in
    let found : number_of_line number line ≡ c.value_of.result = ap (number_with number) (sym c.split_line.ensures.figures) ∙ sym c.value_of.ensures in
    let word = c.deref.result.now in
    let v = c.in-Some.value in
    let fits : FitsSigned w32 v = search rules in
    let same = to_z-of_z w32 v fits in
    let reads = c.deref.ensures.value ∙ c.in_ok-read_word.ensures in
    subst (λ (t : Option Fault). IfOk c.store_word.result (λ told. told ≡ t)) (told_as s number line c.split_line.result.0.now word v filled c.split_line.ensures.word reads (found ∙ c.in-Some.is))
    (subst (λ (x : ℤ). IfOk c.store_word.result (λ told. told ≡ told_by (fault word x) (is_some (number_at s.tree word)))) same c.store_word.ensures.told)
