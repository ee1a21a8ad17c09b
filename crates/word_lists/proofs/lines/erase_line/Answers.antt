use Rattle.std.proofs.Common.{rules, ◌≡◌, ◌∙◌, ap, sym, subst}
use Rattle.std.specs.Prelude.{IsSome, IsTrue, ◌↔◌}
use Rattle.cedarwood.specs.State.{after_erase}
use Rattle.cedarwood.specs.Tree.{number_at}
use Rattle.word_lists.specs.Stored.{absent_of, word_of}
use Rattle.word_lists.proofs.Figures.{filled_unless, unfilled_if}
use Rattle.word_lists.proofs.Refusals.{absent_none, erased_none, erased_word, held_is, word_held}
use Rattle.word_lists.proofs.lines.erase_line.Goals as goal

pub returns-then-is_empty-clause-ok : goal.returns-then-is_empty-clause-ok
returns-then-is_empty-clause-ok g c =
    erased_none c.args.trie.now.state c.args.line.now (unfilled_if c.args.line.now (sym c.if-is_empty.true ∙ c.is_empty.ensures))

pub returns-then-is_empty-clause-absent : goal.returns-then-is_empty-clause-absent
returns-then-is_empty-clause-absent g c =
    absent_none c.args.trie.now.state c.args.line.now (unfilled_if c.args.line.now (sym c.if-is_empty.true ∙ c.is_empty.ensures))

pub returns-clause-ok : goal.returns-clause-ok
returns-clause-ok g c =
    let filled = filled_unless c.args.line.now (sym c.if-is_empty.false ∙ c.is_empty.ensures) in
    let key : c.deref.result.now ≡ word_of c.args.line.now = search rules in
    c.erase_bytes.ensures.after ∙ ap (after_erase c.args.trie.now.state) key ∙ erased_word c.args.trie.now.state c.args.line.now filled

pub returns-clause-absent : goal.returns-clause-absent
returns-clause-absent g c =
    let filled = filled_unless c.args.line.now (sym c.if-is_empty.false ∙ c.is_empty.ensures) in
    let key : c.deref.result.now ≡ word_of c.args.line.now = search rules in
    let answer = subst (λ k. IsTrue c.erase_bytes.result ↔ IsSome (number_at c.args.trie.now.state.tree k)) key c.erase_bytes.ensures.answer in
    c.absent_of.ensures.absent ∙ ap absent_of (held_is c.erase_bytes.result (number_at c.args.trie.now.state.tree (word_of c.args.line.now)) answer ∙ word_held c.args.trie.now.state c.args.line.now filled)
