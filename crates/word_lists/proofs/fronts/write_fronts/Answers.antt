use Rattle.std.proofs.Common.{rules, ◌≡◌, ℕ, ℤ, List, ap, length, map, subst}
use Rattle.std.specs.Prelude.{IfOk, ltb}
use Rattle.cedarwood.specs.Queries.{front}
use Rattle.device_lines.proofs.Writing.{writes_same}
use Rattle.word_lists.specs.Lines.{entry_lines}
use Rattle.word_lists.specs.Texts.{front_entry}
use Rattle.word_lists.proofs.fronts.write_fronts.Goals as goal

pub returns-clause-any : goal.returns-clause-any
returns-clause-any g c =
    let found : c.common_prefix_iter_bytes.result.rest ≡ front c.args.trie.now.state.tree c.args.text.now = search rules in
    subst (λ (f : List (ℤ × ℕ)). IfOk c.write_all_fronts.result (λ any. any ≡ ltb 0 (length (map (front_entry c.args.text.now) f)))) found c.write_all_fronts.ensures.any

pub returns-clause-writes : goal.returns-clause-writes
returns-clause-writes g c =
    let found : c.common_prefix_iter_bytes.result.rest ≡ front c.args.trie.now.state.tree c.args.text.now = search rules in
    writes_same (ap (λ (f : List (ℤ × ℕ)). entry_lines (map (front_entry c.args.text.now) f)) found) c.write_all_fronts.ensures.writes
