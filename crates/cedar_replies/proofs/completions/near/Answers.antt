use Rattle.std.proofs.Common.{◌≡◌, ◌∙◌, ℕ, Bool, List, ap, map, subst, sym}
use Rattle.std.specs.Prelude.{filter}
use Rattle.byte_automata.specs.Fronts.{has_front}
use Rattle.cedarwood.specs.Queries.{walk}
use Rattle.cedar_replies.specs.Completions.{edits_counted, is_close}
use Rattle.cedar_replies.specs.Replies.{Collects}
use Rattle.cedar_replies.proofs.completions.near.Goals as goal

pub returns-then-is_beginning : goal.returns-then-is_beginning
returns-then-is_beginning g c =
    let edits = edits_counted c.args.two_edits in
    let same = c.new-beginning.ensures ∙ ap has_front c.within-near.ensures ∙ ap (λ b. is_close b edits c.args.text.now) (sym c.if-is_beginning.true) in
    subst (λ (accepts : List ℕ → Bool). Collects c.collect_accepted.result (λ found. map (λ e. (e.0.items, e.1)) found.items ≡ filter (λ e. accepts e.0) (walk c.args.trie.now.state.tree))) same c.collect_accepted.ensures

pub returns : goal.returns
returns g c =
    let edits = edits_counted c.args.two_edits in
    let same = c.within-near.ensures ∙ ap (λ b. is_close b edits c.args.text.now) (sym c.if-is_beginning.false) in
    subst (λ (accepts : List ℕ → Bool). Collects c.collect_accepted-2.result (λ found. map (λ e. (e.0.items, e.1)) found.items ≡ filter (λ e. accepts e.0) (walk c.args.trie.now.state.tree))) same c.collect_accepted-2.ensures
