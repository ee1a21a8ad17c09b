use Rattle.std.proofs.Common.{◌≡◌, ◌∙◌, ◌++◌, [], FitsSigned, MatchOption, ap, arith, length, rules, subst, sym, w32}
use Rattle.std.proofs.lemmas.Int.{to_z-of_z}
use Rattle.cedar_tree.specs.Walks.{visited_entries}
use Rattle.cedar_walk.specs.Keys.{KeyGoesOn}
use Rattle.cedar_walk.specs.Visits.{ComesToNumber, GoesToNumber, left_at, path_to}
use Rattle.cedarwood.proofs.EntriesLemmas.{entry_there}
use Rattle.cedarwood.proofs.queries.entries.next_entry.Goals as goal

pub returns-in_default : goal.returns-in_default
returns-in_default g c =
    let T = g.T.Walked.shown c.args.trie.now in
    let key = c.args.key.now.items in
    let left = visited_entries (left_at T [] (length key) c.args.slot) in
    let len : c.len.result ≡ length c.args.key.now.items = search rules in
    let found = subst (λ n. GoesToNumber T n c.args.slot c.in_ok-next.field-0) len c.in_ok-next.ensures.found [] c.requires.place.below in
    subst (λ o. MatchOption o (left ≡ []) (ComesToNumber T [] left)) c.in_default.is found

pub returns : goal.returns
returns g c =
    let T = g.T.Walked.shown c.args.trie.now in
    let key = c.args.key.now.items in
    let new = c.next_with_key.new.key.items in
    let left = visited_entries (left_at T [] (length key) c.args.slot) in
    let fits : FitsSigned w32 c.in-Some.next.number = search rules in
    let len : c.len.result ≡ length c.args.key.now.items = search rules in
    let found = subst (λ n. GoesToNumber T n c.args.slot c.in_ok-next.field-0) len c.in_ok-next.ensures.found [] c.requires.place.below in
    let comes = subst (λ o. MatchOption o (left ≡ []) (ComesToNumber T [] left)) c.in-Some.is found in
    let goes = subst (λ o. MatchOption o (new ≡ key) (KeyGoesOn T c.len.result c.args.slot key new)) c.in-Some.is c.in_ok-next.ensures.key in
    let before : key ≡ [] ++ path_to T c.len.result c.args.slot = sym c.requires.place.path ∙ ap (λ n. path_to T n c.args.slot) (sym len) in
    entry_there T left new c.in-Some.next _ comes (goes [] before) (to_z-of_z w32 c.in-Some.next.number fits)
