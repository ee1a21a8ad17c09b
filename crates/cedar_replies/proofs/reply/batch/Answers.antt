use Rattle.std.proofs.Common.{rules, arith, ◌≡◌, ◌<◌, length, refl, sym, ◌∙◌}
use Rattle.std.proofs.lemmas.List.{length-map}
use Rattle.std.proofs.lemmas.Result.{err_from_is_err_and}
use Rattle.cedarwood.specs.Queries.{exact}
use Rattle.cedarwood.specs.Words.{keys_of}
use Rattle.cedar_replies.proofs.BatchLemmas.{all_filled}
use Rattle.cedar_replies.proofs.reply.batch.Goals as goal

pub returns-in_err-found : goal.returns-in_err-found
returns-in_err-found g c =
    let p = err_from_is_err_and c.from_residual.result c.from_residual.ensures.1 in
    let some : 0 < length (keys_of c.args.keys.now) = omega (arith, length-map c.args.keys.now (λ key. key.now), c.in_err-found.ensures.refused) in rw (p.1, p.2) (refl, some)

pub returns : goal.returns
returns g c =
    let held = c.in_ok-found.found in
    let count : length c.args.keys.now ≡ held.len = sym c.in_ok-found.ensures.len in
    let size : length held.items ≡ held.len = search rules in
    let keys : length (keys_of c.args.keys.now) ≡ length c.args.keys.now = length-map c.args.keys.now (λ key. key.now) in
    all_filled (exact c.args.trie.now.state.tree) (keys_of c.args.keys.now) held.len c.deref_mut.result.now c.exact_match_search_batch.new.answers held.items
    (keys ∙ count) c.deref_mut.ensures.len size (rw (sym count) c.exact_match_search_batch.ensures)
