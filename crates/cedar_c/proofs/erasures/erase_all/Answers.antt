use Rattle.std.proofs.Common.{◌≡◌, ◌∙◌, ◌≤◌, List, [], ℕ, ap, arith, length, take}
use Rattle.cedarwood.specs.Queries.{walk}
use Rattle.cedarwood.specs.State.{State}
use Rattle.cedarwood.specs.Batches.{keys_erased}
use Rattle.cedar_c.specs.Pairs.{named_keys}
use Rattle.cedar_c.specs.declared.erasures.Key.{Key}
use Rattle.cedar_c.proofs.ErasedLemmas.{erased_fewer, erased_more, told_more}
use Rattle.cedar_c.proofs.erasures.erase_all.Goals as goal

-- what follows the keys
abbrev blank : Key
blank = record { key = record { ref_ptr = (0, 0); now = [] } }

pub loop-index-preserved : goal.loop-index-preserved
loop-index-preserved g c =
    let e = c.erase_bytes-was_held.ensures in
    let s = c.args.trie.now.state in
    let t = c.loop-index.trie.state in
    let so_far = c.loop-index.invariant in
    let keys = c.args.keys.now in
    let i = c.loop-index.index in
    let inside = c.loop-index-test.true in (
      erased_more s t keys i inside c.erase_bytes-was_held.new.self.state blank so_far.0 e.after,
      told_more s t keys i inside blank c.args.held.now c.loop-index.held c.tell.new.held c.erase_bytes-was_held.result so_far.0 e.answer so_far.1 c.tell.ensures,
      (e.size.0 ∙ so_far.2.0, e.size.1 ∙ so_far.2.1),
      e.max_trial ∙ so_far.3,
      e.search_limit ∙ so_far.4,
    )

pub overflow_sub-result : goal.overflow_sub-result
overflow_sub-result g c =
    let before : c.len-before.result ≡ length (walk c.args.trie.now.state.tree) = c.len-before.ensures.count in
    let after : c.len.result ≡ length (walk c.loop-index.trie.state.tree) = c.len.ensures.count in
    let keys : List (List ℕ) = take c.loop-index.index (named_keys c.args.keys.now) in
    let is : length (walk c.loop-index.trie.state.tree) ≡ length (walk (keys_erased c.args.trie.now.state keys).tree) = ap (λ (s : State). length (walk s.tree)) c.loop-index.invariant.0 in
    let fewer : length (walk (keys_erased c.args.trie.now.state keys).tree) ≤ length (walk c.args.trie.now.state.tree) = erased_fewer c.args.trie.now.state keys in
    omega (arith, before, after, is, fewer)

pub returns-clause-count : goal.returns-clause-count
returns-clause-count g c =
    let before : c.len-before.result ≡ length (walk c.args.trie.now.state.tree) = c.len-before.ensures.count in
    let after : c.len.result ≡ length (walk c.loop-index.trie.state.tree) = c.len.ensures.count in
    let keys : List (List ℕ) = take c.loop-index.index (named_keys c.args.keys.now) in
    let is : length (walk c.loop-index.trie.state.tree) ≡ length (walk (keys_erased c.args.trie.now.state keys).tree) = ap (λ (s : State). length (walk s.tree)) c.loop-index.invariant.0 in
    let fewer : length (walk (keys_erased c.args.trie.now.state keys).tree) ≤ length (walk c.args.trie.now.state.tree) = erased_fewer c.args.trie.now.state keys in
    omega (arith, before, after, is, fewer)
