use Rattle.std.proofs.Common.{rules, arith, ◌≡◌, ◌<◌, ◌++◌, drop, length, take, ap, sym, subst, ◌∙◌}
use Rattle.std.proofs.lemmas.List.{length-map}
use Rattle.std.proofs.lemmas.Result.{err_from_is_err_and}
use Rattle.std.proofs.Math.Seq.{take-length}
use Rattle.cedarwood.specs.Batches.{held_in_turn, IsErasures, keys_erased}
use Rattle.cedarwood.specs.Words.{keys_of}
use Rattle.cedarwood.proofs.BatchLemmas.{length-held_in_turn}
use Rattle.cedar_replies.proofs.BatchLemmas.{all_asked, each_filled}
use Rattle.cedar_calls.proofs.EraseLemmas.{none_erased}
use Rattle.cedar_calls.proofs.change.erase_batch.Goals as goal

pub returns-in_err-held : goal.returns-in_err-held
returns-in_err-held g c =
    let p = err_from_is_err_and c.from_residual.result c.from_residual.ensures.1 in
    let some : 0 < length (keys_of c.args.keys.now) = omega (arith, length-map c.args.keys.now (λ key. key.now), c.in_err-held.ensures.refused) in
    rw (p.1, p.2) (none_erased c.args.trie.now (keys_of c.args.keys.now) some)

pub returns : goal.returns
returns g c =
    let e = c.erase_batch.ensures in
    let held = c.in_ok-held.held in
    let state = c.args.trie.now.state in
    let asked = keys_of c.args.keys.now in
    let before = c.deref_mut.result.now in
    let answers = c.erase_batch.new.answers in
    let count : length c.args.keys.now ≡ held.len = sym c.in_ok-held.ensures.len in
    let size : length held.items ≡ held.len = search rules in
    let room : length before ≡ held.len = c.deref_mut.ensures.len in
    let named : length asked ≡ held.len = length-map c.args.keys.now (λ key. key.now) ∙ count in
    let all : take (length before) asked ≡ asked = all_asked asked held.len (length before) named room in
    let written : answers ≡ held_in_turn state asked ++ drop held.len before =
    e.answers ∙ ap (λ keys. held_in_turn state keys ++ drop (length c.args.keys.now) before) all ∙ ap (λ n. held_in_turn state asked ++ drop n before) count in
    let filled = each_filled held.len before answers held.items (held_in_turn state asked) room size (length-held_in_turn state asked ∙ named) written in
    let whole : take (length c.args.keys.now) answers ≡ answers =
    ap (λ n. take n answers) (count ∙ sym (ap length filled.0 ∙ length-held_in_turn state asked ∙ named)) ∙ take-length answers in
    record {
      erasures = subst (λ results. IsErasures c.args.trie.now c.erase_batch.new.self asked results) (whole ∙ filled.0 ∙ sym filled.1)
          (subst (λ keys. IsErasures c.args.trie.now c.erase_batch.new.self keys (take (length c.args.keys.now) answers)) all e.erasures);
      held = filled.1;
      state = e.after ∙ ap (keys_erased state) all;
      size = e.size;
      max_trial = e.max_trial;
      search_limit = e.search_limit;
      refused = tt;
    }
