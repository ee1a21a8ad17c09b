use Rattle.std.proofs.Common.{rules, ◌≡◌, ◌<◌, ◌+◌, ◌++◌, ◌∙◌, List, ap, arith, get_or, length, map, suc, sym, take, ℕ}
use Rattle.std.proofs.lemmas.List.{length-map}
use Rattle.cedarwood.specs.Queries.{Entry}
use Rattle.best_few.specs.Orders.{found_entry}
use Rattle.cedar_c.specs.Pairs.{keys_in}
use Rattle.cedar_c.proofs.BestLemmas.{key_more, read_entry}
use Rattle.cedar_c.proofs.best.joined_keys.Goals as goal

pub loop-index-preserved : goal.loop-index-preserved
loop-index-preserved c =
    let entries = c.args.entries.now in
    let es : List Entry = map found_entry entries in
    let at = c.loop-index.index in
    let other = c.index-entries-index.result in
    let key : List ℕ = (get_or entries at other).1.items in
    let low : at < length es = let long = length-map entries found_entry in omega (arith, long, c.loop-index-test.true) in
    let joined : c.extend_from_slice.new.self.items ≡ c.loop-index.keys.items ++ key = search rules in
    let one : suc at ≡ at + 1 = omega arith in
    joined
    ∙ ap (λ (keys : List ℕ). keys ++ key) c.loop-index.invariant
    ∙ ap (λ (e : Entry). keys_in (take at es) ++ e.0) (sym (read_entry entries at other))
    ∙ key_more es at (found_entry other) low
    ∙ ap (λ (n : ℕ). keys_in (take n es)) one
