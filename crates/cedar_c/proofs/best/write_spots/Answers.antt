use Rattle.std.proofs.Common.{rules, ◌≡◌, ◌<◌, ◌≤◌, ◌+◌, ◌++◌, ◌∙◌, FitsSigned, List, ap, arith, drop, get_or, length, map, of_z, set, suc, sym, take, to_z, w32, ℕ}
use Rattle.std.proofs.lemmas.Int.{to_z-of_z}
use Rattle.std.proofs.lemmas.List.{get_or_default, length-append, length-map}
use Rattle.cedarwood.specs.Queries.{Entry}
use Rattle.best_few.specs.Orders.{found_entry}
use Rattle.cedar_c.specs.Entries.{spots_of}
use Rattle.cedar_c.specs.Pairs.{keys_in}
use Rattle.cedar_c.specs.declared.scans.Found.{Found}
use Rattle.cedar_c.proofs.BestLemmas.{key_more, part_short, read_entry, spot_at, spot_written}
use Rattle.cedar_c.proofs.best.write_spots.Goals as goal

pub overflow_add-place : goal.overflow_add-place
overflow_add-place c =
    let entries = c.args.entries.now in
    let es : List Entry = map found_entry entries in
    let at = c.loop-index.index in
    let other = c.index-entries-index.result in
    let low : at < length es = let long = length-map entries found_entry in omega (arith, long, c.loop-index-test.true) in
    let key : c.len-length.result ≡ length (get_or entries at other).1.items = search rules in
    let read : length (get_or es at (found_entry other)).0 ≡ length (get_or entries at other).1.items = ap (λ (e : Entry). length e.0) (read_entry entries at other) in
    let split = length-append (keys_in (take at es)) (get_or es at (found_entry other)).0 in
    let more = ap length (key_more es at (found_entry other) low) in
    let short = part_short es (suc at) in
    omega (arith, c.loop-index.invariant.1, key, read, split, more, short, c.requires.short)

pub loop-index-preserved : goal.loop-index-preserved
loop-index-preserved c =
    let entries = c.args.entries.now in
    let es : List Entry = map found_entry entries in
    let xs = c.args.found.now in
    let at = c.loop-index.index in
    let place = c.loop-index.place in
    let other = c.index-entries-index.result in
    let item = c.index-entries-index-in-loop-index.result in
    let long = length-map entries found_entry in
    let low : at < length es = omega (arith, long, c.loop-index-test.true) in
    let room : length es ≤ length xs = omega (arith, long, c.requires.room) in
    let key : c.len-length.result ≡ length (get_or entries at other).1.items = search rules in
    let read : length (get_or es at (found_entry other)).0 ≡ length (get_or entries at other).1.items = ap (λ (e : Entry). length e.0) (read_entry entries at other) in
    let fits : FitsSigned w32 (get_or entries at item).0 = search rules in
    let value : to_z w32 (of_z w32 (get_or entries at item).0) ≡ (get_or es at (found_entry other)).1 =
    to_z-of_z w32 (get_or entries at item).0 fits ∙ ap (λ e. e.0) (get_or_default entries at item other c.loop-index-test.true) ∙ ap (λ (e : Entry). e.1) (sym (read_entry entries at other)) in
    let spot : Found = record { place = place; length = c.len-length.result; value = to_z w32 (of_z w32 (get_or entries at item).0) } in
    let same : spot ≡ spot_at place (get_or es at (found_entry other)) = (let whole = key ∙ sym read in λ k. record { place = place; length = whole k; value = value k }) in
    let one : suc at ≡ at + 1 = omega arith in
    let split = length-append (keys_in (take at es)) (get_or es at (found_entry other)).0 in
    let more = ap length (key_more es at (found_entry other) low) in
    let placed : place ≡ 0 + length (keys_in (take at es)) = omega (arith, c.loop-index.invariant.1) in
    let further : place + c.len-length.result ≡ length (keys_in (take (suc at) es)) = omega (arith, c.loop-index.invariant.1, key, read, split, more) in (
      ap (λ (x : Found). set c.loop-index.found at x) same
          ∙ ap (λ (l : List Found). set l at (spot_at place (get_or es at (found_entry other)))) c.loop-index.invariant.0
          ∙ spot_written es xs 0 at place (found_entry other) low room placed
          ∙ ap (λ (n : ℕ). spots_of 0 (take n es) ++ drop n xs) one,
      further ∙ ap (λ (n : ℕ). length (keys_in (take n es))) one,
    )
