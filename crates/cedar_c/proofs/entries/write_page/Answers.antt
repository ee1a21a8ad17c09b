use Rattle.std.proofs.Common.{rules, ◌≡◌, ◌<◌, ◌≤◌, ◌+◌, ◌-◌, ◌++◌, ◌⊎◌, ◌∷◌, ◌∙◌, List, [], drop, false, ap, arith, FitsSigned, length, map, nat_eq, refl, set, subst, sym, take, w32}
use mir.Val.{of_z, to_z}
use Rattle.std.specs.List.{starts_with}
use Rattle.std.proofs.lemmas.Int.{to_z-of_z}
use Rattle.std.proofs.lemmas.List.{drop-drop}
use Rattle.cedarwood.specs.Queries.{Entry}
use Rattle.cedarwood.specs.Words.{visited_entries}
use Rattle.cedar_walk.specs.Ranges.{behind_path}
use Rattle.cedar_walk.specs.Visits.{left_at, path_to}
use Rattle.cedarwood.specs.RangeWalks.{entries_left, IsRangePlace}
use Rattle.cedarwood.proofs.RangeLemmas.{range_place, ranged_is}
use Rattle.cedar_c.specs.Entries.{page_of}
use Rattle.cedar_c.specs.declared.scans.Found.{Found}
use Rattle.cedar_c.proofs.EntryLemmas.{all_written, IsWritten, kept_written, none_written, one_written, page_ends, page_full, page_none}
use Rattle.cedar_c.proofs.entries.write_page.Goals as goal

pub loop-count-init : goal.loop-count-init
loop-count-init g c =
    (c.requires.place, none_written c.args.prefix.now (entries_left (g.T.Walked.shown c.args.trie.now) c.args.start.now c.args.first) c.args.found.now c.args.bytes.now, refl)

pub returns-in_default-clause-written : goal.returns-in_default-clause-written
returns-in_default-clause-written g c =
    let T = g.T.Walked.shown c.args.trie.now in
    let start = c.args.start.now in
    let prefix = c.args.prefix.now in
    let l = c.loop-count in
    let places = length c.args.found.now - l.count in
    let room = length c.args.bytes.now - l.used in
    let none : page_of prefix places room (entries_left T start l.next) ≡ [] = ap (λ n. page_of prefix places room (entries_left T start n)) c.in_default.is ∙ page_none prefix places room in
    all_written prefix (entries_left T start c.args.first) c.args.found.now c.args.bytes.now (entries_left T start l.next) l.found l.bytes l.count l.used l.invariant.1 none

pub write_entry-requires-clause-below : goal.write_entry-requires-clause-below
write_entry-requires-clause-below g c =
    subst (IsRangePlace (g.T.Walked.shown c.args.trie.now) c.args.start.now) c.in-Some.is c.loop-count.invariant.0

pub write_entry-requires-clause-used : goal.write_entry-requires-clause-used
write_entry-requires-clause-used g c =
    let so_far = c.loop-count.invariant.1 in omega (arith, so_far.within, so_far.size)

pub returns-in_default-write_entry-clause-written : goal.returns-in_default-write_entry-clause-written
returns-in_default-write_entry-clause-written g c =
    let T = g.T.Walked.shown c.args.trie.now in
    let start = c.args.start.now in
    let prefix = c.args.prefix.now in
    let l = c.loop-count in
    let at = c.in-Some.at in
    let entries = entries_left T start c.args.first in
    let left = entries_left T start l.next in
    let places = length c.args.found.now - l.count in
    let room = length c.args.bytes.now - l.used in
    let key = start ++ path_to T at.depth at.slot in
    let later = map (behind_path start) (visited_entries (left_at T start at.depth at.slot)) in
    let kept = c.in_default-write_entry.ensures.kept in
    let now = c.write_entry.new.bytes in
    let ends : (length l.bytes - l.used < length key) ⊎ (starts_with nat_eq key prefix ≡ false) = c.in_default-write_entry.ensures.left refl in
    let stops : (room < length key) ⊎ (starts_with nat_eq key prefix ≡ false) =
    subst (λ n. (n - l.used < length key) ⊎ (starts_with nat_eq key prefix ≡ false)) l.invariant.1.size ends in
    let none : page_of prefix places room left ≡ [] = ap (λ n. page_of prefix places room (entries_left T start n)) c.in-Some.is ∙ page_ends prefix room (key, at.number) later places stops in
    all_written prefix entries c.args.found.now c.args.bytes.now left l.found now l.count l.used
    (kept_written prefix entries c.args.found.now c.args.bytes.now left l.found l.bytes l.count l.used l.invariant.1 now kept.0 kept.1) none

pub next_numbered-next-requires-clause-below : goal.next_numbered-next-requires-clause-below
next_numbered-next-requires-clause-below g c =
    (c.args.start.now, subst (IsRangePlace (g.T.Walked.shown c.args.trie.now) c.args.start.now) c.in-Some.is c.loop-count.invariant.0)

pub loop-count-preserved : goal.loop-count-preserved
loop-count-preserved g c =
    let T = g.T.Walked.shown c.args.trie.now in
    let start = c.args.start.now in
    let l = c.loop-count in
    let at = c.in-Some.at in
    let entries = entries_left T start c.args.first in
    let key = start ++ path_to T at.depth at.slot in
    let e : Entry = (key, at.number) in
    let here = subst (IsRangePlace T start) c.in-Some.is l.invariant.0 in
    let next = c.next_numbered-next.result in
    let comes = c.next_numbered-next.ensures start here.0 in
    let left = visited_entries (left_at T start at.depth at.slot) in
    let first : entries_left T start l.next ≡ e ∷ entries_left T start next =
    ap (entries_left T start) c.in-Some.is ∙ ap (λ (es : List Entry). e ∷ es) (sym (ranged_is T start left next comes)) in
    let len = c.in-Some-write_entry.len in
    let told = c.in-Some-write_entry.ensures in
    let long : len ≡ length key = told.length.0 in
    let now = c.write_entry.new.bytes in
    let fits : FitsSigned w32 at.number = search rules in
    let value = to_z-of_z w32 at.number fits in
    let spot : Found = record { place = l.used; length = len; value = to_z w32 (of_z w32 at.number) } in
    let within : l.used + length key ≤ length c.args.bytes.now = omega (arith, told.length.1, long, l.invariant.1.size) in
    let one = one_written c.args.prefix.now entries c.args.found.now c.args.bytes.now (entries_left T start l.next) l.found l.bytes l.count l.used l.invariant.1 e (entries_left T start next) spot now first c.loop-count-test.true within told.begins
    (subst (λ n. take (l.used + n) now ≡ take l.used l.bytes ++ key) long told.written) told.kept.1 (λ i. record { place = l.used; length = long i; value = value i }) in
    let later : entries_left T start next ≡ drop (l.count + 1) entries = ap (drop 1) (sym first ∙ l.invariant.2) ∙ drop-drop 1 l.count entries in (
      range_place T start left next comes,
      subst (λ n. IsWritten c.args.prefix.now entries (entries_left T start next) c.args.found.now (set l.found l.count spot) c.args.bytes.now now (l.count + 1) (l.used + n)) (sym long) one,
      later,
    )

pub returns-clause-written : goal.returns-clause-written
returns-clause-written g c =
    let T = g.T.Walked.shown c.args.trie.now in
    let start = c.args.start.now in
    let prefix = c.args.prefix.now in
    let l = c.loop-count in
    let places = length c.args.found.now - l.count in
    let room = length c.args.bytes.now - l.used in
    let full : places ≡ 0 = omega (arith, c.loop-count-test.false, l.invariant.1.places) in
    all_written prefix (entries_left T start c.args.first) c.args.found.now c.args.bytes.now (entries_left T start l.next) l.found l.bytes l.count l.used l.invariant.1 (page_full prefix places room (entries_left T start l.next) full)
