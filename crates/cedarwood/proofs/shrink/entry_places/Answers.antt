use Rattle.std.proofs.Common.{◌≡◌, ◌∙◌, ◌++◌, [], ap, arith, length, List, map, Option, subst, sym}
use Rattle.std.specs.List.{AllByRecursion}
use Rattle.cedar_tree.specs.Queries.{walk}
use Rattle.cedar_tree.specs.Walks.{visited_entries}
use Rattle.cedar_model.specs.Meaning.WellFormed.{tree_of}
use Rattle.cedar_walk.specs.declared.visits.Numbered.{Numbered}
use Rattle.cedar_walk.specs.Visits.{left_at}
use Rattle.cedarwood.specs.Shrinking.{entries_after, entry_of, IsEntryPlace, IsNextPlace}
use Rattle.cedarwood.proofs.ShrinkLemmas.{listed_all, lists_on, next_is, next_there}
use Rattle.cedarwood.proofs.shrink.entry_places.Goals as goal

pub loop-next-init : goal.loop-next-init
loop-next-init g c =
    let T = g.T.Walked.shown c.args.trie.now in
    let all = walk (tree_of T) in
    let found = c.first_numbered-next.result in
    let empty = c.in_ok-places.ensures.items in
    record {
      listed = next_is T all found c.first_numbered-next.ensures ∙ ap (λ (ps : List Numbered). map (entry_of T) ps ++ entries_after T found) (sym empty);
      each = subst (AllByRecursion (IsEntryPlace T)) (sym empty) tt;
      next = next_there T all found c.first_numbered-next.ensures;
    }

pub next_numbered-next-requires : goal.next_numbered-next-requires
next_numbered-next-requires g c =
    let T = g.T.Walked.shown c.args.trie.now in
    let at = subst (IsNextPlace T) c.in-Some.is c.loop-next.invariant.next in
    record { well_formed = c.requires; below = ([], (at.0, c.in-Some.place.number, at.1)) }

pub loop-next-smaller : goal.loop-next-smaller
loop-next-smaller g c =
    let T = g.T.Walked.shown c.args.trie.now in
    let place = c.in-Some.place in
    let at = subst (IsNextPlace T) c.in-Some.is c.loop-next.invariant.next in
    let left = visited_entries (left_at T [] place.depth place.slot) in
    let on : left ≡ entries_after T c.next_numbered-next.result = next_is T left c.next_numbered-next.result (c.next_numbered-next.ensures [] at.0) in
    omega (arith, ap length on, ap (λ (o : Option Numbered). length (entries_after T o)) c.in-Some.is)

pub loop-next-preserved : goal.loop-next-preserved
loop-next-preserved g c =
    let T = g.T.Walked.shown c.args.trie.now in
    let i = c.loop-next.invariant in
    let at = subst (IsNextPlace T) c.in-Some.is i.next in
    let on = lists_on T (walk (tree_of T)) c.loop-next.places.items c.push.new.self.items c.in-Some.place c.loop-next.next c.next_numbered-next.result c.in-Some.is i.listed i.each i.next c.in_ok-push.ensures.items (c.next_numbered-next.ensures [] at.0) in
    record { listed = on.0; each = on.1; next = on.2 }

pub returns : goal.returns
returns g c =
    let T = g.T.Walked.shown c.args.trie.now in
    let i = c.loop-next.invariant in
    record {
      same = listed_all T (walk (tree_of T)) c.loop-next.places.items c.loop-next.next i.listed c.in_default.is;
      each = i.each;
    }
