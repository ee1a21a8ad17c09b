-- How few slots a dictionary has that was made of some entries by updates.
use Rattle.std.proofs.Common.{◌≡◌, ◌∙◌, ◌-◌, ◌/◌, zero, inl, inr, ℕ, suc, ◌+◌, ◌*◌, ◌≤◌, ◌++◌, Bool, true, false, cond, ℤ, List, [], ◌∷◌, length, length-append, map, Option, None, ap, arith, refl}
use Rattle.std.specs.Prelude.{◌==◌, is_some, nat_lt}
use Rattle.std.proofs.lemmas.List.{length-map}
use Rattle.cedar_tree.specs.Tree.{child, Forest, has_label, insert_ascending, none, number_at, put, replace, subtree, Tree}
use Rattle.cedar_tree.specs.Queries.{own_entry, prefixes, under, walk, walk_forest}
use Rattle.cedar_tree.proofs.EntryLemmas.Counts.{length-walk-put}
use Rattle.cedar_tree.proofs.EntryLemmas.Prefixes.{length-prefixes-put}
use Rattle.cedar_model.specs.Edit.Packing.{joins}
use Rattle.cedar_model.specs.Meaning.StandsFor.{labels}
use Rattle.cedar_model.specs.Table.Layouts.{LayoutKind}
use Rattle.cedarwood.specs.Dictionary.{capacity_after, Dictionary, first_bytes, IsMarked, with_some}
use Rattle.cedarwood.specs.Shrinking.{IsCompact, IsRebuilt, most_capacity}
use Rattle.cedarwood.specs.Updates.{PacksUpdate}
use Rattle.cedarwood.proofs.GrowthLemmas.{capacity_after-sum, no_less}

-- ---- how many first bytes a put adds

labels_replaced : (f : Forest) (l : ℕ) (t : Tree) → length (labels (replace f l t)) ≡ length (labels f)
labels_replaced none l t = refl
labels_replaced (child m n u rest) l t = by_test (labels_replaced rest l t) (m == l)
  where
    by_test : length (labels (replace rest l t)) ≡ length (labels rest) → (b : Bool) → length (labels (cond b (child m t.number t.children rest) (child m n u (replace rest l t)))) ≡ suc (length (labels rest))
    by_test below true = refl
    by_test below false = ap suc below

labels_inserted : (f : Forest) (l : ℕ) (t : Tree) → length (labels (insert_ascending f l t)) ≡ suc (length (labels f))
labels_inserted none l t = refl
labels_inserted (child m n u rest) l t = by_test (labels_inserted rest l t) (nat_lt l m)
  where
    by_test : length (labels (insert_ascending rest l t)) ≡ suc (length (labels rest)) → (b : Bool) → length (labels (cond b (child l t.number t.children (child m n u rest)) (child m n u (insert_ascending rest l t)))) ≡ suc (suc (length (labels rest)))
    by_test below true = refl
    by_test below false = ap suc below

-- at most one, and none where another key has the first byte
first_put : (t : Tree) (o : Bool) (key : List ℕ) (v : ℤ) → length (labels (put t o key v).children) + joins t key ≤ length (labels t.children) + 1
first_put t o [] v = omega arith
first_put t o (b ∷ q) v = by_test (has_label t.children b)
  where
    below : Tree
    below = put (subtree t.children b) o q v

    by_order : (x : Bool) → length (labels (cond x (insert_ascending t.children b below) (child b below.number below.children t.children))) + 0 ≤ length (labels t.children) + 1
    by_order true = omega (arith, labels_inserted t.children b below)
    by_order false = omega arith

    by_test : (x : Bool) → length (labels (cond x (replace t.children b below) (cond o (insert_ascending t.children b below) (child b below.number below.children t.children)))) + cond x 1 0 ≤ length (labels t.children) + 1
    by_test true = omega (arith, labels_replaced t.children b below)
    by_test false = by_order o

-- ---- how many numbers have slots of their own

fewer_own : (b : Bool) (n : Option ℤ) → length (own_entry (cond b n None)) ≤ length (own_entry n)
fewer_own true n = omega arith
fewer_own false n = omega arith

some_fewer : (test : List ℕ → Bool) (f : Forest) → length (walk_forest (with_some test f)) ≤ length (walk_forest f)
some_fewer test none = omega arith
some_fewer test (child l n u rest) =
    let m : Option ℤ = cond (test (l ∷ [])) n None in
    let v : Forest = with_some (λ path. test (l ∷ path)) u in
    omega (
      arith,
      fewer_own (test (l ∷ [])) n,
      some_fewer (λ path. test (l ∷ path)) u,
      some_fewer test rest,
      length-append (map (under l) (own_entry m ++ walk_forest v)) (walk_forest (with_some test rest)),
      length-append (map (under l) (own_entry n ++ walk_forest u)) (walk_forest rest),
      length-map (own_entry m ++ walk_forest v) (under l),
      length-map (own_entry n ++ walk_forest u) (under l),
      length-append (own_entry m) (walk_forest v),
      length-append (own_entry n) (walk_forest u),
    )

-- no more than there are
marks_few : (d : Dictionary) → IsMarked d → length (walk d.marked) ≤ length (walk d.state.tree)
marks_few d is =
    let same : length (walk d.marked) ≡ length (walk_forest (with_some (λ path. is_some (number_at d.marked path)) d.state.tree.children)) = ap (λ (t : Tree). length (walk t)) is in
    omega (arith, same, some_fewer (λ path. is_some (number_at d.marked path)) d.state.tree.children, length-append (own_entry d.state.tree.number) (walk_forest d.state.tree.children))

-- ---- how many slots there are

capacity_stays : (n s c : ℕ) → c ≤ capacity_after n s c
unfolding capacity_after
capacity_stays zero s c = omega arith
capacity_stays (suc n) s c =
    let here : c ≤ cond (s == c) (2 * c) c = no_less (s == c) c in
    let later : cond (s == c) (2 * c) c ≤ capacity_after n (s + 256) (cond (s == c) (2 * c) c) = capacity_stays n (s + 256) (cond (s == c) (2 * c) c) in
    omega (arith, here, later)

-- more blocks have no fewer slots
capacity_more : (m n : ℕ) → m ≤ n → capacity_after m 256 256 ≤ capacity_after n 256 256
capacity_more m n le =
    let whole : n ≡ m + (n - m) = omega arith in
    let sum : capacity_after n 256 256 ≡ capacity_after (n - m) (256 + 256 * m) (capacity_after m 256 256) = ap (λ k. capacity_after k 256 256) whole ∙ capacity_after-sum m (n - m) 256 256 in
    omega (arith, sum, capacity_stays (n - m) (256 + 256 * m) (capacity_after m 256 256))

pub rebuilt_fits : (layout : LayoutKind) (before made : Dictionary) → IsRebuilt layout before made → made.capacity ≤ most_capacity before.state.tree
rebuilt_fits layout before made is =
    let most : ℕ = (255 + length (prefixes before.state.tree) + 257 * length (walk before.state.tree) - 257 * first_bytes before.state.tree) / 256 in
    let few : is.size.0 ≤ most = omega (arith, is.slots, is.size.2) in
    omega (arith, is.size.3, capacity_more is.size.0 most few)

-- ---- one entry more

at_most_one : (b : Bool) → cond {A = ℕ} b 0 1 ≤ 1
at_most_one true = omega arith
at_most_one false = omega arith

pub compact_more : (n : ℕ) (d d' : Dictionary) (key : List ℕ) (v : ℤ) → IsCompact n d → IsMarked d → IsMarked d' → d'.state.tree ≡ put d.state.tree d.state.ordered key v → PacksUpdate d d' key → IsCompact (suc n) d'
compact_more n d d' key v so_far is is' tree packs = record {
  first = first;
  entries = entries;
  slots = by_case packs;
}
  where
    t : Tree
    t = d.state.tree

    puts : Tree
    puts = put t d.state.ordered key v

    first_grows : first_bytes d'.state.tree + joins t key ≤ first_bytes t + 1
    first_grows = let same : first_bytes d'.state.tree ≡ first_bytes puts = ap first_bytes tree in omega (arith, same, first_put t d.state.ordered key v)

    more : length (prefixes t) ≤ length (prefixes d'.state.tree)
    more = let same : length (prefixes d'.state.tree) ≡ length (prefixes puts) = ap (λ (u : Tree). length (prefixes u)) tree in omega (arith, same, length-prefixes-put t d.state.ordered key v)

    first : first_bytes d'.state.tree ≤ suc n
    first = omega (arith, first_grows, so_far.first)

    entries : length (walk d'.state.tree) ≤ suc n
    entries =
        let same : length (walk d'.state.tree) ≡ length (walk puts) = ap (λ (u : Tree). length (walk u)) tree in
        omega (arith, same, length-walk-put t d.state.ordered key v, at_most_one (is_some (number_at t key)), so_far.entries)

    by_case : PacksUpdate d d' key → d'.size + 257 * first_bytes d'.state.tree ≤ 511 + length (prefixes d'.state.tree) + 257 * suc n
    by_case (inl few) = omega (arith, few, first_grows, more, so_far.slots)
    by_case (inr (inl free)) = omega (arith, free, marks_few d' is', entries, first)
    by_case (inr (inr full)) = omega (arith, full.0, full.1, full.2, first_grows, more, marks_few d is, so_far.entries, so_far.first)
