-- Pairs whose paths ascend, and the tree that they make.
use Rattle.std.proofs.Common.{◌≡◌, ℕ, Less, Equal, Greater, true, false, cond, ℤ, List, [], ◌∷◌, map, Option, Some, None, refl, sym, ap, subst, ◌∙◌, eq-eqb}
use Rattle.std.specs.List.{filter}
use Rattle.std.specs.Cmp.Lexicographic.{slice_cmp}
use Rattle.std.specs.Ordering.{nat_cmp, ordering_reverse}
use Rattle.std.specs.List.Sorted.{IsStrictlySortedBy}
use Rattle.std.proofs.lemmas.Cmp.{nat_list_cmp_total}
use Rattle.std.proofs.lemmas.Map.Lookups.{exact_bytes}
use Rattle.cedar_tree.specs.Tree.{Tree, number_at}
use Rattle.cedar_tree.specs.Queries.{Entry, walk, entry_at, is_path, last_at, asc}
use Rattle.cedar_tree.specs.Laws.{ArePathsAscending, ArePathsKeys, IsTreeOf}
use Rattle.cedar_tree.proofs.OrderLemmas.{one_tree}
use Rattle.cedar_tree.proofs.WalkLemmas.{walk_at, walk_ascends, nat_lt_itself}
use Rattle.cedar_tree.proofs.EntryLemmas.Built.{is_path_itself, same_path, is_sound-asc, ascending-asc, number_at-asc}

abbrev IsBefore : List ℕ → List ℕ → Type 0
IsBefore p q = slice_cmp nat_cmp p q ≡ Less

-- a path is before that of each pair
abbrev AllAfter : List ℕ → List Entry → Type 0
AllAfter p [] = Unit {0}
AllAfter p (e ∷ es) = IsBefore p e.0 × AllAfter p es

-- `ArePathsAscending` by recursion on the pairs
abbrev Rising : List Entry → Type 0
Rising [] = Unit {0}
Rising (e ∷ es) = AllAfter e.0 es × Rising es

all_after : (p : List ℕ) (es : List Entry) → IsStrictlySortedBy (slice_cmp nat_cmp) (p ∷ map (λ e. e.0) es) → AllAfter p es
unfolding IsStrictlySortedBy
all_after p [] s = tt
all_after p (e ∷ es) s = (s.0.0, all_after p es (s.0.1, s.1.1))

rising : (es : List Entry) → ArePathsAscending es → Rising es
unfolding IsStrictlySortedBy
rising [] s = tt
rising (e ∷ es) s = (all_after e.0 es s, rising es s.1)

not_before_itself : (p : List ℕ) → IsBefore p p → ⊥
not_before_itself [] h = cc
not_before_itself (a ∷ p) h = not_before_itself p (rw (nat_lt_itself a, eq-eqb a a refl) at h)

before_apart : (p q : List ℕ) → IsBefore p q → is_path p q ≡ false
before_apart p q h =
    (elim (is_path p q) as (λ b. is_path p q ≡ b → b ≡ false) [
      | true ↦ λ e. absurd (not_before_itself p (subst (IsBefore p) (sym (same_path p q e)) h))
      | false ↦ λ _. refl
    ]) refl

all_after_more : (p q : List ℕ) (es : List Entry) → IsBefore p q → AllAfter q es → AllAfter p es
all_after_more p q [] h a = tt
all_after_more p q (e ∷ es) h a = (nat_list_cmp_total.trans p q e.0 h a.0, all_after_more p q es h a.1)

-- among pairs that come after a path, none has it
filter-after : (p : List ℕ) (es : List Entry) → AllAfter p es → filter (λ e. is_path p e.0) es ≡ []
filter-after p [] a = refl
filter-after p (e ∷ es) a = rw (before_apart p e.0 a.0) (filter-after p es a.1)

last_at-after : (p : List ℕ) (o : Option ℤ) (es : List Entry) → AllAfter p es → last_at p o es ≡ o
last_at-after p o [] a = refl
last_at-after p o (e ∷ es) a = rw (before_apart p e.0 a.0) (last_at-after p o es a.1)

-- of ascending pairs, those with a path are the last one with it
filter-last_at : (k : List ℕ) (es : List Entry) → Rising es → filter (λ e. is_path k e.0) es ≡ entry_at k (last_at k None es)
filter-last_at k [] r = refl
filter-last_at k (e ∷ es) r =
    (elim (is_path k e.0) as (λ b. is_path k e.0 ≡ b → cond b (e ∷ filter (λ x. is_path k x.0) es) (filter (λ x. is_path k x.0) es) ≡ entry_at k (last_at k (cond b (Some e.1) None) es)) [
      | true ↦ λ h.
          let same : k ≡ e.0 = same_path k e.0 h in
          let after : AllAfter k es = rw same r.0 in
          rw (filter-after k es after, last_at-after k (Some e.1) es after) (λ i. (sym same i, e.1) ∷ [])
      | false ↦ λ _. filter-last_at k es r.1
    ]) refl

-- the first of ascending pairs is not among others that all come after it
first_apart : (x : Entry) (xs ys : List Entry) → AllAfter x.0 ys → filter (λ e. is_path x.0 e.0) (x ∷ xs) ≡ filter (λ e. is_path x.0 e.0) ys → ⊥
first_apart x xs ys a same =
    let h : x ∷ filter (λ e. is_path x.0 e.0) xs ≡ [] = (rw (is_path_itself x.0) at same) ∙ filter-after x.0 ys a in cc

-- where the first pairs have one path, they are one, and so are the later pairs with each path
first_same : (x y : Entry) (xs ys : List Entry) → x.0 ≡ y.0 → filter (λ e. is_path x.0 e.0) (x ∷ xs) ≡ filter (λ e. is_path x.0 e.0) (y ∷ ys) → x ≡ y
first_same x y xs ys p same =
    let there : is_path x.0 y.0 ≡ true = rw p (is_path_itself y.0) in
    let h : x ∷ filter (λ e. is_path x.0 e.0) xs ≡ y ∷ filter (λ e. is_path x.0 e.0) ys = rw (is_path_itself x.0, there) at same in cc

later_same : (k : List ℕ) (x y : Entry) (xs ys : List Entry) → x.0 ≡ y.0 → AllAfter x.0 xs → AllAfter y.0 ys
    → filter (λ e. is_path k e.0) (x ∷ xs) ≡ filter (λ e. is_path k e.0) (y ∷ ys) → filter (λ e. is_path k e.0) xs ≡ filter (λ e. is_path k e.0) ys
later_same k x y xs ys p ax ay same =
    (elim (is_path k x.0) as (λ b. is_path k x.0 ≡ b → cond b (x ∷ filter (λ e. is_path k e.0) xs) (filter (λ e. is_path k e.0) xs) ≡ cond (is_path k y.0) (y ∷ filter (λ e. is_path k e.0) ys) (filter (λ e. is_path k e.0) ys)
    → filter (λ e. is_path k e.0) xs ≡ filter (λ e. is_path k e.0) ys) [
      | true ↦ λ h _.
          let at_x : k ≡ x.0 = same_path k x.0 h in
          let after_x : AllAfter k xs = rw at_x ax in
          let after_y : AllAfter k ys = rw (at_x, p) ay in
          filter-after k xs after_x ∙ sym (filter-after k ys after_y)
      | false ↦ λ h less. let apart : is_path k y.0 ≡ false = rw (← p) h in rw apart at less
    ]) refl same

-- ascending pairs that have the same at each path are the same
one_list : (xs ys : List Entry) → Rising xs → Rising ys → ((k : List ℕ) → filter (λ e. is_path k e.0) xs ≡ filter (λ e. is_path k e.0) ys) → xs ≡ ys
one_list [] [] rx ry same = refl
one_list [] (y ∷ ys) rx ry same = let h = rw (is_path_itself y.0) at (same y.0) in cc
one_list (x ∷ xs) [] rx ry same = let h = rw (is_path_itself x.0) at (same x.0) in cc
one_list (x ∷ xs) (y ∷ ys) rx ry same =
    (elim (slice_cmp nat_cmp x.0 y.0) as (λ o. slice_cmp nat_cmp x.0 y.0 ≡ o → ◌≡◌ {A = List Entry} (x ∷ xs) (y ∷ ys)) [
      | Less ↦ λ h. absurd (first_apart x xs (y ∷ ys) (h, all_after_more x.0 y.0 ys h ry.0) (same x.0))
      | Equal ↦ λ h.
          let p : x.0 ≡ y.0 = exact_bytes x.0 y.0 h in
          let first : x ≡ y = first_same x y xs ys p (same x.0) in
          let later : xs ≡ ys = one_list xs ys rx.1 ry.1 (λ k. later_same k x y xs ys p rx.0 ry.0 (same k)) in
          λ i. first i ∷ later i
      | Greater ↦ λ h.
          let less : IsBefore y.0 x.0 = nat_list_cmp_total.antisymm y.0 x.0 ∙ ap ordering_reverse h in
          absurd (first_apart y ys (x ∷ xs) (less, all_after_more y.0 x.0 xs less rx.0) (sym (same y.0)))
    ]) refl

-- the walk of the tree of ascending pairs is the pairs
pub walk-asc : (pairs : List Entry) → ArePathsKeys pairs → ArePathsAscending pairs → walk (asc pairs) ≡ pairs
walk-asc pairs keys order =
    one_list (walk (asc pairs)) pairs (rising (walk (asc pairs)) (walk_ascends (asc pairs) (ascending-asc pairs))) (rising pairs order)
    (λ k. walk_at (asc pairs) k (is_sound-asc pairs keys).1 ∙ ap (entry_at k) (number_at-asc pairs k) ∙ sym (filter-last_at k pairs (rising pairs order)))

-- what is put in ascending order is the tree of the pairs
pub asc_is_tree_of : (pairs : List Entry) → ArePathsKeys pairs → ArePathsAscending pairs → IsTreeOf pairs (asc pairs)
asc_is_tree_of pairs keys order = (is_sound-asc pairs keys, ascending-asc pairs, walk-asc pairs keys order)

abbrev number_of_first : List Entry → Option ℤ
number_of_first [] = None
number_of_first (e ∷ es) = Some e.1

number_of-entry_at : (k : List ℕ) (o : Option ℤ) → number_of_first (entry_at k o) ≡ o
number_of-entry_at k None = refl
number_of-entry_at k (Some v) = refl

one_number : (k : List ℕ) (a b : Option ℤ) → entry_at k a ≡ entry_at k b → a ≡ b
one_number k a b h = sym (number_of-entry_at k a) ∙ ap number_of_first h ∙ number_of-entry_at k b

-- two trees of the same pairs are one
pub one_tree_of : (pairs : List Entry) (t u : Tree) → IsTreeOf pairs t → IsTreeOf pairs u → t ≡ u
one_tree_of pairs t u a b =
    one_tree t u a.0 b.0 a.1 b.1
    (λ k. one_number k (number_at t k) (number_at u k)
    (sym (walk_at t k a.0.1) ∙ ap (filter (λ (e : Entry). is_path k e.0)) (a.2 ∙ sym b.2) ∙ walk_at u k b.0.1))
