-- The tree that is read from a well-formed table's slots is the one that the table represents.
use Rattle.std.proofs.Common.{◌≡◌, ℕ, zero, suc, ◌+◌, ◌<◌, ◌≤◌, List, [], ◌∷◌, length, sym, ◌∙◌, ap, refl, subst, inl, inr, arith, None, cond, true, false, eqb}
use Rattle.std.specs.Prelude.{pos, nat_eq, ◌||◌}
use Rattle.std.specs.List.{IsDistinct, list_any, AllByRecursion}
use Rattle.std.proofs.lemmas.Bool.{cases_eq, false≢true}
use Rattle.std.proofs.lemmas.Bool.Decides.{nat_tests}
use Rattle.std.proofs.lemmas.Map.Steps.{length-le_from_distinct_below}
use Rattle.cedar_tree.specs.Tree.{Forest, none, child}
use Rattle.cedar_model.specs.Table.Cells.{Cells}
use Rattle.cedar_model.specs.Meaning.Family.{below, top, Among, Links}
use Rattle.cedar_model.specs.Meaning.StandsFor.{labels, ChildrenStand, RootStands, slot_at, OnPath, HoldsTree}
use Rattle.cedar_model.specs.Meaning.Reading.{first_in, chain, forest_by, tree_from, tree_read}
use Rattle.cedar_model.proofs.MeaningLemmas.Paths.{one_path}
use Rattle.cedar_model.proofs.MeaningLemmas.OneNode.{labels_own, node_labels_own, DistinctList, links_small}
use Rattle.cedar_model.proofs.MeaningLemmas.OneTree.{node_reads, links_distinct, no_zero}

among_any : (xs : List ℕ) (q : ℕ) → list_any (eqb q) xs ≡ true → Among xs q
among_any [] q e = absurd (false≢true e)
among_any (x ∷ xs) q e = elim (cases_eq x q) [
  | inl same ↦ inl same
  | inr n ↦
      let b : eqb q x ≡ false = grind (arith, nat_tests) in
      inr (among_any xs q (sym (ap (λ t. t || list_any (eqb q) xs) b) ∙ e))
]

all_differ : (x : ℕ) (ys : List ℕ) → (Among ys x → ⊥) → AllByRecursion (λ y. eqb x y ≡ false) ys
all_differ x [] n = tt
all_differ x (y ∷ ys) n = (differs (λ e. n (inl (sym e))), all_differ x ys (λ a. n (inr a)))
  where
    differs : (x ≡ y → ⊥) → eqb x y ≡ false
    differs m = grind (arith, nat_tests)

is_distinct : (ys : List ℕ) → DistinctList ys → IsDistinct eqb ys
unfolding IsDistinct
is_distinct [] h = tt
is_distinct (y ∷ ys) h = (all_differ y ys h.0, is_distinct ys h.1)

-- numbers below n of which none comes twice are at most n
pub short_list : (xs : List ℕ) (n : ℕ) → DistinctList xs → ((q : ℕ) → Among xs q → q < n) → length xs ≤ n
short_list xs n d small = length-le_from_distinct_below xs n (is_distinct xs d) (λ q e. small q (among_any xs q e))

-- a chain has at most 256 labels
pub chain_short : (T : Cells) (s c : ℕ) (ls : List ℕ) → Links T s c ls → length ls ≤ 256
chain_short T s c ls h = short_list ls 256 (links_distinct T s c ls h) (links_small T s c ls h)

chain_zero : (n : ℕ) (T : Cells) (s : ℕ) → chain n T s 0 ≡ []
unfolding chain
chain_zero zero T s = refl
chain_zero (suc n) T s = refl

chain_more : (n : ℕ) (T : Cells) (s c : ℕ) → 0 < c → chain (suc n) T s c ≡ c ∷ chain n T s (T.sibling (below T s c))
unfolding chain
chain_more n T s c h =
    let b : nat_eq c 0 ≡ false = grind (arith, nat_tests) in
    ap (λ t. cond t [] (c ∷ chain n T s (T.sibling (below T s c)))) b

pub chain_is : (n : ℕ) (T : Cells) (s c : ℕ) (ls : List ℕ) → Links T s c ls → length ls ≤ n → chain n T s c ≡ ls
chain_is n T s c [] h k = ap (chain n T s) h ∙ chain_zero n T s
chain_is zero T s c (l ∷ ls) h k = absurd (omega arith)
chain_is (suc n) T s c (l ∷ ls) h k =
    ap (chain (suc n) T s) h.0 ∙ chain_more n T s l h.1 ∙ ap (λ r. l ∷ r) (chain_is n T s (T.sibling (below T s l)) ls h.4 (omega arith))

-- the slots of a path below the root
abbrev slots_on : Cells → List ℕ → List ℕ
slots_on T [] = []
slots_on T (l ∷ p) = slot_at T (l ∷ p) ∷ slots_on T p

-- no path is deeper than this
abbrev IsWithin : ℕ → Forest → Type 0
IsWithin n none = Unit {0}
IsWithin zero (child l m u rest) = ⊥
IsWithin (suc n) (child l m u rest) = IsWithin n u × IsWithin (suc n) rest

module _ (size : ℕ) (T : Cells) (root : (c : ℕ) → T.check 0 ≡ pos c → ⊥) (active : (q c : ℕ) → T.check q ≡ pos c → q < size) where
  some_front : (p : List ℕ) (x : ℕ) → OnPath T p → Among (slots_on T p) x → (r : List ℕ) × OnPath T r × (slot_at T r ≡ x) × (length r ≤ length p)
  some_front [] x h a = absurd a
  some_front (l ∷ p) x h (inl e) = (l ∷ p, h, e, omega arith)
  some_front (l ∷ p) x h (inr a) = let w = some_front p x h.2 a in (w.0, w.1, w.2, omega (arith, w.3))

  all_apart : (p : List ℕ) → OnPath T p → DistinctList (slots_on T p)
  all_apart [] h = tt
  all_apart (l ∷ p) h = (
    (λ a. let w = some_front p _ h.2 a in
        let same : w.0 ≡ l ∷ p = one_path T root w.0 (l ∷ p) w.1 h w.2 in
        absurd (omega (arith, w.3, ap length same))),
    all_apart p h.2,
  )

  all_active : (p : List ℕ) → OnPath T p → (q : ℕ) → Among (slots_on T p) q → q < size
  all_active [] h q a = absurd a
  all_active (l ∷ p) h q (inl e) = subst (λ x. x < size) e (active _ _ h.1)
  all_active (l ∷ p) h q (inr a) = all_active p h.2 q a

  slots_length : (p : List ℕ) → length (slots_on T p) ≡ length p
  slots_length [] = refl
  slots_length (l ∷ p) = ap suc (slots_length p)

  pub path_short : (p : List ℕ) → OnPath T p → length p ≤ size
  path_short p h = subst (λ n. n ≤ size) (slots_length p) (short_list (slots_on T p) size (all_apart p h) (all_active p h))

  within : (f : Forest) (n : ℕ) (q : List ℕ) → OnPath T q → ((l : ℕ) → Among (labels f) l → (l ≡ 0 → ⊥) × (T.check (slot_at T (l ∷ q)) ≡ pos (slot_at T q))) → ChildrenStand size T (slot_at T q) f → length q + n ≡ size → IsWithin n f
  within none n q h mine g e = tt
  within (child l m u rest) zero q h mine g e =
      let w = mine l (inl refl) in
      let k : length (l ∷ q) ≤ size = path_short (l ∷ q) (w.0, w.1, h) in
      absurd (omega (arith, k))
  within (child l m u rest) (suc n) q h mine g e =
      let w = mine l (inl refl) in (
        within u n (l ∷ q) (w.0, w.1, h) (λ x a. (positive x a, node_labels_own size T (slot_at T (l ∷ q)) m (labels u) g.0 x a)) g.1 (omega arith),
        within rest (suc n) q h (λ x a. mine x (inr a)) g.2 e,
      )
    where
      positive : (x : ℕ) → Among (labels u) x → x ≡ 0 → ⊥
      positive x a z =
          let w = mine l (inl refl) in
          let not_zero : slot_at T (l ∷ q) ≡ 0 → ⊥ = λ y. root _ (ap T.check (sym y) ∙ w.1) in
          no_zero T _ _ (labels u) (node_reads size T (slot_at T (l ∷ q)) m (labels u) not_zero g.0).links (subst (Among (labels u)) z a)

  forest_read : (f : Forest) (n s : ℕ) → IsWithin n f → ((l : ℕ) → Among (labels f) l → T.check (below T s l) ≡ pos s) → ChildrenStand size T s f → forest_by (λ l. tree_from n T (below T s l)) (labels f) ≡ f
  unfolding tree_from
  forest_read none n s d mine g = refl
  forest_read (child l m u rest) zero s d mine g = absurd d
  forest_read (child l m u rest) (suc n) s d mine g =
      let x : ℕ = below T s l in
      let not_zero : below T s l ≡ 0 → ⊥ = λ z. root s (ap T.check (sym z) ∙ mine l (inl refl)) in
      let r = node_reads size T (below T s l) m (labels u) not_zero g.0 in
      let these : chain 256 T (below T s l) (first_in T (below T s l)) ≡ labels u = chain_is 256 T _ _ (labels u) r.links (chain_short T _ _ (labels u) r.links) in
      let under : forest_by (λ y. tree_from n T (below T (below T s l) y)) (labels u) ≡ u = forest_read u n (below T s l) d.0 (node_labels_own size T (below T s l) m (labels u) g.0) g.1 in
      let beside : forest_by (λ y. tree_from (suc n) T (below T s y)) (labels rest) ≡ rest = forest_read rest (suc n) s d.1 (λ y a. mine y (inr a)) g.2 in
      ap (λ y. child l y (forest_by (λ y. tree_from n T (below T (below T s l) y)) (chain 256 T (below T s l) (first_in T (below T s l)))) (forest_by (λ y. tree_from (suc n) T (below T s y)) (labels rest))) r.number
      ∙ ap (λ y. child l m (forest_by (λ y. tree_from n T (below T (below T s l) y)) y) (forest_by (λ y. tree_from (suc n) T (below T s y)) (labels rest))) these
      ∙ ap (λ y. child l m y (forest_by (λ y. tree_from (suc n) T (below T s y)) (labels rest))) under
      ∙ ap (λ y. child l m u y) beside

  pub children_read : (f : Forest) → RootStands size T f → (tree_read size T).children ≡ f
  unfolding tree_read
  children_read f st =
      let mine = labels_own T 0 top (labels f) st.0.begins in
      let links : Links T 0 (T.sibling 0) (labels f) = st.0.begins.2 in
      let deep : IsWithin size f = within f size [] tt (λ l a. ((λ z. no_zero T 0 _ (labels f) links (subst (Among (labels f)) z a)), mine l a)) st.1 (omega arith) in
      ap (forest_by (λ l. tree_from size T (below T 0 l))) (chain_is 256 T 0 _ (labels f) links (chain_short T 0 _ (labels f) links))
      ∙ forest_read f size 0 deep mine st.1

-- a table represents the tree that is read from it
pub tree_is : (size : ℕ) (T : Cells) (f : Forest) → ((q c : ℕ) → T.check q ≡ pos c → q < size) → HoldsTree size T f → tree_read size T ≡ record { number = None; children = f }
unfolding tree_read
tree_is size T f active w = ap (λ g. record { number = None; children = g }) (children_read size T w.root active f w.stands)
