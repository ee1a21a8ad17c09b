-- A walk over the nodes of a table that comes back to the root has read a tree.
use Rattle.std.proofs.Common.{◌≡◌, ℕ, zero, suc, ◌+◌, ◌<◌, ◌≤◌, List, [], ◌∷◌, ◌++◌, length, length-append, map, sym, ◌∙◌, ap, refl, subst, inl, inr, arith, Bool, true, false, cond, Option, Some, None, is_some, ℤ}
use Rattle.std.specs.Prelude.{pos}
use Rattle.std.proofs.lemmas.Bool.{cases_eq}
use Rattle.std.proofs.lemmas.List.{length-map}
use Rattle.cedar_model.specs.Tree.{AllAbove, Forest, none, child}
use Rattle.cedar_model.specs.Queries.{own_entry, under, walk_forest}
use Rattle.cedar_model.specs.Table.Cells.{Cells}
use Rattle.cedar_file.specs.TreeWalk.{ComesBack, GoesDown, LooksLikeNode, number_count_at, slots_at, walk_at, walk_start}
use Rattle.cedar_model.specs.Meaning.Family.{base_of, below, Links}
use Rattle.cedar_model.specs.Meaning.StandsFor.{labels}
use Rattle.cedar_model.specs.Meaning.Reading.{first_in, has_number_slot, number_in}
use Rattle.cedar_model.specs.Meaning.WellFormed.{number_slots, slots_below}
use Rattle.cedar_model.proofs.MeaningLemmas.ExclusiveOr.{pos_injective, xor_back}
use Rattle.cedar_model.proofs.OrderLemmas.{all_above_more}

-- ---- what a node adds to the counts

number_slots-length : (T : Cells) (s : ℕ) → length (number_slots T s) ≡ cond (has_number_slot T s) 1 0
number_slots-length T s = by_test (has_number_slot T s)
  where
    by_test : (b : Bool) → length (cond {A = List ℕ} b (below T s 0 ∷ []) []) ≡ cond b 1 0
    by_test true = refl
    by_test false = refl

own_entry-length : (n : Option ℤ) → length (own_entry n) ≡ cond (is_some n) 1 0
own_entry-length None = refl
own_entry-length (Some v) = refl

pub slots-more : (T : Cells) (s l : ℕ) (n : Option ℤ) (u rest : Forest) → length (slots_below T s (child l n u rest)) ≡ slots_at T (below T s l) + length (slots_below T (below T s l) u) + length (slots_below T s rest)
slots-more T s l n u rest =
    let b : ℕ = below T s l in
    omega (
      arith,
      number_slots-length T b,
      length-append (number_slots T b ++ slots_below T b u) (slots_below T s rest),
      length-append (number_slots T b) (slots_below T b u),
    )

pub numbers-more : (T : Cells) (b l : ℕ) (n : Option ℤ) (u rest : Forest) → number_in T b ≡ n → length (walk_forest (child l n u rest)) ≡ number_count_at T b + length (walk_forest u) + length (walk_forest rest)
numbers-more T b l n u rest e =
    let own : number_count_at T b ≡ length (own_entry n) = ap (λ m. cond (is_some m) 1 0) e ∙ sym (own_entry-length n) in
    omega (
      arith,
      own,
      length-append (map (under l) (own_entry n ++ walk_forest u)) (walk_forest rest),
      length-map (own_entry n ++ walk_forest u) (under l),
      length-append (own_entry n) (walk_forest u),
    )

-- ---- what the walk has read

-- the children that f lists were met below slot s, each with all that is below it
abbrev pub Met : ℕ → Bool → Cells → ℕ → Forest → Type 0
Met size ordered T s none = Unit {0}
Met size ordered T s (child l n u rest) =
    LooksLikeNode size T (below T s l) × (number_in T (below T s l) ≡ n) × Links T (below T s l) (first_in T (below T s l)) (labels u)
    × (ordered ≡ true → AllAbove l rest) × Met size ordered T (below T s l) u × Met size ordered T s rest

-- from label c on a walk has met the children of slot s that a forest lists, and then goes on from slot s
record ReadOn (n size : ℕ) (ordered : Bool) (T : Cells) (s c met numbers m e : ℕ) : Type 0 where
  forest : Forest
  turns : ℕ
  fewer : turns ≤ n
  links : Links T s c (labels forest)
  tree : Met size ordered T s forest
  back : ComesBack turns size ordered T (walk_at T s 0 (met + length (slots_below T s forest)) (numbers + length (walk_forest forest))) m e

-- a walk at the end of a chain below slot b, that belongs to slot s, goes up to s
record LeftOff (n size : ℕ) (ordered : Bool) (T : Cells) (b s met numbers m e : ℕ) : Type 0 where
  turns : ℕ
  fewer : turns < n
  ascends : ordered ≡ true → 0 < T.sibling b → below T s b < T.sibling b
  on : ComesBack turns size ordered T (walk_at T s (T.sibling b) met numbers) m e

-- the tree that a whole walk has read, and how many slots and numbers it has met
pub record ReadTree (size : ℕ) (ordered : Bool) (T : Cells) (m e : ℕ) : Type 0 where
  pub forest : Forest
  pub links : Links T 0 (T.sibling 0) (labels forest)
  pub tree : Met size ordered T 0 forest
  pub met : m ≡ 1 + length (slots_below T 0 forest)
  pub numbers : e ≡ length (walk_forest forest)

pub same_counts : (n size : ℕ) (ordered : Bool) (T : Cells) (s c met met' numbers numbers' m e : ℕ) → met ≡ met' → numbers ≡ numbers' → ComesBack n size ordered T (walk_at T s c met numbers) m e → ComesBack n size ordered T (walk_at T s c met' numbers') m e
same_counts n size ordered T s c met met' numbers numbers' m e p q h =
    subst (λ y. ComesBack n size ordered T (walk_at T s c met' y) m e) q (subst (λ x. ComesBack n size ordered T (walk_at T s c x numbers) m e) p h)

module _ (size : ℕ) (ordered : Bool) (T : Cells) (root : (c : ℕ) → T.check 0 ≡ pos c → ⊥) where
  -- the labels of a chain ascend if each is below the next
  chain_above : (s l x : ℕ) (f : Forest) → ordered ≡ true → Links T s x (labels f) → (0 < x → l < x) → Met size ordered T s f → AllAbove l f
  chain_above s l x none o h next met = tt
  chain_above s l x (child m n u rest) o h next met =
      let first : l < m = omega (arith, h.0, next (omega (arith, h.0, h.1))) in
      (first, all_above_more l m rest first (met.3 o))

  left_off : (n b s met numbers m e : ℕ) → (b ≡ 0 → ⊥) → T.check b ≡ pos s → ComesBack n size ordered T (walk_at T b 0 met numbers) m e → LeftOff n size ordered T b s met numbers m e
  unfolding ComesBack
  left_off zero b s met numbers m e z o h = absurd h
  left_off (suc n) b s met numbers m e z o (inl back) = absurd (z back.root)
  left_off (suc n) b s met numbers m e z o (inr (next, inl down, h)) = absurd (omega (arith, down.0.positive))
  left_off (suc n) b s met numbers m e z o (inr (next, inr up, h)) =
      let same : up.0 ≡ s = pos_injective _ _ (sym up.1.owner ∙ o) in
      record {
        turns = n;
        fewer = omega arith;
        ascends = subst (λ y. ordered ≡ true → 0 < T.sibling b → below T y b < T.sibling b) same up.1.ascends;
        on = subst (λ y. ComesBack n size ordered T (walk_at T y (T.sibling b) met numbers) m e) same (subst (λ w. ComesBack n size ordered T w m e) up.2 h);
      }

  read_none : (n s c met numbers m e : ℕ) → c ≡ 0 → ComesBack n size ordered T (walk_at T s c met numbers) m e → ReadOn n size ordered T s c met numbers m e
  read_none n s c met numbers m e z h = record {
    forest = none;
    turns = n;
    fewer = omega arith;
    links = z;
    tree = tt;
    back = same_counts n size ordered T s 0 met (met + 0) numbers (numbers + 0) m e (omega arith) (omega arith) (subst (λ y. ComesBack n size ordered T (walk_at T s y met numbers) m e) z h);
  }

  read_child : (n k s c met numbers m e : ℕ) → GoesDown size T (walk_at T s c met numbers) → (under : ReadOn n size ordered T (below T s c) (first_in T (below T s c)) (met + slots_at T (below T s c)) (numbers + number_count_at T (below T s c)) m e)
      → (off : LeftOff under.turns size ordered T (below T s c) s (met + slots_at T (below T s c) + length (slots_below T (below T s c) under.forest)) (numbers + number_count_at T (below T s c) + length (walk_forest under.forest)) m e)
      → ReadOn off.turns size ordered T s (T.sibling (below T s c)) (met + slots_at T (below T s c) + length (slots_below T (below T s c) under.forest)) (numbers + number_count_at T (below T s c) + length (walk_forest under.forest)) m e
      → n ≤ k → ReadOn k size ordered T s c met numbers m e
  read_child n k s c met numbers m e down under off behind le =
      let b : ℕ = below T s c in
      let slots = slots-more T s c (number_in T b) under.forest behind.forest in
      let entries = numbers-more T b c (number_in T b) under.forest behind.forest refl in
      record {
        forest = child c (number_in T b) under.forest behind.forest;
        turns = behind.turns;
        fewer = omega (arith, under.fewer, off.fewer, behind.fewer, le);
        links = (refl, down.positive, down.small, down.owned, behind.links);
        tree = (
          down.looks,
          refl,
          under.links,
          (λ o. chain_above s c (T.sibling b) behind.forest o behind.links (λ p. subst (λ y. y < T.sibling b) (xor_back (base_of T s) c) (off.ascends o p)) behind.tree),
          under.tree,
          behind.tree,
        );
        back = same_counts behind.turns size ordered T s 0 _ _ _ _ m e (omega (arith, slots)) (omega (arith, entries)) behind.back;
      }

  read_on : (bound n s c met numbers m e : ℕ) → n ≤ bound → ComesBack n size ordered T (walk_at T s c met numbers) m e → ReadOn n size ordered T s c met numbers m e
  unfolding ComesBack
  read_on bound zero s c met numbers m e le h = absurd h
  read_on zero (suc n) s c met numbers m e le h = absurd (omega arith)
  read_on (suc bound) (suc n) s c met numbers m e le h = elim (cases_eq c 0) [
    | inl z ↦ read_none (suc n) s c met numbers m e z h
    | inr z ↦ elim h [
      | inl back ↦ absurd (z back.ended)
      | inr go ↦ elim go.1 [
        | inl down ↦
            let b : ℕ = below T s c in
            let there : ComesBack n size ordered T (walk_at T b (first_in T b) (met + slots_at T b) (numbers + number_count_at T b)) m e = subst (λ w. ComesBack n size ordered T w m e) down.1 go.2 in
            let not_zero : b ≡ 0 → ⊥ = λ y. root s (ap T.check (sym y) ∙ down.0.owned) in
            let under = read_on bound n b (first_in T b) (met + slots_at T b) (numbers + number_count_at T b) m e (omega arith) there in
            let off = left_off under.turns b s _ _ m e not_zero down.0.owned under.back in
            let behind = read_on bound off.turns s (T.sibling b) _ _ m e (omega (arith, under.fewer, off.fewer)) off.on in
            read_child n (suc n) s c met numbers m e down.0 under off behind (omega arith)
        | inr up ↦ absurd (z up.1.ended)
      ]
    ]
  ]

  back_at_root : (n met numbers m e : ℕ) → ComesBack n size ordered T (walk_at T 0 0 met numbers) m e → (m ≡ met) × (e ≡ numbers)
  unfolding ComesBack
  back_at_root zero met numbers m e h = absurd h
  back_at_root (suc n) met numbers m e (inl back) = (sym back.met, sym back.numbers)
  back_at_root (suc n) met numbers m e (inr (next, inl down, h)) = absurd (omega (arith, down.0.positive))
  back_at_root (suc n) met numbers m e (inr (next, inr up, h)) = absurd (up.1.not_root refl)

  pub tree_walked : (n m e : ℕ) → ComesBack n size ordered T (walk_start T) m e → ReadTree size ordered T m e
  tree_walked n m e h =
      let all = read_on n n 0 (T.sibling 0) 1 0 m e (omega arith) h in
      let end = back_at_root all.turns _ _ m e all.back in
      record {
        forest = all.forest;
        links = all.links;
        tree = all.tree;
        met = end.0;
        numbers = end.1 ∙ omega arith;
      }
