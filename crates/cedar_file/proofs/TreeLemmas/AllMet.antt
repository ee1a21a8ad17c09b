-- Where a walk over the nodes has met as many slots as are held, each held slot belongs to a node that it has met.
use Rattle.std.proofs.Common.{◌≡◌, ℕ, zero, suc, ◌+◌, ◌<◌, ◌≤◌, ◌⊎◌, List, [], ◌∷◌, ◌++◌, length, sym, ◌∙◌, ap, refl, subst, inl, inr, arith, Bool, true, false, cond}
use Rattle.std.specs.Prelude.{nat_eq, pos}
use Rattle.std.specs.List.{count_by, range_with_len}
use Rattle.std.proofs.lemmas.Bool.{cases_eq, cond-true, ne_eqb}
use Rattle.cedar_model.specs.Tree.{Forest, none, child}
use Rattle.cedar_model.specs.Table.Cells.{Cells, is_held}
use Rattle.cedar_model.specs.Meaning.Family.{Among, base_of, below, Links}
use Rattle.cedar_model.specs.Meaning.StandsFor.{labels, OnPath, slot_at}
use Rattle.cedar_model.specs.Meaning.Reading.{first_in, has_number_slot}
use Rattle.cedar_slots.specs.Ring.{occurs}
use Rattle.cedar_model.specs.Meaning.WellFormed.{number_slots, slots_below}
use Rattle.cedar_model.proofs.CellsLemmas.PlacesFound.{held-is_held}
use Rattle.cedar_slots.proofs.ListsLemmas.FreeCounts.{count_by-total, total, total-occurs, yes}
use Rattle.cedar_model.proofs.MeaningLemmas.NamedSlots.{ChildrenRead, either_list, first_or_later, in_number, none_of, once_below}
use Rattle.cedar_model.proofs.MeaningLemmas.OneNode.{links_own}
use Rattle.cedar_slots.proofs.RingsLemmas.Ring.{occurs_other, occurs_same}
use Rattle.cedar_model.proofs.MeaningLemmas.ExclusiveOr.{pos_injective, xor_back}
use Rattle.cedar_model.proofs.MeaningLemmas.OneTree.{links_distinct, links_unique, no_zero}

-- ---- sums

total_least : (f g : ℕ → ℕ) (a n : ℕ) → ((s : ℕ) → a ≤ s → s < a + n → f s ≤ g s) → total f a n ≤ total g a n
unfolding total
total_least f g a zero le = omega arith
total_least f g a (suc n) le = omega (arith, le a (omega arith) (omega arith), total_least f g (a + 1) n (λ s low high. le s (omega arith) (omega arith)))

-- two equal sums of which each term of one is at most that of the other
total_each : (f g : ℕ → ℕ) (a n : ℕ) → ((s : ℕ) → a ≤ s → s < a + n → f s ≤ g s) → total f a n ≡ total g a n → (s : ℕ) → a ≤ s → s < a + n → f s ≡ g s
unfolding total
total_each f g a zero le same s low high = absurd (omega arith)
total_each f g a (suc n) le same s low high =
    let later : (x : ℕ) → a + 1 ≤ x → x < a + 1 + n → f x ≤ g x = λ x l h. le x (omega arith) (omega arith) in
    let rest : total f (a + 1) n ≤ total g (a + 1) n = total_least f g (a + 1) n later in
    let first : f a ≤ g a = le a (omega arith) (omega arith) in
    elim (cases_eq s a) [
      | inl here ↦ subst (λ x. f x ≡ g x) (sym here) (omega (arith, same, rest, first))
      | inr other ↦ total_each f g (a + 1) n later (omega (arith, same, rest, first)) s (omega arith) (omega arith)
    ]

-- ---- the owners of slots

-- where the labels of the node at slot s begin
abbrev pub chain_of : Cells → ℕ → ℕ
chain_of T s = cond (nat_eq s 0) (T.sibling 0) (first_in T s)

pub chain_of-node : (T : Cells) (s : ℕ) → (s ≡ 0 → ⊥) → chain_of T s ≡ first_in T s
chain_of-node T s n = ap (λ b. cond b (T.sibling 0) (first_in T s)) (ne_eqb s 0 n)

-- slot x is that of a number or of a label of the node at slot s
abbrev pub IsOf : Cells → ℕ → ℕ → Type 0
IsOf T s x = ((has_number_slot T s ≡ true) × (x ≡ below T s 0)) ⊎ ((ls : List ℕ) × Links T s (chain_of T s) ls × Among ls (below T s x))

-- slot x is of the node at the end of a path, and belongs to it
pub record Listed (T : Cells) (x : ℕ) : Type 0 where
  pub path : List ℕ
  pub on : OnPath T path
  pub owner : T.check x ≡ pos (slot_at T path)
  pub of : IsOf T (slot_at T path) x

module _ (T : Cells) (root : (c : ℕ) → T.check 0 ≡ pos c → ⊥) where
  listed_label : (p : List ℕ) (l x : ℕ) (whole : List ℕ) → OnPath T p → Links T (slot_at T p) (chain_of T (slot_at T p)) whole → Among whole l → T.check (below T (slot_at T p) l) ≡ pos (slot_at T p) → x ≡ below T (slot_at T p) l → Listed T x
  listed_label p l x whole on links a own e =
      let s : ℕ = slot_at T p in
      record {
        path = p;
        on = on;
        owner = ap T.check e ∙ own;
        of = inr (whole, links, subst (Among whole) (sym (ap (below T s) e ∙ xor_back (base_of T s) l)) a);
      }

  listed_number : (p : List ℕ) (x : ℕ) → OnPath T p → 0 < occurs x (number_slots T (slot_at T p)) → has_number_slot T (slot_at T p) ≡ true → Listed T x
  listed_number p x on a has =
      let w = in_number T (slot_at T p) x a in
      record { path = p; on = on; owner = ap T.check w.1 ∙ w.0; of = inl (has, w.1) }

  has_number : (s x : ℕ) → 0 < occurs x (number_slots T s) → has_number_slot T s ≡ true
  has_number s x a = by_test (has_number_slot T s) refl
    where
      by_test : (b : Bool) → has_number_slot T s ≡ b → has_number_slot T s ≡ true
      by_test true e = e
      by_test false e = let none_in : 0 < occurs x [] = subst (λ b. 0 < occurs x (cond b (below T s 0 ∷ []) [])) e a in absurd (omega (arith, none_in))

  -- each slot that is listed below a path belongs to the node at the end of that path or of a longer one
  listed_below : (f : Forest) (p : List ℕ) (x : ℕ) (whole : List ℕ) → OnPath T p → Links T (slot_at T p) (chain_of T (slot_at T p)) whole → ((l : ℕ) → Among (labels f) l → Among whole l) → ChildrenRead T (slot_at T p) f → 0 < occurs x (slots_below T (slot_at T p) f) → Listed T x
  listed_below none p x whole on links sub g a = absurd (omega arith)
  listed_below (child l n u rest) p x whole on links sub g a =
      let s : ℕ = slot_at T p in
      let b : ℕ = below T s l in
      let own : T.check b ≡ pos s = links_own T s _ whole links l (sub l (inl refl)) in
      let not_zero : b ≡ 0 → ⊥ = λ z. root s (ap T.check (sym z) ∙ own) in
      let further : OnPath T (l ∷ p) = ((λ z. no_zero T s _ whole links (subst (Among whole) z (sub l (inl refl)))), own, on) in
      elim (first_or_later x b _ a) [
        | inl e ↦ listed_label p l x whole on links (sub l (inl refl)) own e
        | inr later ↦ elim (either_list x (number_slots T b ++ slots_below T b u) (slots_below T s rest) later) [
          | inl here ↦ elim (either_list x (number_slots T b) (slots_below T b u) here) [
            | inl number ↦ listed_number (l ∷ p) x further number (has_number b x number)
            | inr under ↦ listed_below u (l ∷ p) x (labels u) further (subst (λ c. Links T b c (labels u)) (sym (chain_of-node T b not_zero)) g.0) (λ m k. k) g.1 under
          ]
          | inr beside ↦ listed_below rest p x whole on links (λ m k. sub m (inr k)) g.2 beside
        ]
      ]

-- ---- all that is held

module _ (size : ℕ) (T : Cells) (root : (c : ℕ) → T.check 0 ≡ pos c → ⊥) (active : (q c : ℕ) → T.check q ≡ pos c → q < size) (some : 0 < size) (f : Forest) (links : Links T 0 (T.sibling 0) (labels f)) (g : ChildrenRead T 0 f) (counted : count_by (is_held T) (range_with_len 0 size) ≡ 1 + length (slots_below T 0 f)) where
  listed : (x : ℕ) → 0 < occurs x (slots_below T 0 f) → Listed T x
  listed x a = listed_below T root f [] x (labels f) tt links (λ l k. k) g a

  inside : (s : ℕ) → 0 < occurs s (0 ∷ slots_below T 0 f) → (0 ≤ s) × (s < 0 + size)
  inside s h = elim (first_or_later s 0 (slots_below T 0 f) h) [
    | inl e ↦ (omega arith, omega (arith, e, some))
    | inr a ↦ (omega arith, omega (arith, active s _ (listed s a).owner))
  ]

  root_unlisted : occurs 0 (slots_below T 0 f) ≡ 0
  root_unlisted = none_of _ (λ a. root _ (listed 0 a).owner)

  at_most : (s : ℕ) → occurs s (0 ∷ slots_below T 0 f) ≤ yes (is_held T s)
  at_most s = elim (cases_eq s 0) [
    | inl e ↦
        let is : yes (is_held T s) ≡ 1 = cond-true {A = ℕ} (is_held T s) 1 0 (held-is_held T s (inl e)) in
        let once : occurs s (0 ∷ slots_below T 0 f) ≡ 1 = subst (λ x. occurs x (0 ∷ slots_below T 0 f) ≡ 1) (sym e) (omega (arith, root_unlisted, occurs_same 0 (slots_below T 0 f))) in
        omega (arith, is, once)
    | inr n ↦ by_number (occurs s (slots_below T 0 f)) refl n
  ]
    where
      by_number : (k : ℕ) → occurs s (slots_below T 0 f) ≡ k → (s ≡ 0 → ⊥) → occurs s (0 ∷ slots_below T 0 f) ≤ yes (is_held T s)
      by_number zero e n = omega (arith, e, occurs_other s 0 (slots_below T 0 f) n)
      by_number (suc k) e n =
          let own = (listed s (omega (arith, e))).owner in
          let is : yes (is_held T s) ≡ 1 = cond-true {A = ℕ} (is_held T s) 1 0 (held-is_held T s (inr (_, own))) in
          omega (
            arith,
            is,
            occurs_other s 0 (slots_below T 0 f) n,
            once_below T root f [] s tt (links_distinct T 0 _ (labels f) links) (links_own T 0 _ (labels f) links) g,
          )

  all_counted : total (λ s. occurs s (0 ∷ slots_below T 0 f)) 0 size ≡ total (λ s. yes (is_held T s)) 0 size
  all_counted =
      total-occurs (0 ∷ slots_below T 0 f) 0 size inside ∙ omega (arith, counted, count_by-total (is_held T) 0 size)

  -- each slot with an owner is listed
  pub all_listed : (q c : ℕ) → T.check q ≡ pos c → Listed T q
  all_listed q c o =
      let each : occurs q (0 ∷ slots_below T 0 f) ≡ yes (is_held T q) = total_each (λ s. occurs s (0 ∷ slots_below T 0 f)) (λ s. yes (is_held T s)) 0 size (λ s low high. at_most s) all_counted q (omega arith) (omega (arith, active q c o)) in
      let is : yes (is_held T q) ≡ 1 = cond-true {A = ℕ} (is_held T q) 1 0 (held-is_held T q (inr (c, o))) in
      elim (first_or_later q 0 (slots_below T 0 f) (omega (arith, each, is))) [
        | inl e ↦ absurd (root c (ap T.check (sym e) ∙ o))
        | inr a ↦ listed q a
      ]

  -- and a slot that belongs to s is that of its number or of a label of its chain
  pub owned_of : (s q : ℕ) (ls : List ℕ) → Links T s (chain_of T s) ls → T.check q ≡ pos s → ((has_number_slot T s ≡ true) × (q ≡ below T s 0)) ⊎ Among ls (below T s q)
  owned_of s q ls h o =
      let at = all_listed q s o in
      let same : slot_at T at.path ≡ s = pos_injective _ _ (sym at.owner ∙ o) in
      elim (subst (λ c. IsOf T c q) same at.of) [
        | inl number ↦ inl number
        | inr label ↦ inr (subst (λ xs. Among xs (below T s q)) (links_unique T s _ label.0 ls label.1 h) label.2)
      ]
