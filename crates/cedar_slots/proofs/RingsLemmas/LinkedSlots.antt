-- The nodes after a link, and the ring after a slot was taken out or put in.
use Rattle.std.proofs.Common.{◌≡◌, ℕ, zero, suc, ◌+◌, ◌/◌, ◌<◌, ◌≤ℤ◌, ◌≤◌, List, [], ◌∷◌, ◌++◌, length, set, get_or, length-set, length-append, eqb, cond, not, ◌&&◌, true, false, refl, sym, ap, subst, inl, inr, ◌∙◌, arith, ℤ, pos, negsuc, neg_ℤ, unsigned_abs, int_lt}
use Rattle.std.specs.Prelude.{bit_xor}
use Rattle.std.proofs.lemmas.List.{get_or_default, get_or_read, get_or_past, nil_from_length, get_or-set_same, get_or-set_other}
use Rattle.std.proofs.lemmas.Bool.{ltb-true, cases_eq, cases_lt, cases_Bool, ne_eqb, eq-eqb, eqb-true, and_parts, and_from, and_left, and_right, cond-true, cond-false, false≢true}
use Rattle.std.proofs.lemmas.Int.{ints}
use Rattle.cedar_slots.specs.declared.records.NodeRecord.{NodeRecord}
use Rattle.cedar_slots.specs.declared.records.NInfoRecord.{NInfoRecord}
use Rattle.cedar_slots.specs.Ring.{first_of, occurs, Ring, Relinked}
use Rattle.cedar_slots.specs.Slots.{blank_node, node_record_at, base_at, check_at, set_check, set_base, SlotLink, nodes_after_link, nodes_after_take, taken_between, given_alone, given_between, given_after, SameOutside, is_free, FreeRing, info_at, blank_info}
use Rattle.cedar_slots.proofs.RingsLemmas.Ring.{OneToOne, place_of, Around, around, around_first, Ring-frame, Ring-remove, Ring-insert, Apart, occurs-append, occurs_same, occurs_other}

node_is : (node : NodeRecord) (base check : ℤ) → node.base ≡ base → node.check ≡ check → node ≡ record { base = base; check = check }
node_is node base check p q = rw (← p, ← q) refl

-- the nodes once m was written at a, and then n at b
pub linked_is : (nodes first after : List NodeRecord) (a b : ℕ) (x y m n : NodeRecord) → first ≡ set nodes a m → after ≡ set first b n → a < length nodes → b < length nodes → x ≡ get_or nodes a x → m.base ≡ x.base → m.check ≡ neg_ℤ (pos b) → y ≡ get_or first b y → n.base ≡ neg_ℤ (pos a) → n.check ≡ y.check → after ≡ nodes_after_link nodes a b
unfolding nodes_after_link
linked_is nodes first after a b x y m n first_is after_is a_in b_in p m_base m_check q n_base n_check =
    let p' = get_or_read nodes a x a_in p blank_node in
    let q' = get_or_read first b y (omega (arith, b_in, length-set nodes a m, ap length first_is)) q blank_node in
    let m_is = node_is m x.base (neg_ℤ (pos b)) m_base m_check in
    let n_is = node_is n (neg_ℤ (pos a)) y.check n_base n_check in
    cc

-- ---- numbers behind links

neg_pos_same : (m n : ℕ) → neg_ℤ (pos m) ≡ neg_ℤ (pos n) → m ≡ n
neg_pos_same zero zero h = refl
neg_pos_same zero (suc n) h = absurd (cc)
neg_pos_same (suc m) zero h = absurd (cc)
neg_pos_same (suc m) (suc n) h = cc

pub abs_neg_pos : (n : ℕ) → unsigned_abs (neg_ℤ (pos n)) ≡ n
abs_neg_pos zero = refl
abs_neg_pos (suc n) = refl

pub neg_pos_below : (n : ℕ) → 0 < n → int_lt (neg_ℤ (pos n)) (pos 0) ≡ true
neg_pos_below zero h = absurd (omega arith)
neg_pos_below (suc n) h = refl

-- a link is not above 0
neg_pos_most : (n : ℕ) → neg_ℤ (pos n) ≤ℤ pos 0
neg_pos_most n = omega (arith, ints)

pub SlotLink-fixed : (nodes : List NodeRecord) → OneToOne (SlotLink nodes)
SlotLink-fixed nodes = record {
  next = λ x y z p q. neg_pos_same y z (sym p.0 ∙ q.0);
  prev = λ x y z p q. neg_pos_same x y (sym p.1 ∙ q.1);
}

-- ---- the fields after a write

check-set_check_same : (nodes : List NodeRecord) (a : ℕ) (z : ℤ) → a < length nodes → check_at (set_check nodes a z) a ≡ z
check-set_check_same nodes a z h = ap (λ (n : NodeRecord). n.check) (get_or-set_same nodes a _ blank_node h)

check-set_check_other : (nodes : List NodeRecord) (a : ℕ) (z : ℤ) (s : ℕ) → (s ≡ a → ⊥) → check_at (set_check nodes a z) s ≡ check_at nodes s
check-set_check_other nodes a z s h = ap (λ (n : NodeRecord). n.check) (get_or-set_other nodes a s _ blank_node h)

base-set_check : (nodes : List NodeRecord) (a : ℕ) (z : ℤ) (s : ℕ) → a < length nodes → base_at (set_check nodes a z) s ≡ base_at nodes s
base-set_check nodes a z s h = elim (cases_eq s a) [
  | inl e ↦ rw e (ap (λ (n : NodeRecord). n.base) (get_or-set_same nodes a _ blank_node h))
  | inr e ↦ ap (λ (n : NodeRecord). n.base) (get_or-set_other nodes a s _ blank_node e)
]

base-set_base_same : (nodes : List NodeRecord) (a : ℕ) (z : ℤ) → a < length nodes → base_at (set_base nodes a z) a ≡ z
base-set_base_same nodes a z h = ap (λ (n : NodeRecord). n.base) (get_or-set_same nodes a _ blank_node h)

base-set_base_other : (nodes : List NodeRecord) (a : ℕ) (z : ℤ) (s : ℕ) → (s ≡ a → ⊥) → base_at (set_base nodes a z) s ≡ base_at nodes s
base-set_base_other nodes a z s h = ap (λ (n : NodeRecord). n.base) (get_or-set_other nodes a s _ blank_node h)

check-set_base : (nodes : List NodeRecord) (a : ℕ) (z : ℤ) (s : ℕ) → a < length nodes → check_at (set_base nodes a z) s ≡ check_at nodes s
check-set_base nodes a z s h = elim (cases_eq s a) [
  | inl e ↦ rw e (ap (λ (n : NodeRecord). n.check) (get_or-set_same nodes a _ blank_node h))
  | inr e ↦ ap (λ (n : NodeRecord). n.check) (get_or-set_other nodes a s _ blank_node e)
]

pub length-linked : (nodes : List NodeRecord) (a b : ℕ) → length (nodes_after_link nodes a b) ≡ length nodes
unfolding nodes_after_link
length-linked nodes a b = length-set _ b _ ∙ length-set nodes a _

module _ (nodes : List NodeRecord) (a b : ℕ) (a_in : a < length nodes) (b_in : b < length nodes) where
  b_in' : b < length (set_check nodes a (neg_ℤ (pos b)))
  b_in' = subst (λ n. b < n) (sym (length-set nodes a _)) b_in

  pub check-linked_same : check_at (nodes_after_link nodes a b) a ≡ neg_ℤ (pos b)
  unfolding nodes_after_link
  check-linked_same = check-set_base _ b _ a b_in' ∙ check-set_check_same nodes a _ a_in

  pub check-linked_other : (s : ℕ) → (s ≡ a → ⊥) → check_at (nodes_after_link nodes a b) s ≡ check_at nodes s
  unfolding nodes_after_link
  check-linked_other s h = check-set_base _ b _ s b_in' ∙ check-set_check_other nodes a _ s h

  pub base-linked_same : base_at (nodes_after_link nodes a b) b ≡ neg_ℤ (pos a)
  unfolding nodes_after_link
  base-linked_same = base-set_base_same _ b _ b_in'

  pub base-linked_other : (s : ℕ) → (s ≡ b → ⊥) → base_at (nodes_after_link nodes a b) s ≡ base_at nodes s
  unfolding nodes_after_link
  base-linked_other s h = base-set_base_other _ b _ s h ∙ base-set_check nodes a _ s a_in

  pub Relinked-linked : Relinked (SlotLink nodes) (SlotLink (nodes_after_link nodes a b)) a b
  Relinked-linked = record {
    made = (check-linked_same, base-linked_same);
    kept = λ x y p q h. (check-linked_other x p ∙ h.0, base-linked_other y q ∙ h.1);
  }

  pub free-linked_same : 0 < a → 0 < b → is_free (nodes_after_link nodes a b) a ≡ true
  free-linked_same p q = and_from _ _ (ap not (ne_eqb a 0 (λ e. omega arith))) (ap (λ z. int_lt z (pos 0)) check-linked_same ∙ neg_pos_below b q)

  pub free-linked_other : (s : ℕ) → (s ≡ a → ⊥) → is_free (nodes_after_link nodes a b) s ≡ is_free nodes s
  free-linked_other s h = ap (λ z. not (eqb s 0) && int_lt z (pos 0)) (check-linked_other s h)

-- ---- a slot that is taken from between a and b

module _ (nodes : List NodeRecord) (a b e : ℕ) (node : NodeRecord) (a_in : a < length nodes) (b_in : b < length nodes) (e_in : e < length nodes) where
  e_in' : e < length (nodes_after_link nodes a b)
  e_in' = omega (arith, e_in, length-linked nodes a b)

  pub node-taken_same : node_record_at (taken_between nodes a b e node) e ≡ node
  node-taken_same = get_or-set_same _ e node blank_node e_in'

  node-taken_other : (s : ℕ) → (s ≡ e → ⊥) → node_record_at (taken_between nodes a b e node) s ≡ node_record_at (nodes_after_link nodes a b) s
  node-taken_other s h = get_or-set_other _ e s node blank_node h

  check-taken_other : (s : ℕ) → (s ≡ a → ⊥) → (s ≡ e → ⊥) → check_at (taken_between nodes a b e node) s ≡ check_at nodes s
  check-taken_other s h i = ap (λ (n : NodeRecord). n.check) (node-taken_other s i) ∙ check-linked_other nodes a b a_in b_in s h

  base-taken_other : (s : ℕ) → (s ≡ b → ⊥) → (s ≡ e → ⊥) → base_at (taken_between nodes a b e node) s ≡ base_at nodes s
  base-taken_other s h i = ap (λ (n : NodeRecord). n.base) (node-taken_other s i) ∙ base-linked_other nodes a b a_in b_in s h

  pub free-taken_same : int_lt node.check (pos 0) ≡ false → is_free (taken_between nodes a b e node) e ≡ false
  free-taken_same h = and_right _ _ (ap (λ (n : NodeRecord). int_lt n.check (pos 0)) node-taken_same ∙ h)

  pub free-taken_other : is_free nodes a ≡ true → 0 < a → 0 < b → (s : ℕ) → (s ≡ e → ⊥) → is_free (taken_between nodes a b e node) s ≡ is_free nodes s
  free-taken_other free p q s h = ap (λ (n : NodeRecord). not (eqb s 0) && int_lt n.check (pos 0)) (node-taken_other s h) ∙ elim (cases_eq s a) [
    | inl same ↦ rw same (free-linked_same nodes a b a_in b_in p q ∙ sym free)
    | inr other ↦ free-linked_other nodes a b a_in b_in s other
  ]

  pub Relinked-taken : SlotLink nodes a e → SlotLink nodes e b → (a ≡ e → ⊥) → (b ≡ e → ⊥) → Relinked (SlotLink nodes) (SlotLink (taken_between nodes a b e node)) a b
  Relinked-taken into from a_other b_other = record {
    made = (ap (λ (n : NodeRecord). n.check) (node-taken_other a a_other) ∙ check-linked_same nodes a b a_in b_in, ap (λ (n : NodeRecord). n.base) (node-taken_other b b_other) ∙ base-linked_same nodes a b a_in b_in);
    kept = λ x y p q h. (
      check-taken_other x p (λ same. q ((SlotLink-fixed nodes).next e y b (subst (λ n. SlotLink nodes n y) same h) from)) ∙ h.0,
      base-taken_other y q (λ same. p ((SlotLink-fixed nodes).prev x a e (subst (λ n. SlotLink nodes x n) same h) into)) ∙ h.1,
    );
  }

-- ---- the members of a free ring

pub free_in : (nodes : List NodeRecord) (s : ℕ) → is_free nodes s ≡ true → s < length nodes
free_in nodes s h = elim (cases_lt s (length nodes)) [
  | inl p ↦ p
  | inr p ↦ absurd (false≢true (sym (ap (λ (n : NodeRecord). int_lt n.check (pos 0)) (get_or_past nodes s blank_node p)) ∙ (and_parts _ _ h).1))
]

pub free_positive : (nodes : List NodeRecord) (s : ℕ) → is_free nodes s ≡ true → 0 < s
free_positive nodes zero h = absurd (false≢true h)
free_positive nodes (suc s) h = omega arith

not_above : (z : ℤ) → int_lt z (pos 0) ≡ true → z ≤ℤ pos 0
not_above (pos n) h = absurd (omega (arith, ltb-true n 0 h))
not_above (negsuc n) h = omega (arith, ints)

pub free_link : (nodes : List NodeRecord) (s : ℕ) → is_free nodes s ≡ true → check_at nodes s ≤ℤ pos 0
free_link nodes s h = not_above _ (and_parts _ _ h).1

module _ (nodes : List NodeRecord) (infos : List NInfoRecord) (b : ℕ) (xs : List ℕ) (ring : FreeRing nodes infos b xs) where
  pub member_free : (s : ℕ) → 0 < occurs s xs → (is_free nodes s ≡ true) × (s / 256 ≡ b)
  member_free s h = elim (cases_Bool (is_free nodes s && eqb (s / 256) b)) [
    | inl holds ↦ let r = and_parts _ _ holds in (r.0, eqb-true _ _ r.1)
    | inr fails ↦ absurd (omega (arith, h, ring.once s, cond-false {A = ℕ} (is_free nodes s && eqb (s / 256) b) 1 0 fails))
  ]

  pub free_member : (s : ℕ) → is_free nodes s ≡ true → s / 256 ≡ b → occurs s xs ≡ 1
  free_member s h i = ring.once s ∙ cond-true _ 1 0 (and_from _ _ h (eq-eqb _ _ i))

  pub FreeRing-apart : Apart xs
  FreeRing-apart s = elim (cases_Bool (is_free nodes s && eqb (s / 256) b)) [
    | inl holds ↦ omega (arith, ring.once s, cond-true {A = ℕ} (is_free nodes s && eqb (s / 256) b) 1 0 holds)
    | inr fails ↦ omega (arith, ring.once s, cond-false {A = ℕ} (is_free nodes s && eqb (s / 256) b) 1 0 fails)
  ]

-- what is left of a ring xs once e, which was before next, was taken out
pub record Less (e next : ℕ) (xs ys : List ℕ) : Type 0 where
  pub shorter : length xs ≡ length ys + 1
  pub head_taken : 0 < length ys → first_of xs ≡ e → first_of ys ≡ next
  pub head_kept : (first_of xs ≡ e → ⊥) → first_of ys ≡ first_of xs

less_of : (e next : ℕ) (before after : List ℕ) → Apart (before ++ e ∷ after) → ((y : ℕ) (ys : List ℕ) → after ++ before ≡ y ∷ ys → next ≡ y) → Less e next (before ++ e ∷ after) (before ++ after)
less_of e next [] [] apart first = record { shorter = refl; head_taken = λ p. absurd (omega arith); head_kept = λ p. absurd (p refl) }
less_of e next [] (y ∷ ys) apart first = record { shorter = omega arith; head_taken = λ _ _. sym (first y (ys ++ []) refl); head_kept = λ p. absurd (p refl) }
less_of e next (x ∷ before) after apart first = record {
  shorter = omega (arith, length-append (x ∷ before) (e ∷ after), length-append (x ∷ before) after);
  head_taken = λ p same. absurd (omega (arith, apart e, occurs-append e before (e ∷ after), occurs_same e after, subst (λ n. occurs e (n ∷ before ++ e ∷ after) ≡ 1 + occurs e (before ++ e ∷ after)) (sym same) (occurs_same e (before ++ e ∷ after))));
  head_kept = λ _. refl;
}

-- ---- what a ring says at one of its members

-- the neighbours of the free slot e
pub record Neighbours (nodes : List NodeRecord) (b e last next : ℕ) : Type 0 where
  pub into : SlotLink nodes last e
  pub from : SlotLink nodes e next
  pub last_free : is_free nodes last ≡ true
  pub last_here : last / 256 ≡ b
  pub next_free : is_free nodes next ≡ true
  pub next_here : next / 256 ≡ b

pub last_is : (nodes : List NodeRecord) (b e last next : ℕ) → Neighbours nodes b e last next → unsigned_abs (base_at nodes e) ≡ last
last_is nodes b e last next near = ap unsigned_abs near.into.1 ∙ abs_neg_pos last

pub next_is : (nodes : List NodeRecord) (b e last next : ℕ) → Neighbours nodes b e last next → unsigned_abs (check_at nodes e) ≡ next
next_is nodes b e last next near = ap unsigned_abs near.from.0 ∙ abs_neg_pos next

pub neighbours_of : (nodes : List NodeRecord) (infos : List NInfoRecord) (b : ℕ) (xs : List ℕ) (ring : FreeRing nodes infos b xs) (e : ℕ) (rest : List ℕ) → 0 < occurs e xs → ((s : ℕ) → occurs s (e ∷ rest) ≡ occurs s xs) → (near : Around (SlotLink nodes) e rest) → Neighbours nodes b e near.last near.next
neighbours_of nodes infos b xs ring e rest e_in all near = elim (cases_eq (length rest) 0) [
  | inl none ↦ let alone = near.alone none in let here = member_free nodes infos b xs ring e e_in in
      record {
        into = near.into;
        from = near.from;
        last_free = subst (λ n. is_free nodes n ≡ true) (sym alone.0) here.0;
        last_here = subst (λ n. n / 256 ≡ b) (sym alone.0) here.1;
        next_free = subst (λ n. is_free nodes n ≡ true) (sym alone.1) here.0;
        next_here = subst (λ n. n / 256 ≡ b) (sym alone.1) here.1;
      }
  | inr some ↦ let others = near.others (omega arith) in
      let last = member_free nodes infos b xs ring near.last (omega (arith, all near.last, others.0)) in
      let next = member_free nodes infos b xs ring near.next (omega (arith, all near.next, others.1)) in
      record { into = near.into; from = near.from; last_free = last.0; last_here = last.1; next_free = next.0; next_here = next.1 }
]

-- a ring depends on the slots of its block alone
pub FreeRing-frame : (nodes nodes' : List NodeRecord) (infos infos' : List NInfoRecord) (b : ℕ) (xs : List ℕ) → ((s : ℕ) → s / 256 ≡ b → node_record_at nodes' s ≡ node_record_at nodes s) → ((s : ℕ) → s / 256 ≡ b → info_at infos' s ≡ info_at infos s) → FreeRing nodes infos b xs → FreeRing nodes' infos' b xs
FreeRing-frame nodes nodes' infos infos' b xs same same_infos ring = record {
  once = λ s. elim (cases_eq (s / 256) b) [
    | inl here ↦ ring.once s ∙ ap (λ (n : NodeRecord). cond (not (eqb s 0) && int_lt n.check (pos 0) && eqb (s / 256) b) 1 0) (sym (same s here))
    | inr away ↦ ring.once s ∙ cond-false _ 1 0 (and_right _ _ (ne_eqb _ _ away)) ∙ sym (cond-false _ 1 0 (and_right _ _ (ne_eqb _ _ away)))
  ];
  is_linked = Ring-frame (SlotLink nodes) (SlotLink nodes') xs (λ x y p q h.
      let x_same = same x (member_free nodes infos b xs ring x p).1 in
      let y_same = same y (member_free nodes infos b xs ring y q).1 in
      (ap (λ (n : NodeRecord). n.check) x_same ∙ h.0, ap (λ (n : NodeRecord). n.base) y_same ∙ h.1)) ring.is_linked;
  cleared = λ s p. same_infos s (member_free nodes infos b xs ring s p).1 ∙ ring.cleared s p;
}

-- ---- a slot taken out of its ring

-- what taking e leaves of the ring xs of its block b
pub record RingAfterTake (nodes : List NodeRecord) (infos : List NInfoRecord) (b e : ℕ) (node : NodeRecord) (xs : List ℕ) : Type 0 where
  pub rest : List ℕ
  pub ring : FreeRing (nodes_after_take nodes e node) infos b rest
  pub less : Less e (unsigned_abs (check_at nodes e)) xs rest
  pub last_here : unsigned_abs (base_at nodes e) / 256 ≡ b
  pub next_here : unsigned_abs (check_at nodes e) / 256 ≡ b
  pub to_last : base_at nodes e ≤ℤ pos 0
  pub to_next : check_at nodes e ≤ℤ pos 0
  pub outside : SameOutside b nodes (nodes_after_take nodes e node)
  pub holds : node_record_at (nodes_after_take nodes e node) e ≡ node
  pub now_used : is_free (nodes_after_take nodes e node) e ≡ false
  pub others : (s : ℕ) → (s ≡ e → ⊥) → is_free (nodes_after_take nodes e node) s ≡ is_free nodes s
  pub used_kept : (s : ℕ) → (s ≡ e → ⊥) → is_free nodes s ≡ false → node_record_at (nodes_after_take nodes e node) s ≡ node_record_at nodes s

pub node-linked_other : (nodes : List NodeRecord) (a b s : ℕ) → (s ≡ a → ⊥) → (s ≡ b → ⊥) → node_record_at (nodes_after_link nodes a b) s ≡ node_record_at nodes s
unfolding nodes_after_link
node-linked_other nodes a b s p q = get_or-set_other _ b s _ blank_node q ∙ get_or-set_other nodes a s _ blank_node p

taken_is : (nodes : List NodeRecord) (b e last next : ℕ) (node : NodeRecord) → Neighbours nodes b e last next → nodes_after_take nodes e node ≡ taken_between nodes last next e node
unfolding nodes_after_take
taken_is nodes b e last next node near = ap (λ n. taken_between nodes n (unsigned_abs (check_at nodes e)) e node) (last_is nodes b e last next near) ∙ ap (λ n. taken_between nodes last n e node) (next_is nodes b e last next near)

take_from : (nodes : List NodeRecord) (infos : List NInfoRecord) (b : ℕ) (node : NodeRecord) (e : ℕ) (before after : List ℕ) → FreeRing nodes infos b (before ++ e ∷ after) → int_lt node.check (pos 0) ≡ false → RingAfterTake nodes infos b e node (before ++ e ∷ after)
take_from nodes infos b node e before after ring used =
    let apart = FreeRing-apart nodes infos b (before ++ e ∷ after) ring in
    let all : (s : ℕ) → occurs s (e ∷ after ++ before) ≡ occurs s (before ++ e ∷ after) = λ s. omega (arith, occurs-append s before (e ∷ after), occurs-append s after before) in
    let e_once : 0 < occurs e (before ++ e ∷ after) = omega (arith, all e, occurs_same e (after ++ before)) in
    let here = member_free nodes infos b (before ++ e ∷ after) ring e e_once in
    let near_ring = around (SlotLink nodes) e before after ring.is_linked in
    let last = near_ring.last in
    let next = near_ring.next in
    let near : Neighbours nodes b e last next = neighbours_of nodes infos b (before ++ e ∷ after) ring e (after ++ before) e_once all near_ring in
    let last_in = free_in nodes last near.last_free in
    let next_in = free_in nodes next near.next_free in
    let e_in = free_in nodes e here.0 in
    let is : nodes_after_take nodes e node ≡ taken_between nodes last next e node = taken_is nodes b e last next node near in
    let others : (s : ℕ) → (s ≡ e → ⊥) → is_free (taken_between nodes last next e node) s ≡ is_free nodes s = free-taken_other nodes last next e node last_in next_in e_in near.last_free (free_positive nodes last near.last_free) (free_positive nodes next near.next_free) in
    let now_used : is_free (taken_between nodes last next e node) e ≡ false = free-taken_same nodes last next e node last_in next_in e_in used in
    let kept : (s : ℕ) → (s ≡ last → ⊥) → (s ≡ next → ⊥) → (s ≡ e → ⊥) → node_record_at (taken_between nodes last next e node) s ≡ node_record_at nodes s = λ s p q r. node-taken_other nodes last next e node last_in next_in e_in s r ∙ node-linked_other nodes last next s p q in
    let new_ring : FreeRing (taken_between nodes last next e node) infos b (before ++ after) = record {
      once = λ s. elim (cases_eq s e) [
        | inl same ↦ rw same (let none : occurs e (before ++ after) ≡ 0 = omega (arith, apart e, occurs-append e before (e ∷ after), occurs-append e before after, occurs_same e after) in none ∙ sym (cond-false _ 1 0 (and_left _ _ now_used)))
        | inr other ↦ let kept_count : occurs s (before ++ after) ≡ occurs s (before ++ e ∷ after) = omega (arith, occurs-append s before (e ∷ after), occurs-append s before after, occurs_other s e after other) in
            kept_count ∙ ring.once s ∙ ap (λ t. cond (t && eqb (s / 256) b) 1 0) (sym (others s other))
      ];
      is_linked = elim (cases_eq (length (before ++ after)) 0) [
        | inl none ↦ subst (Ring (SlotLink (taken_between nodes last next e node))) (sym (nil_from_length (before ++ after) none)) tt
        | inr some ↦
            let two = near_ring.others (omega (arith, some, length-append before after, length-append after before)) in
            let e_not : occurs e (after ++ before) ≡ 0 = omega (arith, apart e, all e, occurs_same e (after ++ before)) in
            Ring-remove (SlotLink nodes) (SlotLink-fixed nodes) (SlotLink (taken_between nodes last next e node)) e last next before after (omega arith) apart near.into near.from
            (Relinked-taken nodes last next e node last_in next_in e_in near.into near.from (λ same. absurd (omega (arith, e_not, subst (λ n. 0 < occurs n (after ++ before)) same two.0))) (λ same. absurd (omega (arith, e_not, subst (λ n. 0 < occurs n (after ++ before)) same two.1)))) ring.is_linked
      ];
      cleared = λ s p. ring.cleared s (omega (arith, p, occurs-append s before (e ∷ after), occurs-append s before after));
    } in
    let outside : SameOutside b nodes (taken_between nodes last next e node) = λ s away. kept s (λ same. away (ap (λ n. n / 256) same ∙ near.last_here)) (λ same. away (ap (λ n. n / 256) same ∙ near.next_here)) (λ same. away (ap (λ n. n / 256) same ∙ here.1)) in
    let used_kept : (s : ℕ) → (s ≡ e → ⊥) → is_free nodes s ≡ false → node_record_at (taken_between nodes last next e node) s ≡ node_record_at nodes s = λ s other not_free. kept s (λ same. false≢true (sym not_free ∙ ap (is_free nodes) same ∙ near.last_free)) (λ same. false≢true (sym not_free ∙ ap (is_free nodes) same ∙ near.next_free)) other in
    record {
      rest = before ++ after;
      ring = subst (λ ns. FreeRing ns infos b (before ++ after)) (sym is) new_ring;
      less = subst (λ n. Less e n (before ++ e ∷ after) (before ++ after)) (sym (next_is nodes b e last next near)) (less_of e next before after apart near_ring.first);
      last_here = subst (λ n. n / 256 ≡ b) (sym (last_is nodes b e last next near)) near.last_here;
      next_here = subst (λ n. n / 256 ≡ b) (sym (next_is nodes b e last next near)) near.next_here;
      to_last = subst (λ z. z ≤ℤ pos 0) (sym near.into.1) (neg_pos_most last);
      to_next = subst (λ z. z ≤ℤ pos 0) (sym near.from.0) (neg_pos_most next);
      outside = subst (λ ns. SameOutside b nodes ns) (sym is) outside;
      holds = subst (λ ns. node_record_at ns e ≡ node) (sym is) (node-taken_same nodes last next e node last_in next_in e_in);
      now_used = subst (λ ns. is_free ns e ≡ false) (sym is) now_used;
      others = subst (λ ns. (s : ℕ) → (s ≡ e → ⊥) → is_free ns s ≡ is_free nodes s) (sym is) others;
      used_kept = subst (λ ns. (s : ℕ) → (s ≡ e → ⊥) → is_free nodes s ≡ false → node_record_at ns s ≡ node_record_at nodes s) (sym is) used_kept;
    }

pub FreeRing-taken : (nodes : List NodeRecord) (infos : List NInfoRecord) (b e : ℕ) (node : NodeRecord) (xs : List ℕ) → FreeRing nodes infos b xs → is_free nodes e ≡ true → e / 256 ≡ b → int_lt node.check (pos 0) ≡ false → RingAfterTake nodes infos b e node xs
FreeRing-taken nodes infos b e node xs ring free here used =
    let place = place_of e xs (omega (arith, free_member nodes infos b xs ring e free here)) in
    subst (RingAfterTake nodes infos b e node) (sym place.is) (take_from nodes infos b node e place.before place.after (subst (FreeRing nodes infos b) place.is ring) used)

-- ---- a slot given back to its block

-- what the nodes nodes' keep of nodes, where e of the block b became free
pub record Freed (nodes nodes' : List NodeRecord) (b e : ℕ) : Type 0 where
  pub outside : SameOutside b nodes nodes'
  pub now_free : is_free nodes' e ≡ true
  pub others : (s : ℕ) → (s ≡ e → ⊥) → is_free nodes' s ≡ is_free nodes s
  pub used_kept : (s : ℕ) → (s ≡ e → ⊥) → is_free nodes s ≡ false → node_record_at nodes' s ≡ node_record_at nodes s

-- the ring's members once e is one of them
given_once : (nodes nodes' : List NodeRecord) (infos : List NInfoRecord) (b e : ℕ) (xs ys : List ℕ) → FreeRing nodes infos b xs → Freed nodes nodes' b e → is_free nodes e ≡ false → e / 256 ≡ b → ((s : ℕ) → occurs s ys ≡ occurs s (e ∷ xs)) → (s : ℕ) → occurs s ys ≡ cond (is_free nodes' s && eqb (s / 256) b) 1 0
given_once nodes nodes' infos b e xs ys ring freed used here all s = elim (cases_eq s e) [
  | inl same ↦ rw same (let one : occurs e ys ≡ 1 = omega (arith, all e, occurs_same e xs, ring.once e, cond-false {A = ℕ} (is_free nodes e && eqb (e / 256) b) 1 0 (and_left _ _ used)) in one ∙ sym (cond-true _ 1 0 (and_from _ _ freed.now_free (eq-eqb _ _ here))))
  | inr other ↦ let kept_count : occurs s ys ≡ occurs s xs = omega (arith, all s, occurs_other s e xs other) in
      kept_count ∙ ring.once s ∙ ap (λ t. cond (t && eqb (s / 256) b) 1 0) (sym (freed.others s other))
]

given_cleared : (nodes : List NodeRecord) (infos : List NInfoRecord) (b e : ℕ) (xs ys : List ℕ) → FreeRing nodes infos b xs → e < length infos → ((s : ℕ) → occurs s ys ≡ occurs s (e ∷ xs)) → (s : ℕ) → 0 < occurs s ys → info_at (set infos e blank_info) s ≡ blank_info
given_cleared nodes infos b e xs ys ring e_in all s p = elim (cases_eq s e) [
  | inl same ↦ rw same (get_or-set_same infos e _ blank_info e_in)
  | inr other ↦ get_or-set_other infos e s _ blank_info other ∙ ring.cleared s (omega (arith, p, all s, occurs_other s e xs other))
]

module _ (nodes : List NodeRecord) (infos : List NInfoRecord) (b e : ℕ) (e_positive : 0 < e) (e_in : e < length nodes) (e_in_infos : e < length infos) (here : e / 256 ≡ b) (used : is_free nodes e ≡ false) where
  pub Freed-given_alone : Freed nodes (given_alone nodes e) b e
  unfolding given_alone
  Freed-given_alone = record {
    outside = λ s away. node-linked_other nodes e e s (λ same. away (ap (λ n. n / 256) same ∙ here)) (λ same. away (ap (λ n. n / 256) same ∙ here));
    now_free = free-linked_same nodes e e e_in e_in e_positive e_positive;
    others = λ s other. free-linked_other nodes e e e_in e_in s other;
    used_kept = λ s other _. node-linked_other nodes e e s other other;
  }

  pub FreeRing-given_alone : FreeRing nodes infos b [] → FreeRing (given_alone nodes e) (set infos e blank_info) b (e ∷ [])
  unfolding given_alone
  FreeRing-given_alone ring = record {
    once = given_once nodes (nodes_after_link nodes e e) infos b e [] (e ∷ []) ring Freed-given_alone used here (λ s. refl);
    is_linked = (check-linked_same nodes e e e_in e_in, base-linked_same nodes e e e_in e_in);
    cleared = given_cleared nodes infos b e [] (e ∷ []) ring e_in_infos (λ s. refl);
  }

  module _ (h : ℕ) (ys : List ℕ) (ring : FreeRing nodes infos b (h ∷ ys)) where
    near_ring : Around (SlotLink nodes) h ys
    near_ring = around_first (SlotLink nodes) h ys ring.is_linked

    near : Neighbours nodes b h near_ring.last near_ring.next
    near = neighbours_of nodes infos b (h ∷ ys) ring h ys (omega (arith, occurs_same h ys)) (λ s. refl) near_ring

    head_free : (is_free nodes h ≡ true) × (h / 256 ≡ b)
    head_free = member_free nodes infos b (h ∷ ys) ring h (omega (arith, occurs_same h ys))

    given_after_in : (h < length nodes) × (unsigned_abs (check_at nodes h) < length nodes)
    given_after_in = (free_in nodes h head_free.0, subst (λ n. n < length nodes) (sym (next_is nodes b h _ _ near)) (free_in nodes _ near.next_free))

    pub given_after_here : (h / 256 ≡ b) × (unsigned_abs (check_at nodes h) / 256 ≡ b)
    given_after_here = (head_free.1, subst (λ n. n / 256 ≡ b) (sym (next_is nodes b h _ _ near)) near.next_here)

    given_is : given_after nodes h e ≡ given_between nodes h near_ring.next e
    unfolding given_after
    given_is = ap (λ n. given_between nodes h n e) (next_is nodes b h _ _ near)

    Freed-given_between : Freed nodes (given_between nodes h near_ring.next e) b e
    Freed-given_between =
        let next = near_ring.next in
        let h_in = given_after_in.0 in
        let next_in = free_in nodes next near.next_free in
        let nodes' = nodes_after_link nodes h e in
        let e_in' : e < length nodes' = omega (arith, length-linked nodes h e) in
        let next_in' : next < length nodes' = omega (arith, length-linked nodes h e, next_in) in
        let kept : (s : ℕ) → (s ≡ h → ⊥) → (s ≡ e → ⊥) → (s ≡ next → ⊥) → node_record_at (nodes_after_link nodes' e next) s ≡ node_record_at nodes s = λ s p q r. node-linked_other nodes' e next s q r ∙ node-linked_other nodes h e s p q in
        record {
          outside = λ s away. kept s (λ same. away (ap (λ n. n / 256) same ∙ head_free.1)) (λ same. away (ap (λ n. n / 256) same ∙ here)) (λ same. away (ap (λ n. n / 256) same ∙ near.next_here));
          now_free = free-linked_same nodes' e next e_in' next_in' e_positive (free_positive nodes next near.next_free);
          others = λ s other. free-linked_other nodes' e next e_in' next_in' s other ∙ elim (cases_eq s h) [
            | inl same ↦ rw same (free-linked_same nodes h e h_in e_in (free_positive nodes h head_free.0) e_positive ∙ sym head_free.0)
            | inr away ↦ free-linked_other nodes h e h_in e_in s away
          ];
          used_kept = λ s other not_free. kept s (λ same. false≢true (sym not_free ∙ ap (is_free nodes) same ∙ head_free.0)) other (λ same. false≢true (sym not_free ∙ ap (is_free nodes) same ∙ near.next_free));
        }

    pub Freed-given_after : Freed nodes (given_after nodes h e) b e
    Freed-given_after = subst (λ ns. Freed nodes ns b e) (sym given_is) Freed-given_between

    pub FreeRing-given_after : FreeRing (given_after nodes h e) (set infos e blank_info) b (h ∷ e ∷ ys)
    FreeRing-given_after =
        let next = near_ring.next in
        let nodes' = nodes_after_link nodes h e in
        let next_in' : next < length nodes' = omega (arith, length-linked nodes h e, free_in nodes next near.next_free) in
        let e_in' : e < length nodes' = omega (arith, length-linked nodes h e) in
        let none : occurs e (h ∷ ys) ≡ 0 = ring.once e ∙ cond-false _ 1 0 (and_left _ _ used) in
        let all : (s : ℕ) → occurs s (h ∷ e ∷ ys) ≡ occurs s (e ∷ h ∷ ys) = λ s. omega arith in
        let new_ring : FreeRing (given_between nodes h next e) (set infos e blank_info) b (h ∷ e ∷ ys) = record {
          once = given_once nodes (given_between nodes h next e) infos b e (h ∷ ys) (h ∷ e ∷ ys) ring Freed-given_between used here all;
          is_linked = Ring-insert (SlotLink nodes) (SlotLink-fixed nodes) (SlotLink (given_between nodes h next e)) (SlotLink nodes') e h next ys (FreeRing-apart nodes infos b (h ∷ ys) ring) none near_ring.from (Relinked-linked nodes h e given_after_in.0 e_in) (Relinked-linked nodes' e next e_in' next_in') ring.is_linked;
          cleared = given_cleared nodes infos b e (h ∷ ys) (h ∷ e ∷ ys) ring e_in_infos all;
        } in
        subst (λ ns. FreeRing ns (set infos e blank_info) b (h ∷ e ∷ ys)) (sym given_is) new_ring

-- ---- the slots of a block, linked one after another

pub steps_more : (nodes after : List NodeRecord) (first slot : ℕ) → after ≡ nodes_after_link nodes slot (slot + 1) → slot + 1 < length nodes → ((s : ℕ) → first ≤ s → s < slot → SlotLink nodes s (s + 1)) → (s : ℕ) → first ≤ s → s < slot + 1 → SlotLink after s (s + 1)
steps_more nodes after first slot is slot_in steps s low high =
    let step = Relinked-linked nodes slot (slot + 1) (omega arith) slot_in in
    subst (λ ns. SlotLink ns s (s + 1)) (sym is) (elim (cases_eq s slot) [
      | inl same ↦ subst (λ n. SlotLink (nodes_after_link nodes slot (slot + 1)) n (n + 1)) (sym same) step.made
      | inr other ↦ step.kept s (s + 1) other (λ same. other (omega arith)) (steps s low (omega arith))
    ])

pub steps_kept : (nodes after : List NodeRecord) (first last : ℕ) → after ≡ nodes_after_link nodes last first → first < length nodes → last < length nodes → ((s : ℕ) → first ≤ s → s < last → SlotLink nodes s (s + 1)) → (s : ℕ) → first ≤ s → s < last → SlotLink after s (s + 1)
steps_kept nodes after first last is first_in last_in steps s low high =
    subst (λ ns. SlotLink ns s (s + 1)) (sym is) ((Relinked-linked nodes last first last_in first_in).kept s (s + 1) (λ same. absurd (omega arith)) (λ same. absurd (omega arith)) (steps s low high))

pub all_free_more : (nodes : List NodeRecord) (base : ℕ) (labels : List ℕ) (i label : ℕ) → i < length labels → label ≡ get_or labels i 0 → is_free nodes (bit_xor base label) ≡ true → ((k d : ℕ) → k < i → is_free nodes (bit_xor base (get_or labels k d)) ≡ true) → (k d : ℕ) → k < i + 1 → is_free nodes (bit_xor base (get_or labels k d)) ≡ true
all_free_more nodes base labels i label i_in read free sofar k d h = elim (cases_eq k i) [
  | inl same ↦ let at : label ≡ get_or labels k d = rw same (read ∙ get_or_default labels i 0 d i_in) in subst (λ l. is_free nodes (bit_xor base l) ≡ true) at free
  | inr other ↦ sofar k d (omega arith)
]
