-- The slots that a tree names are just the held ones, each once.
use Rattle.std.proofs.Common.{◌≡◌, ℕ, zero, suc, ◌+◌, ◌<◌, ◌≤◌, ◌⊎◌, List, [], ◌∷◌, ◌++◌, length, drop, append_assoc, length-append, sym, ◌∙◌, ap, refl, subst, inl, inr, arith, Option, ℤ, Bool, cond, true, false}
use Rattle.std.specs.Prelude.{pos}
use Rattle.std.proofs.Math.Seq.{drop-append_seam}
use Rattle.std.proofs.lemmas.Bool.{cases_eq}
use Rattle.std.proofs.lemmas.Bool.Decides.{Decides-int_eq}
use Rattle.cedar_tree.specs.Tree.{Forest, none, child}
use Rattle.cedar_model.specs.Table.Cells.{Cells}
use Rattle.cedar_model.specs.Meaning.Family.{below, base_of, top, Among, Links, Node}
use Rattle.cedar_model.specs.Meaning.StandsFor.{labels, ChildrenStand, slot_at, OnPath, Leads, HoldsTree}
use Rattle.cedar_model.specs.Meaning.Reading.{first_in, has_number_slot}
use Rattle.cedar_slots.specs.Ring.{occurs}
use Rattle.cedar_model.specs.Meaning.WellFormed.{number_slots, slots_below}
use Rattle.cedar_model.proofs.MeaningLemmas.OneNode.{DistinctList, labels_own, links_own, node_labels_own, owned_label}
use Rattle.cedar_model.proofs.MeaningLemmas.Paths.{one_lead}
use Rattle.cedar_slots.proofs.RingsLemmas.Ring.{occurs-append, occurs_same, occurs_other}
use Rattle.cedar_model.proofs.MeaningLemmas.ExclusiveOr.{xor_back}
use Rattle.cedar_model.proofs.MeaningLemmas.OneTree.{family_no_zero, family_distinct, links_distinct, no_zero, node_reads, owns_yes}

-- ---- members of lists

pub first_or_later : (x y : ℕ) (ys : List ℕ) → 0 < occurs x (y ∷ ys) → (x ≡ y) ⊎ (0 < occurs x ys)
first_or_later x y ys h = elim (cases_eq x y) [ inl e ↦ inl e | inr n ↦ inr (omega (arith, h, occurs_other x y ys n)) ]

pub either_list : (x : ℕ) (xs ys : List ℕ) → 0 < occurs x (xs ++ ys) → (0 < occurs x xs) ⊎ (0 < occurs x ys)
either_list x xs ys h = by_first (occurs x xs) refl
  where
    by_first : (n : ℕ) → occurs x xs ≡ n → (0 < occurs x xs) ⊎ (0 < occurs x ys)
    by_first zero e = inr (omega (arith, h, e, occurs-append x xs ys))
    by_first (suc n) e = inl (omega (arith, e))

pub none_of : (n : ℕ) → (0 < n → ⊥) → n ≡ 0
none_of zero never = refl
none_of (suc n) never = absurd (never (omega arith))

-- of three numbers that are 1 at most, two of which are never both above 0
at_most_one : (a b c : ℕ) → a ≤ 1 → b ≤ 1 → c ≤ 1 → (0 < a → 0 < b → ⊥) → (0 < a → 0 < c → ⊥) → (0 < b → 0 < c → ⊥) → a + (b + c) ≤ 1
at_most_one zero zero c a1 b1 c1 ab ac bc = omega arith
at_most_one zero (suc b) c a1 b1 c1 ab ac bc = omega (arith, b1, none_of c (bc (omega arith)))
at_most_one (suc a) b c a1 b1 c1 ab ac bc = omega (arith, a1, none_of b (ab (omega arith)), none_of c (ac (omega arith)))

-- the slot of a number
pub in_number : (T : Cells) (s x : ℕ) → 0 < occurs x (number_slots T s) → (T.check (below T s 0) ≡ pos s) × (x ≡ below T s 0)
in_number T s x h = by_test (has_number_slot T s) refl
  where
    by_test : (b : Bool) → has_number_slot T s ≡ b → (T.check (below T s 0) ≡ pos s) × (x ≡ below T s 0)
    by_test true e = (
      (Decides-int_eq (T.check (below T s 0)) (pos s)).0 e,
      elim (first_or_later x (below T s 0) [] (subst (λ b. 0 < occurs x (cond b (below T s 0 ∷ []) [])) e h)) [ inl same ↦ same | inr more ↦ absurd (omega arith) ],
    )
    by_test false e = let no : 0 < occurs x [] = subst (λ b. 0 < occurs x (cond b (below T s 0 ∷ []) [])) e h in absurd (omega arith)

number_once : (T : Cells) (s x : ℕ) → occurs x (number_slots T s) ≤ 1
number_once T s x = by_test (has_number_slot T s)
  where
    by_test : (b : Bool) → occurs x (cond b (below T s 0 ∷ []) []) ≤ 1
    by_test true = elim (cases_eq x (below T s 0)) [
      | inl e ↦ subst (λ z. occurs z (below T s 0 ∷ []) ≤ 1) (sym e) (omega (arith, occurs_same (below T s 0) []))
      | inr n ↦ omega (arith, occurs_other x (below T s 0) [] n)
    ]
    by_test false = omega arith

-- ---- children whose chains are read

-- the chain of each node below slot s has the labels that f lists; what else the nodes' slots hold, and what else they
-- own, is left open
abbrev pub ChildrenRead : Cells → ℕ → Forest → Type 0
ChildrenRead T s none = Unit {0}
ChildrenRead T s (child l n u rest) = Links T (below T s l) (first_in T (below T s l)) (labels u) × ChildrenRead T (below T s l) u × ChildrenRead T s rest

children_read : (size : ℕ) (T : Cells) → ((c : ℕ) → T.check 0 ≡ pos c → ⊥) → (s : ℕ) (f : Forest) → ((l : ℕ) → Among (labels f) l → T.check (below T s l) ≡ pos s) → ChildrenStand size T s f → ChildrenRead T s f
children_read size T root s none mine g = tt
children_read size T root s (child l n u rest) mine g =
    let not_zero : below T s l ≡ 0 → ⊥ = λ z. root s (ap T.check (sym z) ∙ mine l (inl refl)) in (
      (node_reads size T (below T s l) n (labels u) not_zero g.0).links,
      children_read size T root (below T s l) u (node_labels_own size T (below T s l) n (labels u) g.0) g.1,
      children_read size T root s rest (λ m a. mine m (inr a)) g.2,
    )

-- ---- the slots below a path

-- the slot x lies on a path that goes on from r
abbrev Hangs : Cells → List ℕ → ℕ → Type 0
Hangs T r x = (q : List ℕ) × Leads T (q ++ r) × (slot_at T (q ++ r) ≡ x)

hangs_up : (T : Cells) (m : ℕ) (r : List ℕ) (x : ℕ) → Hangs T (m ∷ r) x → Hangs T r x
hangs_up T m r x a =
    let same : (a.0 ++ (m ∷ [])) ++ r ≡ a.0 ++ (m ∷ r) = append_assoc a.0 (m ∷ []) r in
    (a.0 ++ (m ∷ []), subst (Leads T) (sym same) a.1, ap (slot_at T) same ∙ a.2)

hangs_owned : (T : Cells) (l : ℕ) (r : List ℕ) (x : ℕ) → Hangs T (l ∷ r) x → (c : ℕ) × (T.check x ≡ pos c)
hangs_owned T l r x a = by_front a.0 a.1 a.2
  where
    by_front : (q : List ℕ) → Leads T (q ++ (l ∷ r)) → slot_at T (q ++ (l ∷ r)) ≡ x → (c : ℕ) × (T.check x ≡ pos c)
    by_front [] h e = (slot_at T r, ap T.check (sym e) ∙ h.0)
    by_front (m ∷ q) h e = (slot_at T (q ++ (l ∷ r)), ap T.check (sym e) ∙ h.0)

-- the slot of a label hangs on its own path, and that of the number below it
hangs_here : (T : Cells) (l : ℕ) (p : List ℕ) (x : ℕ) → Leads T (l ∷ p) → x ≡ below T (slot_at T p) l → Hangs T (l ∷ p) x
hangs_here T l p x h e = ([], h, sym e)

hangs_number : (T : Cells) (r : List ℕ) (x : ℕ) → Leads T r → 0 < occurs x (number_slots T (slot_at T r)) → Hangs T (0 ∷ r) x
hangs_number T r x h a = let w = in_number T (slot_at T r) x a in ([], (w.0, h), sym w.1)

module _ (T : Cells) where
  -- each slot below a path hangs on it under one of the labels
  pub hangs : (f : Forest) (p : List ℕ) (x : ℕ) → Leads T p → ((l : ℕ) → Among (labels f) l → T.check (below T (slot_at T p) l) ≡ pos (slot_at T p)) → ChildrenRead T (slot_at T p) f → 0 < occurs x (slots_below T (slot_at T p) f) → (l : ℕ) × Among (labels f) l × Hangs T (l ∷ p) x
  hangs none p x h mine g a = absurd (omega arith)
  hangs (child l n u rest) p x h mine g a =
      let s : ℕ = below T (slot_at T p) l in
      let lead : Leads T (l ∷ p) = (mine l (inl refl), h) in
      elim (first_or_later x s _ a) [
        | inl e ↦ (l, inl refl, hangs_here T l p x lead e)
        | inr b ↦ elim (either_list x (number_slots T s ++ slots_below T s u) (slots_below T (slot_at T p) rest) b) [
          | inl c ↦ elim (either_list x (number_slots T s) (slots_below T s u) c) [
            | inl d ↦ (l, inl refl, hangs_up T 0 (l ∷ p) x (hangs_number T (l ∷ p) x lead d))
            | inr d ↦
                let w = hangs u (l ∷ p) x lead (links_own T s _ (labels u) g.0) g.1 d in
                (l, inl refl, hangs_up T w.0 (l ∷ p) x w.2)
          ]
          | inr c ↦ let w = hangs rest p x h (λ m k. mine m (inr k)) g.2 c in (w.0, inr w.1, w.2)
        ]
      ]

module _ (T : Cells) (root : (c : ℕ) → T.check 0 ≡ pos c → ⊥) where
  -- a slot goes on from one path of a length only
  one_branch : (r s : List ℕ) (x : ℕ) → length r ≡ length s → Hangs T r x → Hangs T s x → r ≡ s
  one_branch r s x len a b =
      let same : a.0 ++ r ≡ b.0 ++ s = one_lead T root (a.0 ++ r) (b.0 ++ s) a.1 b.1 (a.2 ∙ sym b.2) in
      let far : length a.0 ≡ length b.0 = omega (arith, len, ap length same, length-append a.0 r, length-append b.0 s) in
      sym (drop-append_seam a.0 r) ∙ ap (λ n. drop n (a.0 ++ r)) far ∙ ap (drop (length b.0)) same ∙ drop-append_seam b.0 s

  one_label : (l m : ℕ) (p : List ℕ) (x : ℕ) → Hangs T (l ∷ p) x → Hangs T (m ∷ p) x → l ≡ m
  one_label l m p x a b = let same : l ∷ p ≡ m ∷ p = one_branch (l ∷ p) (m ∷ p) x refl a b in cc

  -- nor does the end of a path hang on a longer one
  not_above : (m : ℕ) (r : List ℕ) (x : ℕ) → Hangs T (m ∷ r) x → Leads T r → x ≡ slot_at T r → ⊥
  not_above m r x a h e =
      let same : a.0 ++ (m ∷ r) ≡ r = one_lead T root (a.0 ++ (m ∷ r)) r a.1 h (a.2 ∙ e) in
      omega (arith, ap length same, length-append a.0 (m ∷ r))

  pub once_below : (f : Forest) (p : List ℕ) (x : ℕ) → Leads T p → DistinctList (labels f) → ((l : ℕ) → Among (labels f) l → T.check (below T (slot_at T p) l) ≡ pos (slot_at T p)) → ChildrenRead T (slot_at T p) f → occurs x (slots_below T (slot_at T p) f) ≤ 1
  once_below none p x h distinct mine g = omega arith
  once_below (child l n u rest) p x h distinct mine g =
      let s : ℕ = below T (slot_at T p) l in
      let lead : Leads T (l ∷ p) = (mine l (inl refl), h) in
      let own = links_own T s _ (labels u) g.0 in
      let later = λ (m : ℕ) (k : Among (labels rest) m). mine m (inr k) in
      let ns : List ℕ = number_slots T s in
      let us : List ℕ = slots_below T s u in
      let rs : List ℕ = slots_below T (slot_at T p) rest in
      let in_rest : Hangs T (l ∷ p) x → 0 < occurs x rs → ⊥ = λ a c. (let w = hangs T rest p x h later g.2 c in distinct.0 (subst (Among (labels rest)) (sym (one_label l w.0 p x a w.2)) w.1)) in
      let in_number_rest : 0 < occurs x ns → 0 < occurs x rs → ⊥ = λ a c. in_rest (hangs_up T 0 (l ∷ p) x (hangs_number T (l ∷ p) x lead a)) c in
      let in_under_rest : 0 < occurs x us → 0 < occurs x rs → ⊥ = λ a c. (let w = hangs T u (l ∷ p) x lead own g.1 a in in_rest (hangs_up T w.0 (l ∷ p) x w.2) c) in
      let in_number_under : 0 < occurs x ns → 0 < occurs x us → ⊥ = λ a c.
      (let w = hangs T u (l ∷ p) x lead own g.1 c in
      let zero_label : w.0 ≡ 0 = one_label w.0 0 (l ∷ p) x w.2 (hangs_number T (l ∷ p) x lead a) in
      no_zero T s _ (labels u) g.0 (subst (Among (labels u)) zero_label w.1)) in
      let behind : occurs x (ns ++ us ++ rs) ≤ 1 = omega (
        arith,
        occurs-append x (ns ++ us) rs,
        occurs-append x ns us,
        at_most_one (occurs x ns) (occurs x us) (occurs x rs) (number_once T s x)
            (once_below u (l ∷ p) x lead (links_distinct T s _ (labels u) g.0) own g.1)
            (once_below rest p x h distinct.1 later g.2) in_number_under in_number_rest in_under_rest,
      ) in
      elim (cases_eq x s) [
        | inl e ↦ omega (
          arith,
          e,
          occurs-append x (ns ++ us) rs,
          occurs-append x ns us,
          subst (λ z. occurs z (s ∷ ns ++ us ++ rs) ≡ 1 + occurs z (ns ++ us ++ rs)) (sym e) (occurs_same s (ns ++ us ++ rs)),
          none_of (occurs x ns) (λ a. not_above 0 (l ∷ p) x (hangs_number T (l ∷ p) x lead a) lead e),
          none_of (occurs x us) (λ a. let w = hangs T u (l ∷ p) x lead own g.1 a in not_above w.0 (l ∷ p) x w.2 lead e),
          none_of (occurs x rs) (in_rest (hangs_here T l p x lead e)),
        )
        | inr n ↦ omega (arith, occurs_other x s (ns ++ us ++ rs) n, behind)
      ]

-- ---- each slot with an owner is named

-- slot s is a node of the tree, and with its number and all below it among the slots listed
record Found (size : ℕ) (T : Cells) (listed : List ℕ) (s : ℕ) : Type 0 where
  number : Option ℤ
  children : Forest
  node : Node size T s number (labels children)
  lower : ChildrenStand size T s children
  itself : 0 < occurs s listed
  numbers : (x : ℕ) → 0 < occurs x (number_slots T s) → 0 < occurs x listed
  under : (x : ℕ) → 0 < occurs x (slots_below T s children) → 0 < occurs x listed

found_child : (size : ℕ) (T : Cells) (listed : List ℕ) (s l : ℕ) (f : Forest) → Among (labels f) l → ChildrenStand size T s f → ((x : ℕ) → 0 < occurs x (slots_below T s f) → 0 < occurs x listed) → Found size T listed (below T s l)
found_child size T listed s l none a g sub = absurd a
found_child size T listed s l (child m n u rest) (inl e) g sub =
    let b : ℕ = below T s m in
    let ns : List ℕ = number_slots T b in
    let us : List ℕ = slots_below T b u in
    let rs : List ℕ = slots_below T s rest in
    subst (λ y. Found size T listed (below T s y)) e (record {
      number = n;
      children = u;
      node = g.0;
      lower = g.1;
      itself = sub b (omega (arith, occurs_same b (ns ++ us ++ rs)));
      numbers = λ x h. sub x (omega (arith, h, occurs-append x (ns ++ us) rs, occurs-append x ns us));
      under = λ x h. sub x (omega (arith, h, occurs-append x (ns ++ us) rs, occurs-append x ns us));
    })
found_child size T listed s l (child m n u rest) (inr a) g sub =
    let b : ℕ = below T s m in
    let ns : List ℕ = number_slots T b in
    let us : List ℕ = slots_below T b u in
    let rs : List ℕ = slots_below T s rest in
    found_child size T listed s l rest a g.2 (λ x h. sub x (omega (arith, h, occurs-append x (ns ++ us) rs, occurs-append x ns us)))

module _ (size : ℕ) (T : Cells) (f : Forest) (w : HoldsTree size T f) where
  found_on : (l : ℕ) (p : List ℕ) → OnPath T (l ∷ p) → Found size T (slots_below T 0 f) (slot_at T (l ∷ p))
  found_on l [] h =
      found_child size T _ 0 l f (owned_label size T 0 l top (labels f) w.stands.0 h.0 h.1) w.stands.1 (λ x a. a)
  found_on l (m ∷ p) h =
      let up = found_on m p h.2 in
      found_child size T _ (slot_at T (m ∷ p)) l up.children (owned_label size T (slot_at T (m ∷ p)) l up.node.head (labels up.children) up.node.family h.0 h.1) up.lower up.under

  on_label : (p : List ℕ) (x l : ℕ) → OnPath T p → (l ≡ 0 → ⊥) → below T (slot_at T p) l ≡ x → T.check x ≡ pos (slot_at T p) → 0 < occurs x (slots_below T 0 f)
  on_label p x l h some at e =
      let found = found_on l p (some, ap T.check at ∙ e, h) in
      subst (λ y. 0 < occurs y (slots_below T 0 f)) at found.itself

  on_number : (p : List ℕ) (x : ℕ) → OnPath T p → below T (slot_at T p) 0 ≡ x → T.check x ≡ pos (slot_at T p) → 0 < occurs x (slots_below T 0 f)
  on_number [] x h at e =
      absurd (family_no_zero T 0 top (labels f) w.stands.0.begins (subst (Among (labels f)) (xor_back (base_of T 0) 0) (w.stands.0.only (below T 0 0) (ap T.check at ∙ e))))
  on_number (m ∷ p) x h at e =
      let c : ℕ = slot_at T (m ∷ p) in
      let yes : has_number_slot T c ≡ true = owns_yes T c (ap T.check at ∙ e) in
      let here : 0 < occurs (below T c 0) (number_slots T c) = subst (λ b. 0 < occurs (below T c 0) (cond b (below T c 0 ∷ []) [])) (sym yes) (omega (arith, occurs_same (below T c 0) [])) in
      subst (λ y. 0 < occurs y (slots_below T 0 f)) at ((found_on m p h).numbers (below T c 0) here)

  pub owned_named : (x c : ℕ) → T.check x ≡ pos c → 0 < occurs x (slots_below T 0 f)
  owned_named x c e =
      let way = w.reached x c e in
      let p : List ℕ = way.0 in
      let owner : T.check x ≡ pos (slot_at T p) = e ∙ ap pos (sym way.2) in
      let at : below T (slot_at T p) (below T (slot_at T p) x) ≡ x = xor_back (base_of T (slot_at T p)) x in
      elim (cases_eq (below T (slot_at T p) x) 0) [
        | inl z ↦ on_number p x way.1 (ap (below T (slot_at T p)) (sym z) ∙ at) owner
        | inr n ↦ on_label p x (below T (slot_at T p) x) way.1 n at owner
      ]

  root_read : ChildrenRead T 0 f
  root_read = children_read size T w.root 0 f (labels_own T 0 top (labels f) w.stands.0.begins) w.stands.1

  pub named_owned : (x : ℕ) → 0 < occurs x (slots_below T 0 f) → (c : ℕ) × (T.check x ≡ pos c)
  named_owned x h =
      let found = hangs T f [] x tt (labels_own T 0 top (labels f) w.stands.0.begins) root_read h in
      hangs_owned T found.0 [] x found.2

  pub named_once : (x : ℕ) → occurs x (slots_below T 0 f) ≤ 1
  named_once x = once_below T w.root f [] x tt (family_distinct size T 0 top (labels f) w.stands.0) (labels_own T 0 top (labels f) w.stands.0.begins) root_read
