-- What a node's number and labels are is read from its slots, so a table represents one tree only.
use Rattle.std.proofs.Common.{◌≡◌, ℕ, ◌<◌, List, [], ◌∷◌, length, sym, ◌∙◌, ap, refl, subst, inl, inr, arith, Option, Some, None, cond, Bool, true, false}
use Rattle.std.specs.Prelude.{ℤ, pos}
use Rattle.std.proofs.lemmas.Bool.Decides.{Decides-int_eq}
use Rattle.cedar_tree.specs.Tree.{Forest, none, child}
use Rattle.cedar_model.specs.declared.layout.Stored.{Stored}
use Rattle.cedar_model.specs.declared.layout.Stored.TheVariants.{AtBase, OwnNumber, Nothing}
use Rattle.cedar_model.specs.Table.Cells.{Cells}
use Rattle.cedar_model.specs.Meaning.Family.{base_of, below, Head, plain, valued, own, top, number_of, Among, Links, Begins, InRange, Family, Node}
use Rattle.cedar_model.specs.Meaning.StandsFor.{labels, ChildrenStand, RootStands, HoldsTree}
use Rattle.cedar_model.specs.Meaning.Reading.{has_number_slot, own_number, number_in, first_in}
use Rattle.cedar_model.proofs.MeaningLemmas.ExclusiveOr.{xor_back}
use Rattle.cedar_model.proofs.MeaningLemmas.OneNode.{labels_own, node_labels_own, DistinctList}

-- a chain has one list of labels
pub links_unique : (T : Cells) (s c : ℕ) (ls ms : List ℕ) → Links T s c ls → Links T s c ms → ls ≡ ms
links_unique T s c [] [] h g = refl
links_unique T s c [] (m ∷ ms) h g = absurd (omega (arith, h, g.0, g.1))
links_unique T s c (l ∷ ls) [] h g = absurd (omega (arith, g, h.0, h.1))
links_unique T s c (l ∷ ls) (m ∷ ms) h g =
    let e : l ≡ m = sym h.0 ∙ g.0 in
    let rest : ls ≡ ms = links_unique T s (T.sibling (below T s m)) ls ms (subst (λ x. Links T s (T.sibling (below T s x)) ls) e h.4) g.4 in
    ap (λ x. x ∷ ls) e ∙ ap (λ r. m ∷ r) rest

-- what comes after a label of a chain
links_from : (T : Cells) (s c : ℕ) (ls : List ℕ) (l : ℕ) → Links T s c ls → Among ls l → (ms : List ℕ) × Links T s (T.sibling (below T s l)) ms × (length ms < length ls)
links_from T s c [] l h a = absurd a
links_from T s c (m ∷ ls) l h (inl e) = (ls, subst (λ x. Links T s (T.sibling (below T s x)) ls) e h.4, omega arith)
links_from T s c (m ∷ ls) l h (inr a) = let w = links_from T s (T.sibling (below T s m)) ls l h.4 a in (w.0, w.1, omega (arith, w.2))

-- so no label comes twice in it
pub links_distinct : (T : Cells) (s c : ℕ) (ls : List ℕ) → Links T s c ls → DistinctList ls
links_distinct T s c [] h = tt
links_distinct T s c (l ∷ ls) h = (
  (λ a. let w = links_from T s (T.sibling (below T s l)) ls l h.4 a in
      let same : ls ≡ w.0 = links_unique T s (T.sibling (below T s l)) ls w.0 h.4 w.1 in
      absurd (omega (arith, w.2, ap length same))),
  links_distinct T s (T.sibling (below T s l)) ls h.4,
)

pub no_zero : (T : Cells) (s c : ℕ) (ls : List ℕ) → Links T s c ls → Among ls 0 → ⊥
no_zero T s c [] h a = a
no_zero T s c (l ∷ ls) h (inl e) = omega (arith, h.1)
no_zero T s c (l ∷ ls) h (inr a) = no_zero T s (T.sibling (below T s l)) ls h.4 a

pub family_no_zero : (T : Cells) (s : ℕ) (h : Head) (ls : List ℕ) → Begins T s h ls → Among ls 0 → ⊥
family_no_zero T s plain ls b a = no_zero T s _ ls b a
family_no_zero T s (valued v) ls b a = no_zero T s _ ls b.4 a
family_no_zero T s (own v) ls b a = subst (λ x. Among x 0) b.1 a
family_no_zero T s top ls b a = no_zero T s _ ls b.2 a

pub family_distinct : (size : ℕ) (T : Cells) (s : ℕ) (h : Head) (ls : List ℕ) → Family size T s h ls → DistinctList ls
family_distinct size T s plain ls f = links_distinct T s _ ls f.begins
family_distinct size T s (valued v) ls f = links_distinct T s _ ls f.begins.4
family_distinct size T s (own v) ls f = subst DistinctList (sym f.begins.1) tt
family_distinct size T s top ls f = links_distinct T s _ ls f.begins.2

pub node_distinct : (size : ℕ) (T : Cells) (s : ℕ) (n : Option ℤ) (ls : List ℕ) → Node size T s n ls → DistinctList ls
node_distinct size T s n ls k = family_distinct size T s k.head ls k.family

pub owns_yes : (T : Cells) (s : ℕ) → T.check (below T s 0) ≡ pos s → has_number_slot T s ≡ true
owns_yes T s e = (Decides-int_eq (T.check (below T s 0)) (pos s)).1 e

pub owns_no : (T : Cells) (s : ℕ) → (T.check (below T s 0) ≡ pos s → ⊥) → has_number_slot T s ≡ false
owns_no T s n = by_test (has_number_slot T s) refl
  where
    by_test : (b : Bool) → has_number_slot T s ≡ b → has_number_slot T s ≡ false
    by_test true e = absurd (n ((Decides-int_eq (T.check (below T s 0)) (pos s)).0 e))
    by_test false e = e

in_range_none : (size : ℕ) (st : Stored) → InRange size st → own_number st ≡ None
in_range_none size (AtBase b) r = refl
in_range_none size (OwnNumber v) r = absurd (omega (arith, r.0))
in_range_none size Nothing r = refl

pub plain_none : (size : ℕ) (T : Cells) (s : ℕ) (ls : List ℕ) → Family size T s plain ls → own_number (T.stored s) ≡ None
plain_none size T s [] f = elim f.based [ inl e ↦ ap own_number e | inr r ↦ in_range_none size (T.stored s) r ]
plain_none size T s (l ∷ ls) f = in_range_none size (T.stored s) f.based

-- a node's number and labels, as they are read
pub record Reads (T : Cells) (s : ℕ) (n : Option ℤ) (ls : List ℕ) : Type 0 where
  pub number : number_in T s ≡ n
  pub links : Links T s (first_in T s) ls

pub family_reads : (size : ℕ) (T : Cells) (s : ℕ) (h : Head) (ls : List ℕ) → (s ≡ 0 → ⊥) → Family size T s h ls → Reads T s (number_of h) ls
family_reads size T s plain ls z f =
    let off : has_number_slot T s ≡ false = owns_no T s (λ o. no_zero T s _ ls f.begins (subst (Among ls) (xor_back (base_of T s) 0) (f.only _ o))) in
    record {
      number = ap (λ b. cond b (Some (T.base (below T s 0))) (own_number (T.stored s))) off ∙ plain_none size T s ls f;
      links = subst (λ x. Links T s x ls) (sym (ap (λ b. cond b (T.sibling (below T s 0)) (T.child s)) off)) f.begins;
    }
family_reads size T s (valued v) ls z f =
    let on : has_number_slot T s ≡ true = owns_yes T s f.begins.1 in
    record {
      number = ap (λ b. cond b (Some (T.base (below T s 0))) (own_number (T.stored s))) on ∙ ap Some f.begins.2;
      links = subst (λ x. Links T s x ls) (sym (ap (λ b. cond b (T.sibling (below T s 0)) (T.child s)) on)) f.begins.4;
    }
family_reads size T s (own v) ls z f =
    let off : has_number_slot T s ≡ false = owns_no T s (λ o. subst (λ xs. Among xs (below T s (below T s 0))) f.begins.1 (f.only _ o)) in
    record {
      number = ap (λ b. cond b (Some (T.base (below T s 0))) (own_number (T.stored s))) off ∙ ap own_number f.based;
      links = subst (λ x. Links T s x ls) (sym (ap (λ b. cond b (T.sibling (below T s 0)) (T.child s)) off)) (subst (λ xs. Links T s (T.child s) xs) (sym f.begins.1) f.begins.0);
    }
family_reads size T s top ls z f = absurd (z f.begins.0)

pub node_reads : (size : ℕ) (T : Cells) (s : ℕ) (n : Option ℤ) (ls : List ℕ) → (s ≡ 0 → ⊥) → Node size T s n ls → Reads T s n ls
node_reads size T s n ls z k = subst (λ m. Reads T s m ls) k.number (family_reads size T s k.head ls z k.family)

same_tail : (l m : ℕ) (ls ms : List ℕ) → l ∷ ls ≡ m ∷ ms → ls ≡ ms
same_tail l m ls ms e = cc

same_head : (l m : ℕ) (ls ms : List ℕ) → l ∷ ls ≡ m ∷ ms → l ≡ m
same_head l m ls ms e = cc

module _ (size : ℕ) (T : Cells) (root : (c : ℕ) → T.check 0 ≡ pos c → ⊥) where
  pub children_unique : (s : ℕ) (f g : Forest) → ((l : ℕ) → Among (labels f) l → T.check (below T s l) ≡ pos s) → labels f ≡ labels g → ChildrenStand size T s f → ChildrenStand size T s g → f ≡ g
  children_unique s none none mine e a b = refl
  children_unique s none (child m k v others) mine e a b = cc
  children_unique s (child l n u rest) none mine e a b = cc
  children_unique s (child l n u rest) (child m k v others) mine e a b =
      let same : l ≡ m = same_head l m (labels rest) (labels others) e in
      let x : ℕ = below T s l in
      let not_zero : below T s l ≡ 0 → ⊥ = λ z. root s (ap T.check (sym z) ∙ mine l (inl refl)) in
      let node : Node size T (below T s l) k (labels v) = subst (λ y. Node size T (below T s y) k (labels v)) (sym same) b.0 in
      let grown : ChildrenStand size T (below T s l) v = subst (λ y. ChildrenStand size T (below T s y) v) (sym same) b.1 in
      let one = node_reads size T (below T s l) n (labels u) not_zero a.0 in
      let two = node_reads size T (below T s l) k (labels v) not_zero node in
      let number : n ≡ k = sym one.number ∙ two.number in
      let under : u ≡ v = children_unique (below T s l) u v (node_labels_own size T (below T s l) n (labels u) a.0) (links_unique T (below T s l) _ (labels u) (labels v) one.links two.links) a.1 grown in
      let beside : rest ≡ others = children_unique s rest others (λ y h. mine y (inr h)) (same_tail l m (labels rest) (labels others) e) a.2 b.2 in
      ap (λ y. child y n u rest) same ∙ ap (λ y. child m y u rest) number ∙ ap (λ y. child m k y rest) under ∙ ap (λ y. child m k v y) beside

  pub stands_unique : (f g : Forest) → RootStands size T f → RootStands size T g → f ≡ g
  stands_unique f g a b =
      children_unique 0 f g (labels_own T 0 top (labels f) a.0.begins) (links_unique T 0 (T.sibling 0) (labels f) (labels g) a.0.begins.2 b.0.begins.2) a.1 b.1

-- a table represents one tree only
pub one_tree : (size : ℕ) (T : Cells) (f g : Forest) → HoldsTree size T f → HoldsTree size T g → f ≡ g
one_tree size T f g a b = stands_unique size T a.root f g a.stands b.stands
