-- One node's own slots: its labels' slots are its own, and an owned slot is under one of its labels.
use Rattle.std.proofs.Common.{◌≡◌, ℕ, ◌<◌, List, [], ◌∷◌, sym, subst, inl, inr, Option}
use Rattle.std.specs.Prelude.{ℤ, pos}
use Rattle.cedar_tree.specs.Tree.{Forest, none, child}
use Rattle.cedar_model.specs.Table.Cells.{Cells}
use Rattle.cedar_model.specs.Meaning.Family.{base_of, Head, plain, valued, own, top, Family, Node, below, Among, owned_slots, Links, Begins}
use Rattle.cedar_model.specs.Meaning.StandsFor.{labels, ChildrenStand}
use Rattle.cedar_model.proofs.MeaningLemmas.ExclusiveOr.{xor_back}

pub links_own : (T : Cells) (s c : ℕ) (ls : List ℕ) → Links T s c ls → (l : ℕ) → Among ls l → T.check (below T s l) ≡ pos s
links_own T s c [] h l a = absurd a
links_own T s c (x ∷ ls) h l (inl e) = subst (λ y. T.check (below T s y) ≡ pos s) e h.3
links_own T s c (x ∷ ls) h l (inr a) = links_own T s (T.sibling (below T s x)) ls h.4 l a

-- the slots of a node's labels have the node as their check
pub labels_own : (T : Cells) (s : ℕ) (h : Head) (ls : List ℕ) → Begins T s h ls → (l : ℕ) → Among ls l → T.check (below T s l) ≡ pos s
labels_own T s plain ls b l a = links_own T s _ ls b l a
labels_own T s (valued v) ls b l a = links_own T s _ ls b.4 l a
labels_own T s (own v) ls b l a = absurd (subst (λ x. Among x l) b.1 a)
labels_own T s top ls b l a = links_own T s _ ls b.2 l a

pub node_labels_own : (size : ℕ) (T : Cells) (s : ℕ) (n : Option ℤ) (ls : List ℕ) → Node size T s n ls → (l : ℕ) → Among ls l → T.check (below T s l) ≡ pos s
node_labels_own size T s n ls k = labels_own T s k.head ls k.family.begins

-- no member comes twice
abbrev pub DistinctList : List ℕ → Type 0
DistinctList [] = Unit {0}
DistinctList (x ∷ xs) = (Among xs x → ⊥) × DistinctList xs

pub links_small : (T : Cells) (s c : ℕ) (ls : List ℕ) → Links T s c ls → (l : ℕ) → Among ls l → l < 256
links_small T s c [] h l a = absurd a
links_small T s c (x ∷ ls) h l (inl e) = subst (λ y. y < 256) e h.2
links_small T s c (x ∷ ls) h l (inr a) = links_small T s (T.sibling (below T s x)) ls h.4 l a

-- a node of the tree with all below it
pub record Subtree (size : ℕ) (T : Cells) (s : ℕ) : Type 0 where
  pub number : Option ℤ
  pub children : Forest
  pub node : Node size T s number (labels children)
  pub lower : ChildrenStand size T s children

pub child_in : (size : ℕ) (T : Cells) (s l : ℕ) (f : Forest) → Among (labels f) l → ChildrenStand size T s f → Subtree size T (below T s l)
child_in size T s l none a g = absurd a
child_in size T s l (child m n u rest) (inl e) g = subst (λ x. Subtree size T (below T s x)) e (record { number = n; children = u; node = g.0; lower = g.1 })
child_in size T s l (child m n u rest) (inr a) g = child_in size T s l rest a g.2

label_among : (h : Head) (ls : List ℕ) (l : ℕ) → (l ≡ 0 → ⊥) → Among (owned_slots h ls) l → Among ls l
label_among plain ls l n a = a
label_among (valued v) ls l n (inl e) = absurd (n (sym e))
label_among (valued v) ls l n (inr a) = a
label_among (own v) ls l n a = a
label_among top ls l n a = a

-- an owned slot of a node is under one of its labels
pub owned_label : (size : ℕ) (T : Cells) (s l : ℕ) (h : Head) (ls : List ℕ) → Family size T s h ls → (l ≡ 0 → ⊥) → T.check (below T s l) ≡ pos s → Among ls l
owned_label size T s l h ls f n o = label_among h ls l n (subst (Among (owned_slots h ls)) (xor_back (base_of T s) l) (f.only _ o))
