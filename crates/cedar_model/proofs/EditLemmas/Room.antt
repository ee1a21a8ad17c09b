-- Where a new label of a node goes, and which slots of block 0 are free.
use Rattle.std.proofs.Common.{◌≡◌, ℕ, ◌<◌, ◌≤◌, ◌⊎◌, List, [], ◌∷◌, sym, ◌∙◌, ap, subst, inl, inr, arith, rules, Bool, true, false}
use Rattle.std.specs.Prelude.{◌%◌, bit_xor, IsTrue, not, ℤ, pos}
use Rattle.std.specs.Int.Bits.{xor_zero_l}
use Rattle.std.proofs.lemmas.Bool.{cases_Bool, cases_eq, false≢true}
use Rattle.cedar_tree.specs.Tree.{Forest}
use Rattle.cedar_model.specs.declared.layout.Stored.{Stored}
use Rattle.cedar_model.specs.declared.layout.Stored.TheVariants.{AtBase, OwnNumber}
use Rattle.cedar_model.specs.Table.Cells.{Cells, Held, is_held}
use Rattle.cedar_model.specs.Meaning.Family.{Among, base_in, base_of, below, Family, Head, InRange, own, owned_slots, plain, top, valued}
use Rattle.cedar_model.specs.Meaning.StandsFor.{HoldsTree}
use Rattle.cedar_model.specs.Edit.NodeEdits.{follow_on, IsNodeOf}
use Rattle.cedar_model.proofs.CellsLemmas.PlacesFound.{held-is_held, is_held-true}
use Rattle.cedar_model.proofs.RelocationLemmas.Movable.{node_at_end}
use Rattle.cedar_model.proofs.MeaningLemmas.OneNode.{links_small}
use Rattle.cedar_model.proofs.MeaningLemmas.ExclusiveOr.{xor_within}
use Rattle.cedar_slots.proofs.RingsLemmas.InBlock.{xor_block}

pub held_or_free : (T : Cells) (s : ℕ) → Held T s ⊎ (Held T s → ⊥)
held_or_free T s = elim (cases_Bool (is_held T s)) [
  | inl is ↦ inl (is_held-true T s is)
  | inr not ↦ inr (λ h. false≢true (sym not ∙ held-is_held T s h))
]

-- a slot that is not free is held
pub not_free_held : (T : Cells) (s : ℕ) → ((Held T s → ⊥) → ⊥) → Held T s
not_free_held T s n = elim (held_or_free T s) [ inl h ↦ h | inr free ↦ absurd (n free) ]

-- ---- the base of a node

base_by_head : (size : ℕ) (T : Cells) (a : ℕ) (hd : Head) (ls : List ℕ) → (a ≡ 0 → ⊥) → ((v : ℤ) → T.stored a ≡ OwnNumber v → ⊥) → Family size T a hd ls → (T.stored a ≡ AtBase 0) ⊎ InRange size (T.stored a)
base_by_head size T a plain [] z n k = k.based
base_by_head size T a plain (l ∷ ls) z n k = inr k.based
base_by_head size T a (valued v) ls z n k = inr k.based
base_by_head size T a (own v) ls z n k = absurd (n v k.based)
base_by_head size T a top ls z n k = absurd (z k.begins.0)

-- a node below the root that keeps no number in its base field has a base outside block 0, or is a leaf without one
pub node_base : (size : ℕ) (T : Cells) (ordered : Bool) (f : Forest) (a : ℕ) → IsNodeOf size T ordered f a → (a ≡ 0 → ⊥) → ((v : ℤ) → T.stored a ≡ OwnNumber v → ⊥) → (T.stored a ≡ AtBase 0) ⊎ InRange size (T.stored a)
node_base size T ordered f a k z n = let x = node_at_end size T f a (follow_on k.path []) k.holds k.at.0 k.at.1 z in base_by_head size T a x.head x.labels z n x.family

low_not_ranged : (size : ℕ) (st : Stored) → base_in st ≡ 0 → InRange size st → ⊥
low_not_ranged size st e r = omega (arith, e, r.0)

pub leaf_base : (size : ℕ) (T : Cells) (ordered : Bool) (f : Forest) (a : ℕ) → IsNodeOf size T ordered f a → (a ≡ 0 → ⊥) → ((v : ℤ) → T.stored a ≡ OwnNumber v → ⊥) → base_of T a ≡ 0 → T.stored a ≡ AtBase 0
leaf_base size T ordered f a k z n e = elim (node_base size T ordered f a k z n) [ inl b ↦ b | inr r ↦ absurd (low_not_ranged size (T.stored a) e r) ]

-- the slot of a label, where the node is the root or has a base
pub record LabelPlace (size : ℕ) (T : Cells) (a l : ℕ) : Type 0 where
  pub inside : below T a l < size
  pub not_root : below T a l ≡ 0 → ⊥
  pub based : (a ≡ 0 → ⊥) → InRange size (T.stored a)

pub label_place : (size : ℕ) (T : Cells) (ordered : Bool) (f : Forest) (a l : ℕ) → IsNodeOf size T ordered f a → size % 256 ≡ 0 → 256 ≤ size → l < 256 → (a ≡ 0 → 0 < l) → ((v : ℤ) → T.stored a ≡ OwnNumber v → ⊥)
    → ((base_of T a ≡ 0) × (a ≡ 0)) ⊎ (base_of T a ≡ 0 → ⊥) → LabelPlace size T a l
label_place size T ordered f a l k whole some small positive n (inl root) =
    let slot : below T a l ≡ l = ap (λ b. bit_xor b l) root.0 ∙ xor_zero_l l in
    record { inside = omega (arith, slot); not_root = λ z. omega (arith, slot, z, positive root.1); based = λ z. absurd (z root.1) }
label_place size T ordered f a l k whole some small positive n (inr based) =
    let z : a ≡ 0 → ⊥ = λ e. based (subst (λ s. base_of T s ≡ 0) (sym e) (ap base_in k.holds.stands.0.based)) in
    let range : InRange size (T.stored a) = elim (node_base size T ordered f a k z n) [ inl b ↦ absurd (based (ap base_in b)) | inr r ↦ r ] in
    let block = xor_block (base_of T a) l small in
    record { inside = xor_within size (base_of T a) l whole range.1 small; not_root = λ e. omega (arith, block, e, range.0); based = λ _. range }

-- ---- the slots of block 0

-- a node other than the root owns slots outside block 0 alone
far : (size : ℕ) (T : Cells) (a : ℕ) (hd : Head) (ls : List ℕ) (l : ℕ) → (a ≡ 0 → ⊥) → Family size T a hd ls → Among (owned_slots hd ls) l → (256 ≤ base_of T a) × (l < 256)
far size T a plain [] l z k b = absurd b
far size T a plain (m ∷ ls) l z k b = (k.based.0, links_small T a _ (m ∷ ls) k.begins l b)
far size T a (valued v) ls l z k (inl e) = (k.based.0, omega arith)
far size T a (valued v) ls l z k (inr b) = (k.based.0, links_small T a _ ls k.begins.4 l b)
far size T a (own v) ls l z k b = absurd (subst (λ xs. Among xs l) k.begins.1 b)
far size T a top ls l z k b = absurd (z k.begins.0)

low_owner : (size : ℕ) (T : Cells) (f : Forest) (x c : ℕ) → HoldsTree size T f → x < 256 → T.check x ≡ pos c → c ≡ 0
low_owner size T f x c h low o = elim (cases_eq c 0) [
  | inl e ↦ e
  | inr n ↦
      let way = h.reached x c o in
      let k = node_at_end size T f c way.0 h way.1 way.2 n in
      let b = far size T c k.head k.labels (below T c x) n k.family (k.family.only x o) in
      let block = xor_block (base_of T c) x low in
      absurd (omega (arith, b.0, b.1, block))
]

-- so what the root doesn't own of block 0 is free
pub root_label_free : (size : ℕ) (T : Cells) (f : Forest) (l : ℕ) → HoldsTree size T f → 0 < l → l < 256 → (T.check (below T 0 l) ≡ pos 0 → ⊥) → Held T (below T 0 l) → ⊥
root_label_free size T f l h positive small n held = by_held held
  where
    slot : below T 0 l ≡ l
    slot = ap (λ st. bit_xor (base_in st) l) h.stands.0.based ∙ xor_zero_l l

    by_held : Held T (below T 0 l) → ⊥
    by_held (inl e) = omega (arith, slot, e)
    by_held (inr o) = n (o.1 ∙ ap pos (low_owner size T f (below T 0 l) o.0 h (omega (arith, slot)) o.1))

pub label_free : (size : ℕ) (T : Cells) (f : Forest) (a l : ℕ) → HoldsTree size T f → a ≡ 0 → (a ≡ 0 → 0 < l) → l < 256 → (T.check (below T a l) ≡ pos a → ⊥) → Held T (below T a l) → ⊥
label_free size T f a l h z positive small absent held =
    root_label_free size T f l h (positive z) small (subst (λ x. T.check (below T x l) ≡ pos x → ⊥) z absent) (subst (λ x. Held T (below T x l)) z held)

-- a node that has a base and isn't the root
pub based_node : (size : ℕ) (T : Cells) (ordered : Bool) (f : Forest) (a : ℕ) → IsNodeOf size T ordered f a → ((v : ℤ) → T.stored a ≡ OwnNumber v → ⊥) → (base_of T a ≡ 0 → ⊥) → (a ≡ 0 → ⊥) × InRange size (T.stored a)
based_node size T ordered f a k n based =
    let z : a ≡ 0 → ⊥ = λ e. based (subst (λ s. base_of T s ≡ 0) (sym e) (ap base_in k.holds.stands.0.based)) in
    (z, elim (node_base size T ordered f a k z n) [ inl b ↦ absurd (based (ap base_in b)) | inr r ↦ r ])

pub not_both : (r : Bool) → IsTrue (not r) → IsTrue r → ⊥
not_both true b t = cc
not_both false b t = cc

pub one_is : (r : Bool) → (IsTrue (not r) → ⊥) → IsTrue r
one_is true n = search rules
one_is false n = absurd (n (search rules))
