-- Any node below the root of a table that holds a tree can be relocated to a base with room, and the tree stays.
use Rattle.std.proofs.Common.{◌≡◌, ℕ, zero, suc, ◌<◌, ◌≤◌, List, [], ◌∷◌, length, get_or, take, sym, ◌∙◌, ap, subst, inl, inr, arith}
use Rattle.std.specs.Prelude.{◌%◌, pos, bit_xor}
use Rattle.std.specs.Int.Bits.{xor_zero_l}
use Rattle.cedar_tree.specs.Tree.{Forest}
use Rattle.cedar_model.specs.Table.Cells.{Cells, Held}
use Rattle.cedar_model.specs.Meaning.Family.{base_in, base_of, below, Head, plain, valued, own, top, Among, owned_slots, Begins, InRange, Family}
use Rattle.cedar_model.specs.Meaning.StandsFor.{labels, slot_at, OnPath, HoldsTree}
use Rattle.cedar_model.specs.Relocation.Renaming.{CanMove, IsNode, Movable, OwnsNothing, Relocated}
use Rattle.cedar_model.specs.declared.layout.Stored.TheVariants.{AtBase}
use Rattle.cedar_model.proofs.MeaningLemmas.ExclusiveOr.{xor_injective, xor_within, pos_injective}
use Rattle.cedar_model.proofs.MeaningLemmas.OneNode.{labels_own, links_small, DistinctList}
use Rattle.cedar_model.proofs.MeaningLemmas.OneTree.{family_distinct, no_zero}
use Rattle.cedar_model.proofs.MeaningLemmas.Paths.{node_on, one_path, owner_held}
use Rattle.cedar_model.proofs.RelocationLemmas.OneTurn.{among_get}
use Rattle.cedar_model.proofs.RelocationLemmas.Repointed.{owner_cases}
use Rattle.cedar_model.proofs.RelocationLemmas.CarriedTree.{holds_renamed}

distinct_take : (xs : List ℕ) (i : ℕ) → DistinctList xs → i < length xs → Among (take i xs) (get_or xs i 0) → ⊥
distinct_take [] i d h a = omega arith
distinct_take (x ∷ xs) zero d h a = absurd a
distinct_take (x ∷ xs) (suc i) d h (inl e) = d.0 (subst (Among xs) (sym e) (among_get xs i 0 (omega arith)))
distinct_take (x ∷ xs) (suc i) d h (inr a) = distinct_take xs i d.1 (omega arith) a

pub owned_small : (T : Cells) (s : ℕ) (h : Head) (ls : List ℕ) → Begins T s h ls → (l : ℕ) → Among (owned_slots h ls) l → l < 256
owned_small T s plain ls b l a = links_small T s _ ls b l a
owned_small T s (valued v) ls b l (inl e) = omega arith
owned_small T s (valued v) ls b l (inr a) = links_small T s _ ls b.4 l a
owned_small T s (own v) ls b l a = absurd (subst (λ x. Among x l) b.1 a)
owned_small T s top ls b l a = links_small T s _ ls b.2 l a

pub owned_own : (T : Cells) (s : ℕ) (h : Head) (ls : List ℕ) → Begins T s h ls → (l : ℕ) → Among (owned_slots h ls) l → T.check (below T s l) ≡ pos s
owned_own T s plain ls b l a = labels_own T s plain ls b l a
owned_own T s (valued v) ls b l (inl e) = subst (λ x. T.check (below T s x) ≡ pos s) e b.1
owned_own T s (valued v) ls b l (inr a) = labels_own T s (valued v) ls b l a
owned_own T s (own v) ls b l a = labels_own T s (own v) ls b l a
owned_own T s top ls b l a = labels_own T s top ls b l a

pub owned_distinct : (size : ℕ) (T : Cells) (s : ℕ) (h : Head) (ls : List ℕ) → Family size T s h ls → DistinctList (owned_slots h ls)
owned_distinct size T s plain ls f = family_distinct size T s plain ls f
owned_distinct size T s (valued v) ls f = (no_zero T s _ ls f.begins.4, family_distinct size T s (valued v) ls f)
owned_distinct size T s (own v) ls f = family_distinct size T s (own v) ls f
owned_distinct size T s top ls f = family_distinct size T s top ls f

-- a base that is not 0 is in range
pub ranged : (size : ℕ) (T : Cells) (s : ℕ) (h : Head) (ls : List ℕ) → (s ≡ 0 → ⊥) → 256 ≤ base_of T s → Family size T s h ls → InRange size (T.stored s)
ranged size T s plain [] z low f = elim f.based [
  | inl b ↦ let none : 256 ≤ 0 = subst (λ st. 256 ≤ base_in st) b low in absurd (omega arith)
  | inr r ↦ r
]
ranged size T s plain (l ∷ ls) z low f = f.based
ranged size T s (valued v) ls z low f = f.based
ranged size T s (own v) ls z low f = let none : 256 ≤ 0 = subst (λ st. 256 ≤ base_in st) f.based low in absurd (omega arith)
ranged size T s top ls z low f = absurd (z f.begins.0)

longer : (l : ℕ) (w : List ℕ) → l ∷ w ≡ w → ⊥
longer l w e = omega (arith, ap length e)

module _ (size : ℕ) (T : Cells) (f : Forest) (b l : ℕ) (p : List ℕ) (whole : size % 256 ≡ 0) (w : HoldsTree size T f) (h : OnPath T (l ∷ p)) (low : 256 ≤ b) (high : b < size) where
  not_zero : (m : ℕ) (v : List ℕ) → OnPath T (m ∷ v) → slot_at T (m ∷ v) ≡ 0 → ⊥
  not_zero m v g e = w.root (slot_at T v) (ap T.check (sym e) ∙ g.1)

  can_move : 256 ≤ base_of T (slot_at T (l ∷ p)) → CanMove size T (slot_at T (l ∷ p)) b
  can_move based = record {
    held = inr (slot_at T p, h.1);
    not_root = λ e. w.root (slot_at T p) (ap T.check (sym e) ∙ h.1);
    not_own = λ e. longer l p (one_path T w.root (l ∷ p) p h h.2 (pos_injective _ _ (sym e ∙ h.1)));
    not_number = λ s o e. h.0 (xor_injective (base_of T (slot_at T p)) l 0 (sym e ∙ ap (λ x. below T x 0) (pos_injective _ _ (sym o ∙ h.1))));
    based = based;
    low = low;
    high = high;
    owners = owner_held size T f w;
    root = w.root;
  }

  -- nothing hangs on a number's slot
  number_alone : T.check (below T (slot_at T (l ∷ p)) 0) ≡ pos (slot_at T (l ∷ p)) → OwnsNothing T (below T (slot_at T (l ∷ p)) 0)
  number_alone o q e =
      let way = w.reached q _ e in no_path way.0 way.1 way.2
    where
      no_path : (v : List ℕ) → OnPath T v → slot_at T v ≡ below T (slot_at T (l ∷ p)) 0 → ⊥
      no_path [] hv s = w.root _ (ap T.check s ∙ o)
      no_path (m ∷ v) hv s =
          let up : slot_at T v ≡ slot_at T (l ∷ p) = pos_injective _ _ (sym hv.1 ∙ ap T.check s ∙ o) in
          hv.0 (xor_injective (base_of T (slot_at T (l ∷ p))) m 0 (ap (λ x. below T x m) (sym up) ∙ s))

  movable_at : (hd : Head) (ls : List ℕ) → Family size T (slot_at T (l ∷ p)) hd ls → 256 ≤ base_of T (slot_at T (l ∷ p)) → ((m : ℕ) → Among (owned_slots hd ls) m → Held T (bit_xor b m) → ⊥) → Movable size T (slot_at T (l ∷ p)) b (owned_slots hd ls)
  movable_at hd ls fam based free =
      let a : ℕ = slot_at T (l ∷ p) in
      let r = ranged size T a hd ls (not_zero l p h) based fam in
      let small = owned_small T a hd ls fam.begins in
      let mine = owned_own T a hd ls fam.begins in
      record {
        parent = can_move based;
        owned = mine;
        only = fam.only;
        distinct = λ i s. distinct_take _ i (owned_distinct size T a hd ls fam) s;
        free = free;
        old_within = λ m s. xor_within size _ m whole r.1 (small m s);
        new_within = λ m s. xor_within size b m whole high (small m s);
        number = λ s. number_alone (mine 0 s);
        node = λ m s z.
            let y = node_on size T f w m (l ∷ p) (z, mine m s, h) in
            record { head = y.node.head; labels = labels y.children; family = y.node.family };
      }

-- any node with a base, which is not the root, can be relocated
pub movable : (size : ℕ) (T : Cells) (f : Forest) (b s : ℕ) (p : List ℕ) → size % 256 ≡ 0 → HoldsTree size T f → OnPath T p → slot_at T p ≡ s → (s ≡ 0 → ⊥) → 256 ≤ b → b < size → (hd : Head) (ls : List ℕ) → Family size T s hd ls → 256 ≤ base_of T s → ((m : ℕ) → Among (owned_slots hd ls) m → Held T (bit_xor b m) → ⊥) → Movable size T s b (owned_slots hd ls)
movable size T f b s [] whole w on at z low high hd ls fam based free = absurd (z (sym at))
movable size T f b s (l ∷ p) whole w on at z low high hd ls fam based free =
    subst (λ a. Movable size T a b (owned_slots hd ls)) at
    (movable_at size T f b l p whole w on low high hd ls (subst (λ a. Family size T a hd ls) (sym at) fam) (subst (λ a. 256 ≤ base_of T a) (sym at) based) free)

-- a node at the end of a path, other than the root's
pub node_at_end : (size : ℕ) (T : Cells) (f : Forest) (s : ℕ) (p : List ℕ) → HoldsTree size T f → OnPath T p → slot_at T p ≡ s → (s ≡ 0 → ⊥) → IsNode size T s
node_at_end size T f s [] w on at z = absurd (z (sym at))
node_at_end size T f s (l ∷ p) w on at z =
    let y = node_on size T f w l p on in
    subst (IsNode size T) at (record { head = y.node.head; labels = labels y.children; family = y.node.family })

-- the root owns no slot outside the first block
pub not_roots : (size : ℕ) (T : Cells) (f : Forest) (x : ℕ) → HoldsTree size T f → 256 ≤ x → T.check x ≡ pos 0 → ⊥
not_roots size T f x w low o =
    let fam = w.stands.0 in
    let label : x < 256 = subst (λ y. y < 256) (xor_zero x fam.based) (owned_small T 0 top (labels f) fam.begins (below T 0 x) (fam.only x o)) in
    omega arith
  where
    xor_zero : (x : ℕ) → T.stored 0 ≡ AtBase 0 → below T 0 x ≡ x
    xor_zero x e = ap (λ st. bit_xor (base_in st) x) e ∙ xor_zero_l x

-- a relocation keeps the tree
pub relocated_holds : (size : ℕ) (T T' : Cells) (p b : ℕ) (f : Forest) → Relocated size T T' p b → HoldsTree size T f → HoldsTree size T' f
relocated_holds size T T' p b f k w = holds_renamed size size T T' k.new_slot k.renamed f w

-- ---- which slots are free after a relocation

module _ (size : ℕ) (T T' : Cells) (p b : ℕ) (ls : List ℕ) (m : Movable size T p b ls) (k : Relocated size T T' p b) where
  -- the places that the moved set has left
  pub vacated : (x : ℕ) → T.check x ≡ pos p → Held T' x → ⊥
  vacated x o (inl e) = m.parent.root p (ap T.check (sym e) ∙ o)
  vacated x o (inr h) =
      let v = k.renamed.back x h.0 h.1 in
      elim (owner_cases (T.check v.0) p) [
        | inl mine ↦ m.free _ (m.only v.0 mine) (subst (Held T) (sym v.3 ∙ k.moves.moved v.0 mine) (inr (p, o)))
        | inr n ↦ n (ap T.check (sym (k.moves.kept v.0 n) ∙ v.3) ∙ o)
      ]

  -- a free place that the moved set has not taken
  pub stays_free : (l : ℕ) → (Among ls l → ⊥) → (Held T (bit_xor b l) → ⊥) → Held T' (bit_xor b l) → ⊥
  stays_free l new free (inl e) = free (inl e)
  stays_free l new free (inr h) =
      let v = k.renamed.back (bit_xor b l) h.0 h.1 in
      elim (owner_cases (T.check v.0) p) [
        | inl mine ↦ new (subst (Among ls) (xor_injective b _ l (sym (k.moves.moved v.0 mine) ∙ v.3)) (m.only v.0 mine))
        | inr n ↦ free (subst (Held T) (sym (k.moves.kept v.0 n) ∙ v.3) (inr (v.1, v.2)))
      ]
