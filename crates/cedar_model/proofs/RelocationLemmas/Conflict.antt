-- A slot that a node wants and another one owns: what holds of the two, and where the node is once either's set of slots
-- has moved.
use Rattle.std.proofs.Common.{◌≡◌, ℕ, ◌/◌, ◌<◌, ◌≤◌, List, [], ◌∷◌, length, sym, ◌∙◌, ap, subst, inl, inr, arith}
use Rattle.std.specs.Prelude.{pos, bit_xor}
use Rattle.std.specs.Int.Bits.{xor_self}
use Rattle.std.proofs.lemmas.Nat.{xor_comm}
use Rattle.std.proofs.lemmas.Bool.{cases_lt}
use lib.Bits.{xor_assoc, xor_zero_r}
use Rattle.cedar_tree.specs.Tree.{Forest}
use Rattle.cedar_model.specs.declared.layout.Stored.TheVariants.{AtBase}
use Rattle.cedar_model.specs.Table.Cells.{Cells, Held}
use Rattle.cedar_model.specs.Edit.NodeEdits.{follow_on, IsAt}
use Rattle.cedar_model.specs.Meaning.Family.{Among, base_in, base_of, below, Family, Head, InRange, owned_slots}
use Rattle.cedar_model.specs.Meaning.Marks.{KeepsMarks}
use Rattle.cedar_model.specs.Meaning.StandsFor.{HoldsTree, OnPath, slot_at}
use Rattle.cedar_model.specs.Relocation.Renaming.{IsNode}
use Rattle.cedar_model.specs.Relocation.Reserved.{cells_without, Reserves, SetReserved}
use Rattle.cedar_model.specs.Table.TableFields.{Fields, size_of}
use Rattle.cedar_model.specs.Meaning.WellFormed.{cells_in}
use Rattle.cedar_model.proofs.RelocationLemmas.CarriedTree.{path_kept}
use Rattle.cedar_model.proofs.MeaningLemmas.NumberSlots.{renamed_marks}
use Rattle.cedar_model.proofs.RelocationLemmas.Movable.{node_at_end, not_roots, owned_distinct, owned_own, owned_small, ranged}
use Rattle.cedar_model.proofs.MeaningLemmas.Paths.{one_path, owner_held}
use Rattle.cedar_model.proofs.MeaningLemmas.ReadBack.{short_list}
use Rattle.cedar_model.proofs.RelocationLemmas.KeptSlot.{freed_owned}
use Rattle.cedar_model.proofs.MeaningLemmas.ExclusiveOr.{pos_injective, xor_within}
use Rattle.cedar_model.proofs.MeaningLemmas.TreeOf.{in_use}
use Rattle.cedar_slots.proofs.RingsLemmas.InBlock.{xor_block}

-- ---- how many slots a node owns

-- a new label is one of 256 that a node can have
pub owned_short : (size : ℕ) (T : Cells) (s l : ℕ) (h : Head) (ls : List ℕ) → l < 256 → (T.check (below T s l) ≡ pos s → ⊥) → Family size T s h ls → length (owned_slots h ls) < 256
owned_short size T s l h ls small new f =
    let few : length (l ∷ owned_slots h ls) ≤ 256 = short_list (l ∷ owned_slots h ls) 256 ((λ a. new (owned_own T s h ls f.begins l a)), owned_distinct size T s h ls f) low in
    omega (arith, few)
  where
    low : (q : ℕ) → Among (l ∷ owned_slots h ls) q → q < 256
    low q (inl e) = omega (arith, e, small)
    low q (inr a) = owned_small T s h ls f.begins q a

pub not_owned : (size : ℕ) (T : Cells) (s l : ℕ) (h : Head) (ls : List ℕ) → (T.check (below T s l) ≡ pos s → ⊥) → Family size T s h ls → Among (owned_slots h ls) l → ⊥
not_owned size T s l h ls new f a = new (owned_own T s h ls f.begins l a)

pub owned_at_most : (size : ℕ) (T : Cells) (s : ℕ) (h : Head) (ls : List ℕ) → Family size T s h ls → length (owned_slots h ls) ≤ 256
owned_at_most size T s h ls f = short_list (owned_slots h ls) 256 (owned_distinct size T s h ls f) (owned_small T s h ls f.begins)

among_some : (ls : List ℕ) (x : ℕ) → Among ls x → 0 < length ls
among_some [] x a = absurd a
among_some (y ∷ ls) x a = omega arith

pub owned_some : (size : ℕ) (T : Cells) (s q : ℕ) (h : Head) (ls : List ℕ) → T.check q ≡ pos s → Family size T s h ls → 0 < length (owned_slots h ls)
owned_some size T s q h ls o f = among_some (owned_slots h ls) (below T s q) (f.only q o)

-- ---- the two nodes

-- no node owns itself
not_itself : (size : ℕ) (T : Cells) (f : Forest) (a : ℕ) (v : List ℕ) → HoldsTree size T f → OnPath T v → slot_at T v ≡ a → T.check a ≡ pos a → ⊥
not_itself size T f a [] w on at e = w.root a (ap T.check at ∙ e)
not_itself size T f a (l ∷ v) w on at e =
    let up : slot_at T v ≡ slot_at T (l ∷ v) = pos_injective _ _ (sym on.1 ∙ ap T.check at ∙ e ∙ ap pos (sym at)) in
    let same : l ∷ v ≡ v = one_path T w.root (l ∷ v) v on on.2 (sym up) in
    absurd (omega (arith, ap length same))

-- a node other than the root's has an owner
owner_of : (T : Cells) (a : ℕ) (v : List ℕ) → (a ≡ 0 → ⊥) → OnPath T v → slot_at T v ≡ a → (c : ℕ) × (T.check a ≡ pos c)
owner_of T a [] z on at = absurd (z (sym at))
owner_of T a (l ∷ v) z on at = (slot_at T v, ap T.check (sym at) ∙ on.1)

xor_over : (b x : ℕ) → bit_xor x (bit_xor b x) ≡ b
xor_over b x = xor_comm x (bit_xor b x) ∙ xor_assoc b x x ∙ ap (bit_xor b) (xor_self x) ∙ xor_zero_r b

-- a node that owns a slot outside block 0 has its base there
pub base_low : (size : ℕ) (T : Cells) (p x : ℕ) → 256 ≤ x → T.check x ≡ pos p → IsNode size T p → 256 ≤ base_of T p
base_low size T p x low o n =
    let label : below T p x < 256 = owned_small T p n.head n.labels n.family.begins (below T p x) (n.family.only x o) in
    let block = xor_block x (below T p x) label in
    let same : bit_xor x (below T p x) ≡ base_of T p = xor_over (base_of T p) x in
    let at : base_of T p < 256 → ⊥ = λ h. omega (arith, block, same, low, h) in
    elim (cases_lt (base_of T p) 256) [ inl h ↦ absurd (at h) | inr h ↦ h ]

-- the slot x that node a wants belongs to p
pub record Conflict (size : ℕ) (T : Cells) (a x p : ℕ) : Type 0 where
  pub node : IsNode size T a
  pub inside : x < size
  pub low : 256 ≤ x
  pub owner : IsNode size T p
  pub owner_in : p < size
  pub owner_not_root : p ≡ 0 → ⊥
  pub owner_based : 256 ≤ base_of T p
  pub owner_path : (v : List ℕ) × OnPath T v × (slot_at T v ≡ p)

module _ (F : Fields) (f : Forest) (a l : ℕ) (v : List ℕ) (w : HoldsTree (size_of F) (cells_in F) f) (on : OnPath (cells_in F) v) (at : slot_at (cells_in F) v ≡ a) (z : a ≡ 0 → ⊥) (based : 256 ≤ base_of (cells_in F) a) (small : l < 256) where
  node_here : IsNode (size_of F) (cells_in F) a
  node_here = node_at_end (size_of F) (cells_in F) f a v w on at z

  pub slot_low : 256 ≤ below (cells_in F) a l
  slot_low = let block = xor_block (base_of (cells_in F) a) l small in omega (arith, block, based)

  pub slot_inside : below (cells_in F) a l < size_of F
  slot_inside =
      let r = ranged (size_of F) (cells_in F) a node_here.head node_here.labels z based node_here.family in
      xor_within (size_of F) (base_of (cells_in F) a) l (omega arith) r.1 small

  pub slot_owned : Held (cells_in F) (below (cells_in F) a l) → (c : ℕ) × ((cells_in F).check (below (cells_in F) a l) ≡ pos c)
  slot_owned (inl e) = absurd (omega (arith, slot_low, e))
  slot_owned (inr h) = h

  pub conflict : (x p : ℕ) → x ≡ below (cells_in F) a l → (cells_in F).check x ≡ pos p → Conflict (size_of F) (cells_in F) a x p
  conflict x p is o =
      let T = cells_in F in
      let low : 256 ≤ x = subst (λ y. 256 ≤ y) (sym is) slot_low in
      let way = w.reached x p o in
      let p_not_root : p ≡ 0 → ⊥ = λ e. not_roots (size_of F) T f x w low (o ∙ ap pos e) in
      let there : IsNode (size_of F) T p = node_at_end (size_of F) T f p way.0 w way.1 way.2 p_not_root in
      record {
        node = node_here;
        inside = subst (λ y. y < size_of F) (sym is) slot_inside;
        low = low;
        owner = there;
        owner_in = elim (owner_held (size_of F) T f w x p o) [ inl e ↦ absurd (p_not_root e) | inr h ↦ in_use F p h.0 h.1 ];
        owner_not_root = p_not_root;
        owner_based = base_low (size_of F) T p x low o there;
        owner_path = way;
      }

-- ---- where the node is afterwards

-- the slot that is kept back is the one of the node's base for the label
reserved_at : (F F' : Fields) (a l s k : ℕ) → k ≡ below (cells_in F') s l → s < size_of F' → ((w : List ℕ) → IsAt (cells_in F) w a → IsAt (cells_without (cells_in F') k) w s) → (s ≡ 0 → ⊥) → InRange (size_of F') ((cells_in F').stored s)
    → (cells_in F').check k ≡ pos 0 → ((f : Forest) → HoldsTree (size_of F) (cells_in F) f → HoldsTree (size_of F') (cells_without (cells_in F') k) f) → KeepsMarks (cells_in F) (cells_without (cells_in F') k) → Reserves F F' a l s
reserved_at F F' a l s k is inside at z based reserved tree marks = record {
  inside = inside;
  at = subst (λ x. (w : List ℕ) → IsAt (cells_in F) w a → IsAt (cells_without (cells_in F') x) w s) is at;
  not_root = z;
  based = based;
  reserved = subst (λ x. (cells_in F').check x ≡ pos 0) is reserved;
  tree = subst (λ x. (f : Forest) → HoldsTree (size_of F) (cells_in F) f → HoldsTree (size_of F') (cells_without (cells_in F') x) f) is tree;
  marks = subst (λ x. KeepsMarks (cells_in F) (cells_without (cells_in F') x)) is marks;
}

module _ (F F' : Fields) (f : Forest) (a l : ℕ) (v : List ℕ) (more : size_of F ≤ size_of F') (inside : a < size_of F) (w : HoldsTree (size_of F) (cells_in F) f) (on : OnPath (cells_in F) v) (at : slot_at (cells_in F) v ≡ a) (z : a ≡ 0 → ⊥) (based : 256 ≤ base_of (cells_in F) a) (small : l < 256) where
  -- its own set has moved
  pub reserves_own : (b : ℕ) (ls ws : List ℕ) → 256 ≤ bit_xor b l → bit_xor b l < size_of F' → SetReserved F F' a b (bit_xor b l) ls ws → Reserves F F' a l a
  reserves_own b ls ws first last k =
      let T = cells_in F in
      let T' = cells_without (cells_in F') (bit_xor b l) in
      let stays : k.set.new_slot a ≡ a = k.set.moves.kept a (not_itself (size_of F) T f a v w on at) in
      let block = xor_block b l small in
      let low : 256 ≤ b = low_base b block first in
      let high : b < size_of F' = omega (arith, block, last) in
      let set : (cells_in F').stored a ≡ AtBase b = k.set.set in
      reserved_at F F' a l a (bit_xor b l) (sym (ap (λ st. bit_xor (base_in st) l) set)) (omega (arith, inside, more))
      (λ u i. let kept = path_kept (size_of F) (size_of F') T T' k.set.new_slot k.set.renamed (follow_on u []) i.0 in (kept.0, kept.1 ∙ ap k.set.new_slot i.1 ∙ stays))
      z (subst (InRange (size_of F')) (sym set) (low, high)) k.reserved k.tree (renamed_marks (size_of F) (size_of F') T T' k.set.new_slot f w k.set.renamed)
    where
      low_base : (b : ℕ) → bit_xor b l / 256 ≡ b / 256 → 256 ≤ bit_xor b l → 256 ≤ b
      low_base b block low = omega (arith, block, low)

  -- the set of the slot's owner has moved, the node's slot among it or not
  reserves_other : (p b s : ℕ) (ls ws : List ℕ) → (cells_in F).check (below (cells_in F) a l) ≡ pos p → ((cells_in F).check (below (cells_in F) a l) ≡ pos a → ⊥) → (k : SetReserved F F' p b (below (cells_in F) a l) ls ws) → s ≡ k.set.new_slot a → Reserves F F' a l s
  reserves_other p b s ls ws o n k is =
      let T = cells_in F in
      let x : ℕ = below T a l in
      let T' = cells_without (cells_in F') x in
      let c = owner_of T a v z on at in
      let there : T'.check s ≡ pos (k.set.new_slot c.0) = ap T'.check is ∙ k.set.renamed.check a c.0 c.1 in
      let apart : a ≡ p → ⊥ = λ e. n (o ∙ ap pos (sym e)) in
      let stored : (cells_in F').stored s ≡ T.stored a = ap T'.stored is ∙ k.set.stored a (inr c) apart in
      let node = node_at_end (size_of F) T f a v w on at z in
      let range = ranged (size_of F) T a node.head node.labels z based node.family in
      let high : base_of T a < size_of F' = omega (arith, range.1, more) in
      reserved_at F F' a l s x (sym (ap (λ st. bit_xor (base_in st) l) stored)) (in_use F' s (k.set.new_slot c.0) (freed_owned (cells_in F') x s (k.set.new_slot c.0) there).1)
      (λ u i. let kept = path_kept (size_of F) (size_of F') T T' k.set.new_slot k.set.renamed (follow_on u []) i.0 in (kept.0, kept.1 ∙ ap k.set.new_slot i.1 ∙ sym is))
      (λ e. k.set.renamed.root _ (ap T'.check (sym e) ∙ there)) (subst (InRange (size_of F')) (sym stored) (based, high)) k.reserved k.tree (renamed_marks (size_of F) (size_of F') T T' k.set.new_slot f w k.set.renamed)

  -- the node's slot is one of those that moved
  pub reserves_moved : (p b r x : ℕ) (ls ws : List ℕ) → x ≡ below (cells_in F) a l → (cells_in F).check x ≡ pos p → ((cells_in F).check (below (cells_in F) a l) ≡ pos a → ⊥) → r ≡ base_of (cells_in F) p → (cells_in F).check a ≡ pos p → SetReserved F F' p b x ls ws → Reserves F F' a l (bit_xor (bit_xor b r) a)
  reserves_moved p b r x ls ws is o n base mine k =
      let k₁ : SetReserved F F' p b (below (cells_in F) a l) ls ws = subst (λ y. SetReserved F F' p b y ls ws) is k in
      reserves_other p b _ ls ws (ap (cells_in F).check (sym is) ∙ o) n k₁ (xor_assoc b r a ∙ ap (λ y. bit_xor b (bit_xor y a)) base ∙ sym (k₁.set.moves.moved a mine))

  -- or it isn't
  pub reserves_kept : (p b x : ℕ) (ls ws : List ℕ) → x ≡ below (cells_in F) a l → (cells_in F).check x ≡ pos p → ((cells_in F).check (below (cells_in F) a l) ≡ pos a → ⊥) → ((cells_in F).check a ≡ pos p → ⊥) → SetReserved F F' p b x ls ws → Reserves F F' a l a
  reserves_kept p b x ls ws is o n other k =
      let k₁ : SetReserved F F' p b (below (cells_in F) a l) ls ws = subst (λ y. SetReserved F F' p b y ls ws) is k in
      reserves_other p b a ls ws (ap (cells_in F).check (sym is) ∙ o) n k₁ (sym (k₁.set.moves.kept a other))
