-- A set moved to places that were looked for first.
use Rattle.std.proofs.Common.{◌≡◌, ℕ, suc, ◌<◌, ◌≤◌, List, [], ◌∷◌, length, get_or, sym, ◌∙◌, ap, subst, inl, inr, arith}
use Rattle.std.specs.Prelude.{◌%◌, pos, bit_xor}
use Rattle.std.specs.Int.Bits.{xor_self}
use Rattle.std.proofs.lemmas.List.{get_or_default}
use lib.Bits.{xor_assoc, xor_zero_r}
use Rattle.cedar_tree.specs.Tree.{Forest}
use Rattle.cedar_model.specs.Table.Cells.{Cells, HasPlaces, Held, IsPlace, SameHeld}
use Rattle.cedar_model.specs.Meaning.Family.{base_in, base_of, below, Head, Among, owned_slots, Family}
use Rattle.cedar_model.specs.Meaning.StandsFor.{slot_at, OnPath, HoldsTree}
use Rattle.cedar_model.specs.Relocation.Renaming.{Movable, Relocated, Renamed, SetMoved}
use Rattle.cedar_slots.proofs.RingsLemmas.InBlock.{xor_block}
use Rattle.cedar_model.proofs.MeaningLemmas.Paths.{owner_held}
use Rattle.cedar_model.proofs.RelocationLemmas.CarriedTree.{holds_renamed, path_kept, same_renamed}
use Rattle.cedar_model.proofs.RelocationLemmas.Movable.{movable, stays_free, vacated}

-- a label of a list is at some place in it
among_index : (ls : List ℕ) (l : ℕ) → Among ls l → (i : ℕ) × (i < length ls) × (get_or ls i 0 ≡ l)
among_index [] l a = absurd a
among_index (x ∷ ls) l (inl e) = (0, omega arith, e)
among_index (x ∷ ls) l (inr a) = let w = among_index ls l a in (suc w.0, omega (arith, w.1), w.2)

pub among_small : (ls : List ℕ) → ((i : ℕ) → get_or ls i 0 < 256) → (l : ℕ) → Among ls l → l < 256
among_small ls bytes l a = let w = among_index ls l a in subst (λ x. x < 256) w.2 (bytes w.0)

pub place_of : (size : ℕ) (T : Cells) (b : ℕ) (ws : List ℕ) → HasPlaces size T b ws → (l : ℕ) → Among ws l → IsPlace size T (bit_xor b l)
place_of size T b ws room l a = let w = among_index ws l a in subst (λ x. IsPlace size T (bit_xor b x)) w.2 (room w.0 0 w.1)

-- a place for one label alone
pub one_place : (size : ℕ) (T : Cells) (s x : ℕ) (ws : List ℕ) → length ws ≡ 1 → x ≡ get_or ws 0 0 → IsPlace size T s → HasPlaces size T (bit_xor s x) ws
one_place size T s x ws one is place i d inside =
    let first : i ≡ 0 = omega arith in
    let label : get_or ws i d ≡ x = ap (λ k. get_or ws k d) first ∙ sym (get_or_default ws 0 0 d (omega arith)) ∙ sym is in
    let there : bit_xor (bit_xor s x) (get_or ws i d) ≡ s = ap (bit_xor (bit_xor s x)) label ∙ xor_assoc s x x ∙ ap (bit_xor s) (xor_self x) ∙ xor_zero_r s in
    subst (IsPlace size T) (sym there) place

-- a base from which a label has a place lies outside block 0, among the slots in use
pub base_placed : (size : ℕ) (T : Cells) (b : ℕ) (ws : List ℕ) → size % 256 ≡ 0 → 0 < length ws → get_or ws 0 0 < 256 → HasPlaces size T b ws → (256 ≤ b) × (b < size)
base_placed size T b ws whole some small room =
    let place = room 0 0 some in
    let block = xor_block b (get_or ws 0 0) small in
    (omega (arith, block, place.not_first), omega (arith, block, place.in_use))

-- two renamings, of which the first renames nothing
renamed_then : (size size' : ℕ) (T T₁ T' : Cells) (r : ℕ → ℕ) → Renamed size size' T T₁ (λ q. q) → Renamed size' size' T₁ T' r → Renamed size size' T T' r
renamed_then size size' T T₁ T' r k m = record {
  keeps = record {
    root = λ ls f. m.keeps.root ls (k.keeps.root ls f);
    root_stays = m.keeps.root_stays;
    node = λ c s h ls o f. m.keeps.node c s h ls (k.check s c o) (k.keeps.node c s h ls o f);
    steps = λ s l o.
        let same : below T s l ≡ below T₁ s l = k.keeps.steps s l o in
        ap r same ∙ m.keeps.steps s l (ap T₁.check (sym same) ∙ k.check (below T s l) s o);
  };
  root = m.root;
  root_check = m.root_check ∙ k.root_check;
  check = λ q c e. m.check q c (k.check q c e);
  back = λ q d e.
      let v = m.back q d e in
      let u = k.back v.0 v.1 v.2 in
      (u.0, u.1, u.2, ap r u.3 ∙ v.3, ap r u.4 ∙ v.4);
}

module _ (size size' : ℕ) (T T₁ : Cells) (f : Forest) (p b : ℕ) (path : List ℕ) (hd : Head) (ls ws : List ℕ)
    (more : size ≤ size') (whole : size' % 256 ≡ 0) (same : SameHeld T T₁) (w : HoldsTree size T f)
    (on : OnPath T path) (at : slot_at T path ≡ p) (z : p ≡ 0 → ⊥) (fam : Family size T p hd ls) (based : 256 ≤ base_of T p)
    (all : (l : ℕ) → Among (owned_slots hd ls) l → Among ws l) (bytes : (i : ℕ) → get_or ws i 0 < 256) (some : 0 < length ws)
    (room : HasPlaces size' T₁ b ws) where
  first : Renamed size size' T T₁ (λ q. q)
  first = same_renamed size size' T T₁ more same w.root (owner_held size T f w)

  held : Held T p
  held = on_held path on at
    where
      on_held : (v : List ℕ) → OnPath T v → slot_at T v ≡ p → Held T p
      on_held [] h e = inl (sym e)
      on_held (l ∷ v) h e = inr (slot_at T v, ap T.check (sym e) ∙ h.1)

  stored_same : T₁.stored p ≡ T.stored p
  stored_same = (same.other p held).stored

  kept : OnPath T₁ path × (slot_at T₁ path ≡ slot_at T path)
  kept = path_kept size size' T T₁ (λ q. q) first path on

  node_there : Family size' T₁ p hd ls
  node_there = elim held [
    | inl e ↦ absurd (z e)
    | inr h ↦ first.keeps.node h.0 p hd ls h.1 fam
  ]

  pub can_relocate : Movable size' T₁ p b (owned_slots hd ls)
  can_relocate =
      let range = base_placed size' T₁ b ws whole some (bytes 0) room in
      movable size' T₁ f b p path whole (holds_renamed size size' T T₁ (λ q. q) first f w) kept.0 (kept.1 ∙ at) z range.0 range.1 hd ls node_there
      (subst (λ st. 256 ≤ base_in st) (sym stored_same) based)
      (λ m a. (place_of size' T₁ b ws room m (all m a)).free)

  pub set_moved : (T' : Cells) → Relocated size' T₁ T' p b → SetMoved size size' T T' p b (owned_slots hd ls) ws
  set_moved T' k = record {
    new_slot = k.new_slot;
    renamed = renamed_then size size' T T₁ T' k.new_slot first k.renamed;
    moves = record {
      moved = λ q o. k.moves.moved q (first.check q p o) ∙ ap (λ st. bit_xor b (bit_xor (base_in st) q)) stored_same;
      kept = λ q n. k.moves.kept q (λ o. n (before q o));
    };
    set = k.set;
    stored = λ q h n. k.stored q (there q h) n ∙ (same.other q h).stored;
    vacated = λ x o. vacated size' T₁ T' p b (owned_slots hd ls) can_relocate k x (first.check x p o);
    room = λ l a n.
        let place = place_of size' T₁ b ws room l a in
        record { not_first = place.not_first; in_use = place.in_use; free = stays_free size' T₁ T' p b (owned_slots hd ls) can_relocate k l n place.free };
  }
    where
      there : (q : ℕ) → Held T q → Held T₁ q
      there q (inl e) = inl e
      there q (inr h) = inr (h.0, first.check q h.0 h.1)

      before : (q : ℕ) → T₁.check q ≡ pos p → T.check q ≡ pos p
      before q o = let v = first.back q p o in ap T.check (sym v.3) ∙ v.2 ∙ ap pos v.4

-- the tree, once blocks were made
pub same_holds : (size size' : ℕ) (T T' : Cells) → size ≤ size' → SameHeld T T' → (f : Forest) → HoldsTree size T f → HoldsTree size' T' f
same_holds size size' T T' more same f w = holds_renamed size size' T T' (λ q. q) (same_renamed size size' T T' more same w.root (owner_held size T f w)) f w
