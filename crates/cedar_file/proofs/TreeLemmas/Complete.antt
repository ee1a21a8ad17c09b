-- A table is well-formed if a walk over its nodes comes back to the root and has met all that is held.
use Rattle.std.proofs.Common.{◌≡◌, ◌≢◌, ℕ, ◌+◌, ◌<◌, List, ◌∷◌, length, sym, ◌∙◌, ap, refl, subst, inl, inr, arith, Bool, true, false, Option, Some, None, ℤ}
use Rattle.std.specs.Prelude.{bit_xor, IfSome, negsuc, pos}
use Rattle.std.specs.List.{count_by, range_with_len}
use Rattle.std.proofs.lemmas.Bool.Decides.{Decides-int_eq}
use Rattle.cedar_model.specs.Tree.{AllNumbers, Forest, IsAscending, is_bare, IsSoundBelow, none, child}
use Rattle.cedar_file.specs.declared.check.tree.Walk.{Walk}
use Rattle.cedar_model.specs.Table.Cells.{Cells, is_held}
use Rattle.cedar_file.specs.TreeWalk.{ComesBack, LooksLikeRoot, walk_start}
use Rattle.cedar_model.specs.Meaning.Family.{base_in, below, Family, Links, Node, top}
use Rattle.cedar_model.specs.Meaning.StandsFor.{ChildrenStand, HoldsTree, labels}
use Rattle.cedar_model.specs.Meaning.Reading.{first_in, has_number_slot, number_in}
use Rattle.cedar_slots.specs.Places.{IsTable}
use Rattle.cedar_model.specs.Table.TableFields.{Fields, size_of}
use Rattle.cedar_model.specs.Meaning.WellFormed.{cells_in, is_value, IsWellFormed, slots_below}
use Rattle.cedar_model.proofs.CellsLemmas.HeldSlots.{active_is}
use Rattle.cedar_file.proofs.TreeLemmas.AllMet.{all_listed, chain_of, chain_of-node, owned_of}
use Rattle.cedar_file.proofs.TreeLemmas.LooksLikeNode.{looks_node, Owns}
use Rattle.cedar_file.proofs.TreeLemmas.TreeRead.{Met, ReadTree, tree_walked}
use Rattle.cedar_model.proofs.MeaningLemmas.SearchStep.{has_not}
use Rattle.cedar_model.proofs.MeaningLemmas.NamedSlots.{ChildrenRead}
use Rattle.cedar_model.proofs.MeaningLemmas.ExclusiveOr.{pos_injective}
use Rattle.cedar_model.proofs.MeaningLemmas.TreeOf.{in_use, is_well_formed}
use Rattle.cedar_model.proofs.MeaningLemmas.OneTree.{links_distinct}

-- ---- what was met

chains_read : (size : ℕ) (ordered : Bool) (T : Cells) (s : ℕ) (f : Forest) → Met size ordered T s f → ChildrenRead T s f
chains_read size ordered T s none g = tt
chains_read size ordered T s (child l n u rest) g = (g.2, chains_read size ordered T (below T s l) u g.4, chains_read size ordered T s rest g.5)

numbers_in_range : (size : ℕ) (ordered : Bool) (T : Cells) (s : ℕ) (f : Forest) → Met size ordered T s f → AllNumbers (λ v. is_value v ≡ true) f
numbers_in_range size ordered T s none g = tt
numbers_in_range size ordered T s (child l n u rest) g = (
  subst (λ m. IfSome m (λ v. is_value v ≡ true)) g.1 g.0.value,
  numbers_in_range size ordered T (below T s l) u g.4,
  numbers_in_range size ordered T s rest g.5,
)

labels_ascend : (size : ℕ) (ordered : Bool) (T : Cells) (s : ℕ) (f : Forest) → Met size ordered T s f → ordered ≡ true → IsAscending f
labels_ascend size ordered T s none g o = tt
labels_ascend size ordered T s (child l n u rest) g o =
    (g.3 o, labels_ascend size ordered T (below T s l) u g.4 o, labels_ascend size ordered T s rest g.5 o)

not_bare : (T : Cells) (s : ℕ) (n : Option ℤ) (u : Forest) → number_in T s ≡ n → Links T s (first_in T s) (labels u) → (number_in T s ≡ None → first_in T s ≢ 0) → is_bare (record { number = n; children = u }) ≡ false
not_bare T s (Some v) u e h some = refl
not_bare T s None none e h some = absurd (some e h)
not_bare T s None (child l n u rest) e h some = refl

is_sound : (size : ℕ) (ordered : Bool) (T : Cells) (s c : ℕ) (f : Forest) → Links T s c (labels f) → Met size ordered T s f → IsSoundBelow f
is_sound size ordered T s c none h g = tt
is_sound size ordered T s c (child l n u rest) h g = (
  h.1,
  h.2,
  has_not rest l (links_distinct T s c (l ∷ labels rest) h).0,
  not_bare T (below T s l) n u g.1 g.2 g.0.some,
  is_sound size ordered T (below T s l) (first_in T (below T s l)) u g.2 g.4,
  is_sound size ordered T s (T.sibling (below T s l)) rest h.4 g.5,
)

-- ---- the slots represent the tree

module _ (size : ℕ) (ordered : Bool) (T : Cells) (looks : LooksLikeRoot T) (active : (q c : ℕ) → T.check q ≡ pos c → q < size) (some : 0 < size) (m e : ℕ) (w : ReadTree size ordered T m e) (counted : count_by (is_held T) (range_with_len 0 size) ≡ m) where
  root_unowned : (c : ℕ) → T.check 0 ≡ pos c → ⊥
  root_unowned c o = let z : negsuc 0 ≡ pos c = sym looks.check ∙ o in cc

  all_met : count_by (is_held T) (range_with_len 0 size) ≡ 1 + length (slots_below T 0 w.forest)
  all_met = counted ∙ w.met

  owns : (s : ℕ) (ls : List ℕ) → Links T s (chain_of T s) ls → Owns T s ls
  owns s ls h q o =
      owned_of size T root_unowned active some w.forest w.links (chains_read size ordered T 0 w.forest w.tree) all_met s q ls h o

  children_stand : (s c : ℕ) (f : Forest) → Links T s c (labels f) → Met size ordered T s f → ChildrenStand size T s f
  children_stand s c none h g = tt
  children_stand s c (child l n u rest) h g =
      let b : ℕ = below T s l in
      let not_zero : b ≡ 0 → ⊥ = λ z. root_unowned s (ap T.check (sym z) ∙ h.3) in
      let chain : Links T b (chain_of T b) (labels u) = subst (λ x. Links T b x (labels u)) (sym (chain_of-node T b not_zero)) g.2 in (
        subst (λ k. Node size T b k (labels u)) g.1 (looks_node size T b (labels u) root_unowned g.0 g.2 (owns b (labels u) chain)),
        children_stand b (first_in T b) u g.2 g.4,
        children_stand s (T.sibling b) rest h.4 g.5,
      )

  root_family : Family size T 0 top (labels w.forest)
  root_family = record {
    based = looks.stored;
    begins = (refl, looks.child, w.links);
    only = λ q o. elim (owns 0 (labels w.forest) w.links q o) [ inl number ↦ absurd (no_number number.0) | inr label ↦ label ];
  }
    where
      no_number : has_number_slot T 0 ≡ true → ⊥
      no_number has =
          let at : below T 0 0 ≡ 0 = ap (λ st. bit_xor (base_in st) 0) looks.stored in
          root_unowned 0 (ap T.check (sym at) ∙ (Decides-int_eq (T.check (below T 0 0)) (pos 0)).0 has)

  pub tree_holds : HoldsTree size T w.forest
  tree_holds = record {
    stands = (root_family, children_stand 0 (T.sibling 0) w.forest w.links w.tree);
    root = root_unowned;
    reached = λ q c o.
        (let at = all_listed size T root_unowned active some w.forest w.links (chains_read size ordered T 0 w.forest w.tree) all_met q c o in
        (at.path, at.on, pos_injective _ _ (sym at.owner ∙ o)));
  }

root_is_apart : (T : Cells) → LooksLikeRoot T → (c : ℕ) → T.check 0 ≡ pos c → ⊥
root_is_apart T looks c o = let z : negsuc 0 ≡ pos c = sym looks.check ∙ o in cc

-- a table is well-formed if the walk has met as many slots as are held, and as many numbers as it says
pub walked_well_formed : (slots : ℕ) (T : Fields) (start : Walk) (n m e : ℕ) → start ≡ walk_start (cells_in T) → IsTable slots T.places → LooksLikeRoot (cells_in T) → ComesBack n (size_of T) T.ordered (cells_in T) start m e → m ≡ count_by (is_held (cells_in T)) (range_with_len 0 (size_of T)) → e ≡ T.entries → IsWellFormed slots T
walked_well_formed slots T start n m e begins table looks ends counted entries =
    let c : Cells = cells_in T in
    let size : ℕ = size_of T in
    let some : 0 < size = omega (arith, table.sound.shaped.blocks.some) in
    let w = tree_walked size T.ordered c (root_is_apart c looks) n m e (subst (λ s. ComesBack n size T.ordered c s m e) begins ends) in
    is_well_formed slots T w.forest table
    (sym (active_is T.layout T.places 0 some) ∙ looks.check)
    (tree_holds size T.ordered c looks (in_use T) some m e w (sym counted))
    (is_sound size T.ordered c 0 (c.sibling 0) w.forest w.links w.tree)
    (numbers_in_range size T.ordered c 0 w.forest w.tree)
    (labels_ascend size T.ordered c 0 w.forest w.tree)
    (sym entries ∙ w.numbers)
