-- A node gets its base, its number and its labels.
use Rattle.std.proofs.Common.{◌≡◌, ℕ, ◌<◌, ◌≤◌, ◌⊎◌, ◌∙◌, sym, ap, subst, refl, inl, inr, arith, Option, Some, None, List, [], ◌∷◌, ◌++◌, length}
use Rattle.std.specs.Prelude.{◌%◌, ℤ, pos, bit_xor}
use Rattle.cedar_model.specs.Tree.{empty_tree, Forest, IsAscending, none, Tree}
use Rattle.cedar_model.specs.Queries.{node_at}
use Rattle.cedar_model.specs.Edits.{edit_at}
use Rattle.cedar_model.specs.declared.layout.Stored.TheVariants.{AtBase, OwnNumber}
use Rattle.cedar_model.specs.Table.Cells.{Cells, HasPlaces, Held, SameHeld, Takes}
use Rattle.cedar_model.specs.Edit.NodeEdits.{Above, IsAt, SetsNumber}
use Rattle.cedar_model.specs.Meaning.Family.{Among, base_in, below, InRange}
use Rattle.cedar_model.specs.Meaning.StandsFor.{HoldsTree}
use Rattle.cedar_model.specs.Edit.Own.{FieldSet}
use Rattle.cedar_model.specs.Relocation.Renaming.{Rebased}
use Rattle.cedar_bulk.specs.Sorted.{GoesLast, Fills, GetsBase, GetsLabels, GetsNumber, IsBareNode, IsChildless, leaves, slot_labels}
use Rattle.cedar_model.specs.Edit.Steps.{root_of}
use Rattle.cedar_model.proofs.EditLemmas.AtPath.{held_node, number_set_at, paths_touched}
use Rattle.cedar_bulk.proofs.BulkLemmas.BareNode.{Empty, empty_node}
use Rattle.cedar_model.proofs.EditLemmas.FirstBase.{held_still, leaf_based, leaf_paths}
use Rattle.std.proofs.lemmas.Bool.{cases_eq}
use Rattle.cedar_bulk.proofs.BulkLemmas.OneAfterAnother.{ascending_edit, edit_alike, edit_children, edit_nothing, edit_twice}
use Rattle.cedar_model.proofs.EditLemmas.OwnNumber.{field_paths}
use Rattle.cedar_model.proofs.MeaningLemmas.ExclusiveOr.{xor_again, xor_injective}
use Rattle.cedar_model.proofs.RelocationLemmas.PlacesFirst.{place_of}
use Rattle.cedar_model.proofs.EditLemmas.Room.{root_label_free}
use Rattle.cedar_model.proofs.EditLemmas.NumberWritten.{number_taken}
use Rattle.cedar_model.proofs.MeaningLemmas.Chain.{above_all}

-- ---- the base

-- the root keeps its own
pub root_based : (size : ℕ) (T : Cells) (f : Forest) (w : List ℕ) (a : ℕ) (ls : List ℕ) → HoldsTree size T f → IsAt T w a → node_at (root_of f) w ≡ empty_tree → a ≡ 0 → ((l : ℕ) → Among ls l → (0 < l) × (l < 256)) → GetsBase size size T T a ls
root_based size T f w a ls h at bare z positive = record {
  tree = λ g k. k;
  paths = λ v s k. k;
  stays = λ x k n. refl;
  keeps = λ x k. k;
  held = λ x k. k;
  based = λ n. absurd (n z);
  free = λ l among k. root_label_free size T f l h (positive l among).0 (positive l among).1
      (λ o. (empty_node size T f w a h at bare).alone _ (o ∙ ap pos (sym z))) (subst (λ x. Held T (below T x l)) z k);
}

module _ (size size' : ℕ) (T T₁ T₂ : Cells) (f : Forest) (w : List ℕ) (a base : ℕ) (h : HoldsTree size T f) (at : IsAt T w a) (z : a ≡ 0 → ⊥) (bare : T.stored a ≡ AtBase 0)
    (more : size ≤ size') (whole : size' % 256 ≡ 0) (same : SameHeld T T₁) (set : Rebased T₁ T₂ a base) where
  held_back : (x : ℕ) → Held T₂ x → Held T₁ x
  held_back x (inl e) = inl e
  held_back x (inr o) = inr (o.0, sym (set.check x) ∙ o.1)

  held_on : (x : ℕ) → Held T₁ x → Held T₂ x
  held_on x (inl e) = inl e
  held_on x (inr o) = inr (o.0, set.check x ∙ o.1)

  by_first : (l : ℕ) (ls : List ℕ) → l < 256 → HasPlaces size' T₁ base (l ∷ ls) → GetsBase size size' T T₂ a (l ∷ ls)
  by_first l ls small places =
      let here = place_of size' T₁ base (l ∷ ls) places l (inl refl) in
      let set_at : Rebased T₁ T₂ a (bit_xor (bit_xor base l) l) = subst (Rebased T₁ T₂ a) (sym (xor_again base l)) set in
      let k = leaf_based size size' T T₁ T₂ f w a (bit_xor base l) l h at z bare more whole small same here set_at in
      record {
        tree = k.tree;
        paths = leaf_paths size size' T T₁ T₂ f w a (bit_xor base l) l h at z bare more whole small same here set_at;
        stays = λ x held n. set.stored x n ∙ (same.other x held).stored;
        keeps = λ x held. held_on x (held_still T T₁ x same held);
        held = λ x held. same.free x (held_back x held);
        based = λ _. k.in_range;
        free = λ m among held. (place_of size' T₁ base (l ∷ ls) places m among).free (held_back (bit_xor base m) (subst (Held T₂) (ap (λ st. bit_xor (base_in st) m) set.set) held));
      }

  pub node_based : (ls : List ℕ) → 0 < length ls → ((l : ℕ) → Among ls l → l < 256) → HasPlaces size' T₁ base ls → GetsBase size size' T T₂ a ls
  node_based [] some small places = absurd (omega (arith, some))
  node_based (l ∷ ls) some small places = by_first l ls (small l (inl refl)) places

-- ---- the number

-- none
pub no_number_got : (size : ℕ) (T : Cells) (a : ℕ) → GetsNumber size T T a None
no_number_got size T a = record {
  tree = λ f w h at bare. subst (HoldsTree size T) (sym (edit_nothing w f) ∙ edit_alike w (λ n. n) (λ _. None) (λ u. u) (λ u. u) None f (ap (λ (t : Tree). t.number) bare) refl) h;
  paths = λ w s at. at;
  stays = λ x h. refl;
  keeps = λ x h. h;
  held = λ x h. inl h;
}

module _ (size : ℕ) (T T₁ : Cells) (f : Forest) (w : List ℕ) (a : ℕ) (v : ℤ) (h : HoldsTree size T f) (at : IsAt T w a) (z : a ≡ 0 → ⊥) (empty : Empty T a) (based : InRange size (T.stored a)) (free : Held T (below T a 0) → ⊥)
    (t : Takes T T₁ (below T a 0) a) (value : T₁.base (below T a 0) ≡ v) where
  off : (q : ℕ) → Held T q → q ≡ below T a 0 → ⊥
  off q o e = free (subst (Held T) e o)

  held_a : Held T a
  held_a = held_node T w a at

  no_child : T₁.child a ≡ 0
  no_child = (t.other a (off a held_a) held_a).child ∙ empty.child

  set : SetsNumber size T T₁ a v
  set = number_taken size T T₁ T₁ T₁ f a v h held_a based free t value
      (record { stored = λ x. refl; base = λ x. refl; check = λ x. refl; child = λ x. refl; at = t.sibling ∙ sym no_child; other = λ x n. refl })
      (record { stored = λ x. refl; base = λ x. refl; check = λ x. refl; sibling = λ x. refl; at = no_child; other = λ x n. refl })

  place : below T₁ a 0 ≡ below T a 0
  place = ap (λ st. bit_xor (base_in st) 0) (t.other a (off a held_a) held_a).stored

  pub number_got : GetsNumber size T T₁ a (Some v)
  number_got = record {
    tree = λ g u k on bare. number_set_at size T T₁ g u a v z k on set;
    paths = λ u s on. paths_touched size T T₁ f w a (below T₁ a 0) h at set.touches u s on (λ e. off s (held_node T u s on) (e ∙ place));
    stays = λ x k. (t.other x (off x k) k).stored;
    keeps = λ x k. kept x k;
    held = λ x k. by_slot x k;
  }
    where
      kept : (x : ℕ) → Held T x → Held T₁ x
      kept x (inl e) = inl e
      kept x (inr o) = inr (o.0, (t.other x (off x (inr o)) (inr o)).check ∙ o.1)

      by_slot : (x : ℕ) → Held T₁ x → Held T x ⊎ (x ≡ below T a 0)
      by_slot x k = elim (cases_eq x (below T a 0)) [ inl e ↦ inr e | inr n ↦ inl (t.free x n k) ]

  -- and the first label goes behind it
  pub number_ends : (size' : ℕ) (l : ℕ) → below T a 0 < size' → GoesLast size' T₁ a l (Some (below T a 0))
  number_ends size' l inside = record {
    goes = record { inside = inside; behind = inl (inr (ap T₁.check place ∙ t.at, sym place)); place = λ _. inl t.sibling };
    last = t.sibling;
  }

-- without a number it begins the chain, unless the node is the root
pub root_ends : (size : ℕ) (T : Cells) (a l : ℕ) → 0 < size → a ≡ 0 → Empty T a → GoesLast size T a l (Some 0)
root_ends size T a l some z empty = record {
  goes = record { inside = some; behind = inl (inl (z, refl)); place = λ _. inl (empty.root z) };
  last = empty.root z;
}

pub first_ends : (size : ℕ) (T : Cells) (a l : ℕ) → (a ≡ 0 → ⊥) → Empty T a → GoesLast size T a l None
first_ends size T a l z empty = record {
  goes = record { not_root = z; no_number = λ o. empty.alone _ o; place = λ _. inl empty.child };
  last = empty.child;
}

-- ---- all of it

wanted_too : (number : Option ℤ) (ls : List ℕ) (l : ℕ) → Among ls l → Among (slot_labels number ls) l
wanted_too None ls l h = h
wanted_too (Some v) ls l h = inr h

-- once the number has its slot, those of the labels are free still
pub labels_free : (size size' : ℕ) (T T₁ T₂ : Cells) (a : ℕ) (number : Option ℤ) (ls : List ℕ) → Held T a → Above 0 ls → GetsBase size size' T T₁ a (slot_labels number ls) → GetsNumber size' T₁ T₂ a number
    → (l : ℕ) → Among ls l → Held T₂ (below T₂ a l) → ⊥
labels_free size size' T T₁ T₂ a number ls held up based numbered l among k =
    let there : Held T₂ (below T₁ a l) = subst (Held T₂) (ap (λ st. bit_xor (base_in st) l) (numbered.stays a (based.keeps a held))) k in
    elim (numbered.held (below T₁ a l) there) [
      | inl h ↦ based.free l (wanted_too number ls l among) h
      | inr e ↦ let same : l ≡ 0 = xor_injective _ l 0 e in let high : 0 < l = above_all 0 l ls up among in omega (arith, same, high)
    ]

module _ (size size' : ℕ) (T T₁ T₂ T₃ : Cells) (a : ℕ) (number : Option ℤ) (ls : List ℕ) (w₀ : List ℕ) (at₀ : IsAt T w₀ a)
    (based : GetsBase size size' T T₁ a (slot_labels number ls)) (numbered : GetsNumber size' T₁ T₂ a number) (labelled : GetsLabels size' T₂ T₃ a ls) where
  held₁ : Held T₁ a
  held₁ = based.keeps a (held_node T w₀ a at₀)

  held₂ : Held T₂ a
  held₂ = numbered.keeps a held₁

  base₂ : T₂.stored a ≡ T₁.stored a
  base₂ = numbered.stays a held₁

  base₃ : T₃.stored a ≡ T₁.stored a
  base₃ = labelled.stays a held₂ ∙ base₂

  slot₂ : (l : ℕ) → below T₂ a l ≡ below T₃ a l
  slot₂ l = ap (λ st. bit_xor (base_in st) l) (sym (labelled.stays a held₂))

  slot₁ : (l : ℕ) → below T₃ a l ≡ below T₁ a l
  slot₁ l = ap (λ st. bit_xor (base_in st) l) base₃

  pub filled : Fills size size' T T₃ a number ls
  filled = record {
    tree = λ f w h u at bare.
        let h₁ = based.tree f h in
        let h₂ = numbered.tree f w h₁ (based.paths w a at) bare in
        let f₂ : Forest = edit_at w (λ _. number) (λ x. x) f in
        let childless : (node_at (root_of f₂) w).children ≡ none = edit_children w number None f (ap (λ (t : Tree). t.children) bare) in
        let ascends : IsAscending f₂ = ascending_edit w (λ _. number) (λ x. x) (λ g k. k) f u in
        subst (HoldsTree size' T₃) (edit_twice w (λ _. number) (λ n. n) (λ x. x) (λ _. leaves ls) f) (labelled.tree f₂ w h₂ ascends (numbered.paths w a (based.paths w a at)) childless);
    paths = λ w s at. labelled.paths w s (numbered.paths w s (based.paths w s at));
    stays = λ x k n. labelled.stays x (numbered.keeps x (based.keeps x k)) ∙ numbered.stays x (based.keeps x k) ∙ based.stays x k n;
    keeps = λ x k. labelled.keeps x (numbered.keeps x (based.keeps x k));
    leaf = λ l among. subst (λ s. T₃.stored s ≡ AtBase 0) (slot₂ l) (labelled.leaf l among);
    fresh = λ l among k. based.free l (wanted_too number ls l among) (subst (Held T₁) (slot₁ l) (based.keeps _ k));
    at = λ w l on among. subst (IsAt T₃ (w ++ l ∷ [])) (slot₂ l) (labelled.at w l (numbered.paths w a (based.paths w a on)) among);
  }

-- a number in the base field of its own node, and no label
pub own_filled : (size : ℕ) (T T' : Cells) (f : Forest) (w : List ℕ) (a : ℕ) (v : ℤ) → HoldsTree size T f → IsAt T w a → node_at (root_of f) w ≡ empty_tree → (a ≡ 0 → ⊥) → (Held T size → ⊥) → FieldSet T T' a (OwnNumber v)
    → ((g : Forest) (u : List ℕ) → HoldsTree size T g → IsAt T u a → HoldsTree size T' (edit_at u (λ _. Some v) (λ x. x) g)) → Fills size size T T' a (Some v) []
own_filled size T T' f w a v h at bare z spare set tree = record {
  tree = λ g u k up on empty. subst (HoldsTree size T') (edit_alike u (λ _. Some v) (λ _. Some v) (λ x. x) (λ _. none) None g refl (ap (λ (t : Tree). t.children) empty)) (tree g u k on);
  paths = field_paths size T T' f w a size (OwnNumber v) (Some v) h at z (empty_node size T f w a h at bare).alone set spare (inl (v, refl, refl));
  stays = λ x k n. set.stored x n;
  keeps = λ x k. kept x k;
  leaf = λ l among. absurd among;
  fresh = λ l among k. absurd among;
  at = λ u l on among. absurd among;
}
  where
    kept : (x : ℕ) → Held T x → Held T' x
    kept x (inl e) = inl e
    kept x (inr o) = inr (o.0, set.check x ∙ o.1)

pub no_labels : (ls : List ℕ) → length ls ≡ 0 → [] ≡ ls
no_labels [] e = refl
no_labels (l ∷ ls) e = absurd (omega (arith, e))

-- ---- the node on the way

pub wanted_positive : (number : Option ℤ) (ls : List ℕ) → Above 0 ls → number ≡ None → (l : ℕ) → Among (slot_labels number ls) l → 0 < l
wanted_positive None ls up e l h = above_all 0 l ls up h
wanted_positive (Some v) ls up e l h = cc

pub still_bare : (size size' : ℕ) (T T₁ : Cells) (a : ℕ) (ws : List ℕ) → IsBareNode size T a → GetsBase size size' T T₁ a ws → IsBareNode size' T₁ a
still_bare size size' T T₁ a ws n k = (n.0, record { holds = k.tree n.0 n.1.holds; ascending = n.1.ascending; path = n.1.path; at = k.paths n.1.path a n.1.at }, n.2)

pub still_childless : (size : ℕ) (T T₁ : Cells) (a : ℕ) (number : Option ℤ) → IsBareNode size T a → GetsNumber size T T₁ a number → IsChildless size T₁ a
still_childless size T T₁ a number n k =
    let f : Forest = n.0 in
    let w : List ℕ = n.1.path in (
      edit_at w (λ _. number) (λ x. x) f,
      record {
        holds = k.tree f w n.1.holds n.1.at n.2;
        ascending = λ o. ascending_edit w (λ _. number) (λ x. x) (λ g h. h) f (n.1.ascending o);
        path = w;
        at = k.paths w a n.1.at;
      },
      edit_children w number None f (ap (λ (t : Tree). t.children) n.2),
    )
