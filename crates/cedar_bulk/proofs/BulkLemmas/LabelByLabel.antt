-- Ascending labels, each put behind the one before it.
use Rattle.std.proofs.Common.{◌≡◌, ℕ, zero, suc, ◌<◌, ◌⊎◌, ◌∙◌, sym, ap, subst, refl, inl, inr, arith, true, false, Option, Some, None, List, [], ◌∷◌, ◌++◌, take}
use Rattle.std.specs.Prelude.{pos, nat_lt, bit_xor}
use Rattle.std.proofs.lemmas.Bool.Decides.{nat_tests}
use Rattle.cedar_model.specs.Tree.{AllAbove, child, Forest, IsAscending, none}
use Rattle.cedar_model.specs.Queries.{node_at}
use Rattle.cedar_model.specs.Edits.{add_leaf, edit_at}
use Rattle.cedar_model.specs.declared.layout.Stored.TheVariants.{AtBase}
use Rattle.cedar_model.specs.Table.Cells.{Cells, Held}
use Rattle.cedar_model.specs.Edit.NodeEdits.{Above, IsAt, IsNodeOf}
use Rattle.cedar_model.specs.Meaning.Family.{Among, base_in, base_of, below, InRange}
use Rattle.cedar_model.specs.Meaning.StandsFor.{HoldsTree}
use Rattle.cedar_slots.specs.Places.{IsTable}
use Rattle.cedar_bulk.specs.Asked.{WantsLabel}
use Rattle.cedar_bulk.specs.Sorted.{GoesLast, GetsLabels, leaves}
use Rattle.cedar_model.specs.Edit.Steps.{root_of}
use Rattle.cedar_model.specs.Table.TableFields.{Fields, SameFrame, size_of}
use Rattle.cedar_model.specs.Meaning.WellFormed.{cells_in}
use Rattle.cedar_model.proofs.EditLemmas.AtPath.{held_node}
use Rattle.cedar_model.proofs.UpdateLemmas.Frame.{frame_same, frame_then}
use Rattle.cedar_model.proofs.MeaningLemmas.TreeOf.{in_use}
use Rattle.cedar_bulk.proofs.BulkLemmas.OneAfterAnother.{ascending_edit, edit_alike, edit_nothing, edit_twice}
use Rattle.cedar_model.proofs.MeaningLemmas.ExclusiveOr.{xor_injective}
use Rattle.cedar_model.proofs.MeaningLemmas.AmongLabels.{above_less, among_front, among_last, among_push}

-- ---- ascending labels

pub above_take : (i b : ℕ) (ls : List ℕ) → Above b ls → Above b (take i ls)
above_take zero b ls a = tt
above_take (suc i) b [] a = tt
above_take (suc i) b (l ∷ ls) a = (a.0, above_take i l ls a.1)

-- the last label is above all others
pub above_last : (b : ℕ) (ls : List ℕ) (x : ℕ) → Above b (ls ++ x ∷ []) → (b < x) × ((m : ℕ) → Among ls m → m < x)
above_last b [] x a = (a.0, λ m e. absurd e)
above_last b (l ∷ ls) x a =
    let k = above_last l ls x a.1 in
    (omega (arith, a.0, k.0), λ m among. below_last m among k)
  where
    below_last : (m : ℕ) → Among (l ∷ ls) m → (l < x) × ((j : ℕ) → Among ls j → j < x) → m < x
    below_last m (inl e) k = subst (λ j. j < x) e k.0
    below_last m (inr h) k = k.1 m h

above_front : (b : ℕ) (ls : List ℕ) (x : ℕ) → Above b (ls ++ x ∷ []) → Above b ls
above_front b [] x a = tt
above_front b (l ∷ ls) x a = (a.0, above_front l ls x a.1)

all_above_leaves : (b : ℕ) (ls : List ℕ) → Above b ls → AllAbove b (leaves ls)
all_above_leaves b [] a = tt
all_above_leaves b (l ∷ ls) a = (a.0, all_above_leaves b ls (above_less b l ls a.0 a.1))

pub ascending_leaves : (b : ℕ) (ls : List ℕ) → Above b ls → IsAscending (leaves ls)
ascending_leaves b [] a = tt
ascending_leaves b (l ∷ ls) a = (all_above_leaves l ls a.1, tt, ascending_leaves l ls a.1)

-- a leaf behind leaves with lower labels
leaf_behind : (ls : List ℕ) (x : ℕ) → ((m : ℕ) → Among ls m → m < x) → add_leaf true x (leaves ls) ≡ leaves (ls ++ x ∷ [])
leaf_behind [] x low = refl
leaf_behind (l ∷ ls) x low =
    let less : l < x = low l (inl refl) in
    let not_before : nat_lt x l ≡ false = grind (arith, nat_tests) in
    rw not_before (ap (child l None none) (leaf_behind ls x (λ m h. low m (inr h))))

-- ---- no label yet

pub no_labels : (size : ℕ) (T : Cells) (a : ℕ) → GetsLabels size T T a []
no_labels size T a = record {
  tree = λ f w h u at bare. subst (HoldsTree size T) (sym (edit_nothing w f) ∙ edit_alike w (λ n. n) (λ n. n) (λ v. v) (λ _. none) None f refl bare) h;
  paths = λ w s at. at;
  stays = λ x h. refl;
  keeps = λ x h. h;
  held = λ x h. inl h;
  leaf = λ l e. absurd e;
  at = λ w l on e. absurd e;
}

-- ---- one more

-- what a label that was put behind the others makes sure of
pub record Appended (size : ℕ) (T T' : Cells) (a x s : ℕ) : Type 0 where
  pub slot : s ≡ below T a x
  pub tree : (f : Forest) (w : List ℕ) → HoldsTree size T f → IsAscending f → IsAt T w a → HoldsTree size T' (edit_at w (λ n. n) (add_leaf true x) f)
  pub leaf : (w : List ℕ) → IsAt T w a → IsAt T' (w ++ x ∷ []) s
  pub paths : (w : List ℕ) (q : ℕ) → IsAt T w q → IsAt T' w q
  pub stays : (q : ℕ) → Held T q → T'.stored q ≡ T.stored q
  pub keeps : (q : ℕ) → Held T q → Held T' q
  pub held : (q : ℕ) → Held T' q → Held T q ⊎ (q ≡ s)
  pub bare : T'.stored s ≡ AtBase 0
  pub owner : T'.check s ≡ pos a
  pub last : T'.sibling s ≡ 0

module _ (size : ℕ) (T T₁ T₂ : Cells) (a x s : ℕ) (done : List ℕ) (up : Above 0 (done ++ x ∷ [])) (way : List ℕ) (here : IsAt T way a) (k : GetsLabels size T T₁ a done) where
  place : below T₁ a x ≡ below T a x
  place = ap (λ st. bit_xor (base_in st) x) (k.stays a (held_node T way a here))

  pub one_more : Appended size T₁ T₂ a x s → GetsLabels size T T₂ a (done ++ x ∷ [])
  one_more more = record {
    tree = λ f w h u at bare.
        let f₁ : Forest = edit_at w (λ n. n) (λ _. leaves done) f in
        let ascends : IsAscending f₁ = ascending_edit w (λ n. n) (λ _. leaves done) (λ _ _. ascending_leaves 0 done (above_front 0 done x up)) f u in
        let there : HoldsTree size T₂ (edit_at w (λ n. n) (add_leaf true x) f₁) = more.tree f₁ w (k.tree f w h u at bare) ascends (k.paths w a at) in
        subst (HoldsTree size T₂) (edit_twice w (λ n. n) (λ n. n) (λ _. leaves done) (add_leaf true x) f ∙ ap (λ g. edit_at w (λ n. n) (λ _. g) f) (leaf_behind done x (above_last 0 done x up).1)) there;
    paths = λ w q at. more.paths w q (k.paths w q at);
    stays = λ q h. more.stays q (k.keeps q h) ∙ k.stays q h;
    keeps = λ q h. more.keeps q (k.keeps q h);
    held = λ q h. by_held q (more.held q h);
    leaf = λ l among. by_leaf l (among_push done x l among);
    at = λ w l on among. by_path w l on (among_push done x l among);
  }
    where
      slot : s ≡ below T a x
      slot = more.slot ∙ place

      by_held : (q : ℕ) → Held T₁ q ⊎ (q ≡ s) → Held T q ⊎ ((l : ℕ) × Among (done ++ x ∷ []) l × (q ≡ below T a l))
      by_held q (inr e) = inr (x, among_last done x, e ∙ slot)
      by_held q (inl h) = elim (k.held q h) [
        | inl old ↦ inl old
        | inr new ↦ inr (new.0, among_front done (x ∷ []) new.0 new.1, new.2)
      ]

      by_leaf : (l : ℕ) → Among done l ⊎ (x ≡ l) → T₂.stored (below T a l) ≡ AtBase 0
      by_leaf l (inl h) = more.stays (below T a l) (held_node T₁ (way ++ l ∷ []) (below T a l) (k.at way l here h)) ∙ k.leaf l h
      by_leaf l (inr e) = subst (λ m. T₂.stored (below T a m) ≡ AtBase 0) e (subst (λ q. T₂.stored q ≡ AtBase 0) slot more.bare)

      by_path : (w : List ℕ) (l : ℕ) → IsAt T w a → Among done l ⊎ (x ≡ l) → IsAt T₂ (w ++ l ∷ []) (below T a l)
      by_path w l on (inl h) = more.paths (w ++ l ∷ []) (below T a l) (k.at w l on h)
      by_path w l on (inr e) = subst (λ m. IsAt T₂ (w ++ m ∷ []) (below T a m)) e (subst (IsAt T₂ (w ++ x ∷ [])) slot (more.leaf w (k.paths w a on)))

  -- the next one's slot is free
  pub next_free : (Held T (below T a x) → ⊥) → Held T₁ (below T₁ a x) → ⊥
  next_free free h = elim (k.held (below T a x) (subst (Held T₁) place h)) [
    | inl old ↦ free old
    | inr new ↦
        let same : x ≡ new.0 = xor_injective _ x new.0 new.2 in
        let less : new.0 < x = (above_last 0 done x up).1 new.0 new.1 in
        omega (arith, same, less)
  ]

-- ---- the loop

pub record Appending (slots size : ℕ) (before after : Fields) (a : ℕ) (done : List ℕ) (last : Option ℕ) : Type 0 where
  pub table : IsTable slots after.places
  pub gets : GetsLabels size (cells_in before) (cells_in after) a done
  pub root_check : (cells_in after).check 0 ≡ (cells_in before).check 0
  pub frame : SameFrame before after
  pub ends : (l : ℕ) → ((m : ℕ) → Among done m → m < l) → GoesLast size (cells_in after) a l last

pub append_begins : (slots : ℕ) (T : Fields) (a : ℕ) (last : Option ℕ) → IsTable slots T.places → ((l : ℕ) → GoesLast (size_of T) (cells_in T) a l last) → Appending slots (size_of T) T T a [] last
append_begins slots T a last table ends = record {
  table = table;
  gets = no_labels (size_of T) (cells_in T) a;
  root_check = refl;
  frame = frame_same T;
  ends = λ l low. ends l;
}

-- what holds of the node while its labels are added
pub node_appending : (slots size : ℕ) (before after : Fields) (a : ℕ) (done : List ℕ) (last : Option ℕ) (f : Forest) (b : ℕ) (more : List ℕ) (n : IsNodeOf size (cells_in before) true f a) → (node_at (root_of f) n.path).children ≡ none → Above b (done ++ more) → Appending slots size before after a done last
    → IsNodeOf size (cells_in after) true (edit_at n.path (λ x. x) (λ _. leaves done) f) a
node_appending slots size before after a done last f b more n bare up k = record {
  holds = k.gets.tree f n.path n.holds (n.ascending refl) n.at bare;
  ascending = λ _. ascending_edit n.path (λ x. x) (λ _. leaves done) (λ _ _. ascending_leaves b done (above_part b done more up)) f (n.ascending refl);
  path = n.path;
  at = k.gets.paths n.path a n.at;
}
  where
    above_part : (c : ℕ) (ls ms : List ℕ) → Above c (ls ++ ms) → Above c ls
    above_part c [] ms h = tt
    above_part c (l ∷ ls) ms h = (h.0, above_part l ls ms h.1)

pub append_on : (slots size : ℕ) (before mid after : Fields) (a x s : ℕ) (done : List ℕ) (last : Option ℕ) (way : List ℕ) → x < 256 → Above 0 (done ++ x ∷ []) → IsAt (cells_in before) way a → Appending slots size before mid a done last
    → IsTable slots after.places → (cells_in after).check 0 ≡ (cells_in mid).check 0 → SameFrame mid after → size_of mid ≡ size → Appended size (cells_in mid) (cells_in after) a x s → Appending slots size before after a (done ++ x ∷ []) (Some s)
append_on slots size before mid after a x s done last way small up here k table root frame same more = record {
  table = table;
  gets = one_more size (cells_in before) (cells_in mid) (cells_in after) a x s done up way here k.gets more;
  root_check = root ∙ k.root_check;
  frame = frame_then before mid after k.frame frame;
  ends = λ l low. record {
    goes = record {
      inside = subst (λ n. s < n) (frame.size ∙ same) (in_use after s a more.owner);
      behind = inr (refl, x, low x (among_last done x), record { positive = (above_last 0 done x up).0; small = small; owner = more.owner; is = place_after });
      place = λ _. inl more.last;
    };
    last = more.last;
  };
}
  where
    place_after : s ≡ below (cells_in after) a x
    place_after = more.slot ∙ ap (λ st. bit_xor (base_in st) x) (sym (more.stays a (held_node (cells_in mid) way a (k.gets.paths way a here))))

-- what the next label asks for
pub append_ready : (slots : ℕ) (before mid : Fields) (a base x : ℕ) (done : List ℕ) (last : Option ℕ) (f : Forest) (n : IsNodeOf (size_of before) (cells_in before) true f a) → (node_at (root_of f) n.path).children ≡ none → Above 0 (done ++ x ∷ [])
    → a < size_of before → ((a ≡ 0 → ⊥) → InRange (size_of before) ((cells_in before).stored a)) → base ≡ base_of (cells_in before) a → (Held (cells_in before) (below (cells_in before) a x) → ⊥) → Appending slots (size_of before) before mid a done last → WantsLabel slots mid a base last x
append_ready slots before mid a base x done last f n bare up inside based is free k =
    let same : size_of before ≡ size_of mid = sym k.frame.size in
    let high = above_last 0 done x up in
    let node = node_appending slots (size_of before) before mid a done last f 0 (x ∷ []) n bare up k in
    record {
      sound = k.table;
      node_in = subst (λ m. a < m) same inside;
      node = (edit_at n.path (λ x. x) (λ _. leaves done) f, subst (λ m. IsNodeOf m (cells_in mid) true (edit_at n.path (λ x. x) (λ _. leaves done) f) a) same node);
      positive = high.0;
      based = λ z. subst (λ m. InRange m ((cells_in mid).stored a)) same (subst (InRange (size_of before)) (sym (k.gets.stays a (held_node (cells_in before) n.path a n.at))) (based z));
      base_is = is ∙ ap base_in (sym (k.gets.stays a (held_node (cells_in before) n.path a n.at)));
      free = next_free (size_of before) (cells_in before) (cells_in mid) (cells_in mid) a x 0 done up n.path n.at k.gets free;
      ends = subst (λ m. GoesLast m (cells_in mid) a x last) same (k.ends x high.1);
    }
