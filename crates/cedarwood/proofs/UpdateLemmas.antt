-- What an update of the table says of the dictionary.
use Rattle.std.proofs.Common.{◌≡◌, ℕ, ℤ, ◌+◌, ◌*◌, ◌-◌, ◌<◌, ◌≤◌, ◌⊎◌, inl, inr, Bool, true, false, cond, int_le, ◌&&◌, ◌==◌, pos, List, [], ◌∷◌, length, Option, Some, None, IfSome, IsSome, is_some, option_map, position, refl, ap, sym, subst, ◌∙◌, arith, Result, Ok, Err, OnOk, OnErr, IfErr, IsErr, IsOk, rules}
use Rattle.std.proofs.lemmas.Result.{on_ok_weaker, on_err_weaker}
use Rattle.cedar_tree.specs.Tree.{Tree, has_label, number_at, put}
use Rattle.cedar_tree.specs.Queries.{slots_of_tree}
use Rattle.cedar_tree.specs.State.{after_put, State}
use Rattle.cedarwood.specs.declared.error.CedarError.{CedarError}
use Rattle.cedarwood.specs.declared.error.CedarError.TheVariants.{EmptyKey, NulByte, InvalidValue}
use Rattle.cedar_model.specs.Table.Cells.{NoPlace}
use Rattle.cedar_model.specs.Table.Layouts.{default_layout}
use Rattle.cedar_model.specs.Meaning.Marks.{marks, MarksPut}
use Rattle.cedar_slots.specs.Places.{MayRefuse}
use Rattle.cedar_model.specs.Edit.Steps.{MakesBlocks, SameModes, blocks_after}
use Rattle.cedar_model.specs.Edit.Packing.{PacksKey}
use Rattle.cedar_model.specs.Table.TableFields.{Fields, capacity_of, size_of}
use Rattle.cedar_model.specs.Meaning.WellFormed.{IsWellFormed, cells_in, tree_of}
use Rattle.cedar_model.proofs.MeaningLemmas.FullBlocks.{full_blocks_counted}
use Rattle.cedar_model.proofs.MeaningLemmas.HeldCount.{count_is_marked}
use Rattle.cedar_model.proofs.UpdateLemmas.Packing.{full_held}
use Rattle.cedarwood.specs.Dictionary.{Dictionary, Grows, first_bytes}
use Rattle.cedar_slots.specs.declared.shortage.Shortage.{Shortage}
use Rattle.cedar_slots.specs.declared.shortage.Shortage.TheVariants as shortage
use Rattle.cedarwood.specs.Fault.{fault, key_fault, value_fault, or_else, IsShortage}
use Rattle.cedarwood.specs.Told.{error_of_shortage}
use Rattle.cedarwood.specs.Updates.{PacksUpdate}
use Rattle.cedarwood.proofs.GrowthLemmas.{dictionary_of, blocks_stay, grows}
use Rattle.cedarwood.proofs.SortedInputLemmas.{not_both}

-- ---- a pair with a fault

some_is : (a b : CedarError) → Some a ≡ Some b → a ≡ b
some_is a b h = cc

err_is : {X : Type 0} (r : Result X CedarError) (a b : CedarError) → r ≡ Err a → r ≡ Err b → a ≡ b
err_is r a b p q = cc

first_or_other : (a b : Option CedarError) (e : CedarError) → or_else a b ≡ Some e → (a ≡ Some e) ⊎ (b ≡ Some e)
first_or_other None b e h = inr h
first_or_other (Some x) b e h = inl h

mapped_some : (f : ℕ → CedarError) (o : Option ℕ) (e : CedarError) → option_map f o ≡ Some e → (n : ℕ) × (f n ≡ e)
mapped_some f None e h = cc
mapped_some f (Some n) e h = (n, some_is (f n) e h)

chosen_some : (b : Bool) (x e : CedarError) → cond b None (Some x) ≡ Some e → x ≡ e
chosen_some true x e h = cc
chosen_some false x e h = some_is x e h

key_fault_no_shortage : (key : List ℕ) (e : CedarError) → key_fault key ≡ Some e → IsShortage e → ⊥
key_fault_no_shortage [] e h s = subst IsShortage (sym (some_is EmptyKey e h)) s
key_fault_no_shortage (b ∷ rest) e h s =
    let found : (n : ℕ) × (NulByte n ≡ e) = mapped_some NulByte (position (λ c. c == 0) (b ∷ rest)) e h in
    subst IsShortage (sym found.1) s

-- a pair's fault is no want of memory or slots
pub fault_no_shortage : (key : List ℕ) (v : ℤ) (e : CedarError) → fault key v ≡ Some e → IsShortage e → ⊥
fault_no_shortage key v e h s = elim (first_or_other (key_fault key) (value_fault v) e h) [
  | inl k ↦ key_fault_no_shortage key e k s
  | inr w ↦ subst IsShortage (sym (chosen_some (int_le (pos 0) v && int_le v (pos 2147483645)) (InvalidValue v) e w)) s
]

-- what a refused test says: the fault, whichever it is
pub fault_of : {X : Type 0} (f : Option CedarError) (r : Result X CedarError) (e : CedarError) → IfSome f (λ x. r ≡ Err x) → (f ≡ None → IsOk r) → r ≡ Err e → f ≡ Some e
fault_of None r e h sound was = absurd (not_both r e (sound refl) was)
fault_of (Some x) r e h sound was = ap Some (err_is r x e h was)

pub has_fault : {X : Type 0} (f : Option CedarError) (r : Result X CedarError) (e : CedarError) → (f ≡ None → IsOk r) → r ≡ Err e → f ≡ None → ⊥
has_fault f r e sound was none = not_both r e (sound none) was

-- what is said of a refusal's error
pub why_refused : {X E : Type 0} (P : E → Type 0) (r : Result X E) (e : E) → IfErr r P → r ≡ Err e → P e
why_refused P r e h is = subst (λ x. IfErr x P) is h

-- ---- a pair without one

is_ok_of : {X E : Type 0} (r : Result X E) → OnErr r ⊥ → IsOk r
is_ok_of (Ok x) h = search rules
is_ok_of (Err e) h = absurd h

unheld : (o : Option ℤ) → (is_some o ≡ true → ⊥) → o ≡ None
unheld None h = refl
unheld (Some v) h = absurd (h refl)

is_shortage : (e : Shortage) → IsShortage (error_of_shortage e)
is_shortage shortage.Memory = tt
is_shortage shortage.SlotLimit = tt

refusals : {X : Type 0} (r : Result X Shortage) (o : Option ℤ) → (is_some o ≡ true → OnErr r ⊥) → IfErr r (λ e. IsShortage (error_of_shortage e) × (o ≡ None))
refusals (Ok x) o over = tt
refusals (Err e) o over = (is_shortage e, unheld o over)

-- a refusal with fewer blocks made than there are bytes, once all blocks are in use, leaves too few spare ones before
in_use : (T' : Fields) (slots : ℕ) (e : Shortage) → 256 * length T'.places.blocks.records ≤ slots → MayRefuse T'.places slots e → length T'.places.blocks.records ≤ T'.places.blocks.active
in_use T' slots shortage.Memory within h = omega (arith, h.0)
in_use T' slots shortage.SlotLimit within h = omega arith

enough : {X : Type 0} (n k slots : ℕ) (T T' : Fields) (r : Result X Shortage) → 256 * length T'.places.blocks.records ≤ slots
    → IfErr r (λ e. MayRefuse T'.places slots e) → OnErr r (n < k) → MakesBlocks n T T' → 256 * k ≤ capacity_of T - size_of T → IsOk r
enough n k slots T T' (Ok x) within h few made room = search rules
enough n k slots T T' (Err e) within h few made room =
    let all : length T'.places.blocks.records ≤ T'.places.blocks.active = in_use T' slots e within h in
    let stay : length T.places.blocks.records ≤ blocks_after n T.places.blocks.active (length T.places.blocks.records) = blocks_stay n T.places.blocks.active (length T.places.blocks.records) in
    absurd (omega (arith, made.active, made.capacity, few))

same_stored : (t : Tree) (ordered o : Bool) (old : State) (key : List ℕ) (v w : ℤ) → old.tree ≡ t → old.ordered ≡ o → w ≡ v → ordered ≡ o
    → ◌≡◌ {A = State} (record { tree = put t o key w; ordered = ordered }) (after_put old key v)
same_stored t ordered o old key v w e f g h = cc

module _ {X : Type 0} (slots limit : ℕ) (T T' : Fields) (d : Dictionary) (same : dictionary_of limit T ≡ d) (r : Result X Shortage) (key : List ℕ) where
  same_tree : d.state.tree ≡ tree_of T
  same_tree = ap (λ (x : Dictionary). x.state.tree) (sym same)

  same_order : d.state.ordered ≡ T.ordered
  same_order = ap (λ (x : Dictionary). x.state.ordered) (sym same)

  pub stored_is : (v w : ℤ) → w ≡ v → SameModes T T' → OnOk r (tree_of T' ≡ put (tree_of T) T.ordered key w)
      → OnOk r (◌≡◌ {A = State} (record { tree = tree_of T'; ordered = T'.ordered }) (after_put d.state key v))
  stored_is v w e modes =
      on_ok_weaker r (λ (done : tree_of T' ≡ put (tree_of T) T.ordered key w).
      ap (λ t. record { tree = t; ordered = T'.ordered }) done
      ∙ same_stored (tree_of T) T'.ordered T.ordered d.state key v w same_tree same_order e modes.ordered)

  pub marks_follow : (P : Type 0) → OnOk r (P → MarksPut (tree_of T) (marks T) (marks T') key) → OnOk r (P → MarksPut d.state.tree d.marked (marks T') key)
  marks_follow P done = subst (λ (x : Dictionary). OnOk r (P → MarksPut x.state.tree x.marked (marks T') key)) same done

  pub marks_remain : OnErr r (marks T' ≡ marks T) → OnErr r (marks T' ≡ d.marked)
  marks_remain kept = subst (λ (x : Dictionary). OnErr r (marks T' ≡ x.marked)) same kept

  pub state_stays : SameModes T T' → OnErr r (tree_of T' ≡ tree_of T)
      → OnErr r (◌≡◌ {A = State} (record { tree = tree_of T'; ordered = T'.ordered }) d.state)
  state_stays modes =
      on_err_weaker r (λ (kept : tree_of T' ≡ tree_of T). let tree : d.state.tree ≡ tree_of T = same_tree in let order : d.state.ordered ≡ T.ordered = same_order in let now : T'.ordered ≡ T.ordered = modes.ordered in cc)

  pub is_refused : (is_some (number_at (tree_of T) key) ≡ true → OnErr r ⊥ × MakesBlocks 0 T T')
      → IfErr r (λ e. IsShortage (error_of_shortage e) × (number_at d.state.tree key ≡ None))
  is_refused over =
      refusals r (number_at d.state.tree key) (λ held. (over (subst (λ t. is_some (number_at t key) ≡ true) same_tree held)).0)

  pub grows_by : (n : ℕ) → MakesBlocks n T T' → Grows n d (dictionary_of limit T')
  grows_by n made = subst (λ x. Grows n x (dictionary_of limit T')) same (grows n limit T T' made)

  pub is_spare : (n : ℕ) → 256 * length T'.places.blocks.records ≤ slots → IfErr r (λ e. MayRefuse T'.places slots e) → OnErr r (n < length key) → MakesBlocks n T T'
      → 256 * length key ≤ d.capacity - d.size → IsOk r
  is_spare n within h few made room =
      let room' : 256 * length key ≤ capacity_of T - size_of T = subst (λ (x : Dictionary). 256 * length key ≤ x.capacity - x.size) (sym same) room in
      enough n (length key) slots T T' r within h few made room'

  pub over_held : (is_some (number_at (tree_of T) key) ≡ true → OnErr r ⊥ × MakesBlocks 0 T T') → IsSome (number_at d.state.tree key) → Grows 0 d (dictionary_of limit T')
  over_held over held = grows_by 0 (over (subst (λ t. IsSome (number_at t key)) same_tree held)).1

  pub at_one_byte : IsWellFormed slots T → (b : ℕ)
      → (has_label (tree_of T).children b ≡ false → (OnErr r ⊥ × MakesBlocks 0 T T') ⊎ (T.layout ≡ default_layout) × NoPlace (size_of T) (cells_in T))
      → has_label d.state.tree.children b ≡ false
      → (IsOk r × Grows 0 d (dictionary_of limit T')) ⊎ (T.layout ≡ default_layout) × (d.size + first_bytes d.state.tree ≡ slots_of_tree d.state.tree + 255)
  at_one_byte well b made absent = elim (made (subst (λ (t : Tree). has_label t.children b ≡ false) same_tree absent)) [
    | inl m ↦ inl (is_ok_of r m.0, grows_by 0 m.1)
    | inr full ↦ inr (full.0, subst (λ (x : Dictionary). x.size + first_bytes x.state.tree ≡ slots_of_tree x.state.tree + 255) same (full_blocks_counted slots T well full.0 full.1))
  ]

  -- how few slots stay free
  pub packs_update : IsWellFormed slots T → IsWellFormed slots T' → PacksKey T T' key → PacksUpdate d (dictionary_of limit T') key
  packs_update well well' packs = subst (λ (x : Dictionary). PacksUpdate x (dictionary_of limit T') key) same (by_case packs)
    where
      by_case : PacksKey T T' key → PacksUpdate (dictionary_of limit T) (dictionary_of limit T') key
      by_case (inl (inl few)) = inl few
      by_case (inl (inr free)) = inr (inl (omega (arith, free (tree_of T').children well'.stands, count_is_marked slots T' well')))
      by_case (inr full) = inr (inr (omega (arith, full_held slots T (tree_of T).children well.table well.stands full.0, count_is_marked slots T well), full.1, full.2))
