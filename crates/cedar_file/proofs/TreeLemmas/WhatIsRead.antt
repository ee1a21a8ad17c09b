-- What is read of a node says whether its slot looks like a node's, and where a walk goes on from it.
use Rattle.std.proofs.Common.{◌≡◌, ◌≢◌, ℕ, ◌+◌, ◌<◌, ◌≤◌, sym, ◌∙◌, ap, refl, subst, arith, true, false, cond, Option, Some, None, is_some, ℤ, Result, Ok, Err}
use Rattle.std.specs.Prelude.{bit_xor, IfOk, IfSome, MatchOption, negsuc, OnErr, pos}
use lib.Bits.{xor_zero_r}
use Rattle.std.proofs.lemmas.Bool.{false≢true}
use Rattle.cedar_file.specs.declared.check.tree.Walk.{Walk}
use Rattle.cedar_model.specs.declared.layout.Stored.TheVariants.{AtBase, OwnNumber, Nothing}
use Rattle.cedar_model.specs.Table.Cells.{Cells}
use Rattle.cedar_file.specs.TreeWalk.{GoesDown, IsOfNode, LooksLikeNode, LooksLikeRoot, number_count_at, slots_at, walk_down, walk_met}
use Rattle.cedar_model.specs.Meaning.Family.{base_in, below}
use Rattle.cedar_model.specs.Meaning.Reading.{first_in, has_number_slot, number_in, own_number}
use Rattle.cedar_model.specs.Meaning.WellFormed.{is_value}
use Rattle.cedar_model.proofs.MeaningLemmas.OneTree.{owns_no, owns_yes}

pub same_walk : (s b b' c c' m m' n n' : ℕ) → b ≡ b' → c ≡ c' → m ≡ m' → n ≡ n' → ◌≡◌ {A = Walk} (record { node = s; base = b; label = c; met = m; numbers = n }) (record { node = s; base = b'; label = c'; met = m'; numbers = n' })
same_walk s b b' c c' m m' n n' p q r t = cc

module _ (size : ℕ) (T : Cells) (s : ℕ) where
  -- ---- a node with a base

  number_slot_at : (b : ℕ) → T.stored s ≡ AtBase b → below T s 0 ≡ b
  number_slot_at b is = ap (λ st. bit_xor (base_in st) 0) is ∙ xor_zero_r b

  has_slot : (b : ℕ) → T.stored s ≡ AtBase b → T.check b ≡ pos s → has_number_slot T s ≡ true
  has_slot b is own = owns_yes T s (ap T.check (number_slot_at b is) ∙ own)

  lacks_slot : (b : ℕ) → T.stored s ≡ AtBase b → T.check b ≢ pos s → has_number_slot T s ≡ false
  lacks_slot b is other = owns_no T s (λ o. other (ap T.check (sym (number_slot_at b is)) ∙ o))

  number_in_slot : (b : ℕ) → T.stored s ≡ AtBase b → T.check b ≡ pos s → number_in T s ≡ Some (T.base b)
  number_in_slot b is own =
      ap (λ t. cond t (Some (T.base (below T s 0))) (own_number (T.stored s))) (has_slot b is own) ∙ ap (λ x. Some (T.base x)) (number_slot_at b is)

  number_none : (b : ℕ) → T.stored s ≡ AtBase b → T.check b ≢ pos s → number_in T s ≡ None
  number_none b is other =
      ap (λ t. cond t (Some (T.base (below T s 0))) (own_number (T.stored s))) (lacks_slot b is other) ∙ ap own_number is

  pub base_outside : (b : ℕ) → T.stored s ≡ AtBase b → size ≤ b → LooksLikeNode size T s → ⊥
  base_outside b is far looks = let at : IsOfNode size (AtBase b) = subst (IsOfNode size) is looks.stored in omega (arith, far, at.1)

  pub base_low : (b : ℕ) → T.stored s ≡ AtBase b → b < 256 → LooksLikeNode size T s → ⊥
  base_low b is low looks = let at : IsOfNode size (AtBase b) = subst (IsOfNode size) is looks.stored in omega (arith, low, at.0)

  pub valued_child : (b : ℕ) → T.stored s ≡ AtBase b → T.check b ≡ pos s → LooksLikeNode size T s → (T.child s ≡ 0) × (T.child b ≡ 0) × (is_value (T.base b) ≡ true)
  valued_child b is own looks = (
    (looks.in_slot (has_slot b is own)).0,
    ap T.child (sym (number_slot_at b is)) ∙ (looks.in_slot (has_slot b is own)).1,
    subst (λ m. IfSome m (λ v. is_value v ≡ true)) (number_in_slot b is own) looks.value,
  )

  pub valued_looks : (b : ℕ) → T.stored s ≡ AtBase b → T.check b ≡ pos s → 256 ≤ b → b < size → T.child s ≡ 0 → T.child b ≡ 0 → is_value (T.base b) ≡ true → LooksLikeNode size T s
  valued_looks b is own low high child number value = record {
    stored = subst (IsOfNode size) (sym is) (low, high);
    own = λ v e. (let other : AtBase b ≡ OwnNumber v = sym is ∙ e in cc);
    in_slot = λ _. (child, ap T.child (number_slot_at b is) ∙ number);
    value = subst (λ m. IfSome m (λ v. is_value v ≡ true)) (sym (number_in_slot b is own)) value;
    some = λ e. (let other : Some (T.base b) ≡ None = sym (number_in_slot b is own) ∙ e in cc);
  }

  pub valued_walk : (b : ℕ) (w : Walk) → T.stored s ≡ AtBase b → T.check b ≡ pos s → ◌≡◌ {A = Walk} (record { node = s; base = b; label = T.sibling b; met = w.met + 2; numbers = w.numbers + 1 }) (walk_met T w s)
  valued_walk b w is own =
      let has = has_slot b is own in
      let first : first_in T s ≡ T.sibling b = ap (λ t. cond t (T.sibling (below T s 0)) (T.child s)) has ∙ ap T.sibling (number_slot_at b is) in
      let slots : slots_at T s ≡ 2 = ap (λ t. 1 + cond {A = ℕ} t 1 0) has in
      let numbers : number_count_at T s ≡ 1 = ap (λ n. cond {A = ℕ} (is_some n) 1 0) (number_in_slot b is own) in
      same_walk s _ _ _ _ _ _ _ _ (sym (ap base_in is)) (sym first) (omega (arith, slots)) (omega (arith, numbers))

  pub plain_child : (b : ℕ) → T.stored s ≡ AtBase b → T.check b ≢ pos s → T.child s ≡ 0 → LooksLikeNode size T s → ⊥
  plain_child b is other child looks =
      looks.some (number_none b is other) (ap (λ t. cond t (T.sibling (below T s 0)) (T.child s)) (lacks_slot b is other) ∙ child)

  pub plain_looks : (b : ℕ) → T.stored s ≡ AtBase b → T.check b ≢ pos s → 256 ≤ b → b < size → T.child s ≢ 0 → LooksLikeNode size T s
  plain_looks b is other low high child = record {
    stored = subst (IsOfNode size) (sym is) (low, high);
    own = λ v e. (let differs : AtBase b ≡ OwnNumber v = sym is ∙ e in cc);
    in_slot = λ has. absurd (false≢true (sym (lacks_slot b is other) ∙ has));
    value = subst (λ m. IfSome m (λ v. is_value v ≡ true)) (sym (number_none b is other)) tt;
    some = λ _ zero. child (sym (ap (λ t. cond t (T.sibling (below T s 0)) (T.child s)) (lacks_slot b is other)) ∙ zero);
  }

  pub plain_walk : (b : ℕ) (w : Walk) → T.stored s ≡ AtBase b → T.check b ≢ pos s → ◌≡◌ {A = Walk} (record { node = s; base = b; label = T.child s; met = w.met + 1; numbers = w.numbers }) (walk_met T w s)
  plain_walk b w is other =
      let lacks = lacks_slot b is other in
      let first : first_in T s ≡ T.child s = ap (λ t. cond t (T.sibling (below T s 0)) (T.child s)) lacks in
      let slots : slots_at T s ≡ 1 = ap (λ t. 1 + cond {A = ℕ} t 1 0) lacks in
      let numbers : number_count_at T s ≡ 0 = ap (λ n. cond {A = ℕ} (is_some n) 1 0) (number_none b is other) in
      same_walk s _ _ _ _ _ _ _ _ (sym (ap base_in is)) (sym first) (omega (arith, slots)) (omega (arith, numbers))

  -- ---- a node with a number of its own

  own_lacks : (v : ℤ) → LooksLikeRoot T → T.stored s ≡ OwnNumber v → has_number_slot T s ≡ false
  own_lacks v root is = owns_no T s differs
    where
      differs : T.check (below T s 0) ≡ pos s → ⊥
      differs o =
          let at : below T s 0 ≡ 0 = ap (λ st. bit_xor (base_in st) 0) is in
          let other : negsuc 0 ≡ pos s = sym root.check ∙ ap T.check (sym at) ∙ o in
          cc

  own_is : (v : ℤ) → LooksLikeRoot T → T.stored s ≡ OwnNumber v → number_in T s ≡ Some v
  own_is v root is =
      ap (λ t. cond t (Some (T.base (below T s 0))) (own_number (T.stored s))) (own_lacks v root is) ∙ ap own_number is

  pub own_value : (v : ℤ) → LooksLikeRoot T → T.stored s ≡ OwnNumber v → LooksLikeNode size T s → is_value v ≡ true
  own_value v root is looks = subst (λ m. IfSome m (λ w. is_value w ≡ true)) (own_is v root is) looks.value

  pub own_looks : (v : ℤ) → LooksLikeRoot T → T.stored s ≡ OwnNumber v → is_value v ≡ true → T.child s ≡ 0 → LooksLikeNode size T s
  own_looks v root is value child = record {
    stored = subst (IsOfNode size) (sym is) tt;
    own = λ w e. child;
    in_slot = λ has. absurd (false≢true (sym (own_lacks v root is) ∙ has));
    value = subst (λ m. IfSome m (λ w. is_value w ≡ true)) (sym (own_is v root is)) value;
    some = λ e. (let other : Some v ≡ None = sym (own_is v root is) ∙ e in cc);
  }

  pub own_walk : (v : ℤ) (w : Walk) → LooksLikeRoot T → T.stored s ≡ OwnNumber v → T.child s ≡ 0 → ◌≡◌ {A = Walk} (record { node = s; base = 0; label = 0; met = w.met + 1; numbers = w.numbers + 1 }) (walk_met T w s)
  own_walk v w root is child =
      let lacks = own_lacks v root is in
      let first : first_in T s ≡ 0 = ap (λ t. cond t (T.sibling (below T s 0)) (T.child s)) lacks ∙ child in
      let slots : slots_at T s ≡ 1 = ap (λ t. 1 + cond {A = ℕ} t 1 0) lacks in
      let numbers : number_count_at T s ≡ 1 = ap (λ n. cond {A = ℕ} (is_some n) 1 0) (own_is v root is) in
      same_walk s _ _ _ _ _ _ _ _ (sym (ap base_in is)) (sym first) (omega (arith, slots)) (omega (arith, numbers))

  pub nothing_looks : T.stored s ≡ Nothing → LooksLikeNode size T s → ⊥
  nothing_looks is looks = subst (IsOfNode size) is looks.stored

-- ---- a step

-- a walk that goes down to slot x has gone down as its node and label say
pub down_met : (size : ℕ) (T : Cells) (w : Walk) (x : ℕ) {E : Type 0} (r : Result Walk E) → x ≡ below T w.node w.label → 0 < w.label → w.label < 256 → T.check x ≡ pos w.node → IfOk r (λ next. LooksLikeNode size T x × (next ≡ walk_met T w x)) → IfOk r (λ next. GoesDown size T w × (next ≡ walk_down T w))
down_met size T w x (Ok next) at positive small owned met = (
  record {
    positive = positive;
    small = small;
    owned = ap T.check (sym at) ∙ owned;
    looks = subst (LooksLikeNode size T) at met.0;
  },
  met.1 ∙ ap (walk_met T w) at,
)
down_met size T w x (Err error) at positive small owned met = tt

pub down_faulty : (size : ℕ) (T : Cells) (w : Walk) (x : ℕ) {E : Type 0} (r : Result Walk E) → x ≡ below T w.node w.label → OnErr r (LooksLikeNode size T x → ⊥) → OnErr r (GoesDown size T w → ⊥)
down_faulty size T w x (Ok next) at faulty = tt
down_faulty size T w x (Err error) at faulty = λ down. faulty (subst (LooksLikeNode size T) (sym at) down.looks)

-- a check field that names no slot in use
pub no_owner : (size : ℕ) (z : ℤ) (r : Option ℕ) → MatchOption r ((c : ℕ) → c < size → z ≢ pos c) (λ c. (z ≡ pos c) × (c < size)) → ((c : ℕ) → r ≡ Some c → ⊥) → (c : ℕ) → c < size → z ≢ pos c
no_owner size z None named other = named
no_owner size z (Some c) named other = absurd (other c refl)
