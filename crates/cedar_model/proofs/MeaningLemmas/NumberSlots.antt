-- Where the numbers of nodes are kept, once slots were renamed or a node's own slots have changed.
use Rattle.std.proofs.Common.{◌≡◌, ℕ, List, [], ◌∷◌, sym, ◌∙◌, ap, refl, subst, inl, inr, arith, ◌<◌, Bool, true, false, cond, Option, Some, None, ◌⊎◌}
use Rattle.std.specs.Prelude.{ℤ, pos, bit_xor}
use Rattle.std.proofs.lemmas.Bool.{cases_eq, true≢false}
use Rattle.cedar_tree.specs.Tree.{Forest}
use Rattle.cedar_model.specs.declared.layout.Stored.{Stored}
use Rattle.cedar_model.specs.declared.layout.Stored.TheVariants.{AtBase, OwnNumber, Nothing}
use Rattle.cedar_model.specs.Table.Cells.{Cells, Held}
use Rattle.cedar_model.specs.Edit.NodeEdits.{DropsNumber, follow_on, IsAt, Removes, Touches}
use Rattle.cedar_model.specs.Meaning.Family.{base_in, base_of, below, Family, Head, InRange, Node, number_of, own, plain, top, valued}
use Rattle.cedar_model.specs.Meaning.Marks.{KeepsMarks, KeepsOtherMarks, mark, own_mark}
use Rattle.cedar_model.specs.Meaning.StandsFor.{HoldsTree}
use Rattle.cedar_model.specs.Edit.Own.{FieldSet}
use Rattle.cedar_model.specs.Meaning.Reading.{has_number_slot}
use Rattle.cedar_model.specs.Relocation.Renaming.{OwnsNothing, Renamed}
use Rattle.cedar_model.proofs.EditLemmas.AtPath.{held_node, not_own_owner, paths_touched}
use Rattle.cedar_model.proofs.MeaningLemmas.Chain.{zero_unowned}
use Rattle.cedar_model.proofs.EditLemmas.NodeChange.{not_number}
use Rattle.cedar_model.proofs.RelocationLemmas.CarriedTree.{path_kept}
use Rattle.cedar_model.proofs.RelocationLemmas.Movable.{node_at_end}
use Rattle.cedar_model.proofs.EditLemmas.OwnNumber.{same_or_not}
use Rattle.cedar_model.proofs.MeaningLemmas.ExclusiveOr.{xor_injective}
use Rattle.cedar_model.proofs.UpdateLemmas.BareTrimmed.{has_owner}
use Rattle.cedar_model.proofs.MeaningLemmas.OneTree.{owns_no, owns_yes}

-- ---- a node's head says where its number is kept

abbrev head_mark : Head → Option Bool
head_mark plain = None
head_mark (valued v) = Some true
head_mark (own v) = Some false
head_mark top = None

ranged_none : (size : ℕ) (st : Stored) → InRange size st → own_mark st ≡ None
ranged_none size (AtBase b) r = refl
ranged_none size (OwnNumber v) r = absurd (omega (arith, r.0))
ranged_none size Nothing r = refl

-- in a node below the root
mark_head : (size : ℕ) (T : Cells) (s : ℕ) (h : Head) (ls : List ℕ) → (s ≡ 0 → ⊥) → Family size T s h ls → mark T s ≡ head_mark h
mark_head size T s plain [] z f =
    ap (λ b. cond b (Some true) (own_mark (T.stored s))) (owns_no T s (λ o. f.only _ o))
    ∙ elim f.based [ inl e ↦ ap own_mark e | inr r ↦ ranged_none size (T.stored s) r ]
mark_head size T s plain (l ∷ ls) z f =
    ap (λ b. cond b (Some true) (own_mark (T.stored s))) (owns_no T s (zero_unowned size T s plain (l ∷ ls) f f.only)) ∙ ranged_none size (T.stored s) f.based
mark_head size T s (valued v) ls z f = ap (λ b. cond b (Some true) (own_mark (T.stored s))) (owns_yes T s f.begins.1)
mark_head size T s (own v) ls z f =
    ap (λ b. cond b (Some true) (own_mark (T.stored s))) (owns_no T s (zero_unowned size T s (own v) ls f f.only)) ∙ ap own_mark f.based
mark_head size T s top ls z f = absurd (z f.begins.0)

pub mark_valued : (size : ℕ) (T : Cells) (s : ℕ) (v : ℤ) (ls : List ℕ) → (s ≡ 0 → ⊥) → Family size T s (valued v) ls → mark T s ≡ Some true
mark_valued size T s v ls z f = mark_head size T s (valued v) ls z f

pub mark_own : (size : ℕ) (T : Cells) (s : ℕ) (v : ℤ) (ls : List ℕ) → (s ≡ 0 → ⊥) → Family size T s (own v) ls → mark T s ≡ Some false
mark_own size T s v ls z f = mark_head size T s (own v) ls z f

-- the root has no number
pub root_unmarked : (size : ℕ) (T : Cells) (f : Forest) (m : Bool) → HoldsTree size T f → mark T 0 ≡ Some m → ⊥
root_unmarked size T f m h e =
    let lead : below T 0 0 ≡ 0 = ap (λ st. bit_xor (base_in st) 0) h.stands.0.based in
    let none_there : mark T 0 ≡ None =
    ap (λ b. cond b (Some true) (own_mark (T.stored 0))) (owns_no T 0 (λ o. h.root 0 (ap T.check (sym lead) ∙ o))) ∙ ap own_mark h.stands.0.based in
    let no : ◌≡◌ {A = Option Bool} None (Some m) = sym none_there ∙ e in
    cc

-- ---- slots renamed

-- each number is kept as it was
pub renamed_marks : (size size' : ℕ) (T T' : Cells) (r : ℕ → ℕ) (f : Forest) → HoldsTree size T f → Renamed size size' T T' r → KeepsMarks T T'
renamed_marks size size' T T' r f h k w s m on e =
    let kept = path_kept size size' T T' r k (follow_on w []) on.0 in
    let z : s ≡ 0 → ⊥ = λ zero. root_unmarked size T f m h (ap (mark T) (sym zero) ∙ e) in
    let node = node_at_end size T f s (follow_on w []) h on.0 on.1 z in
    let o = has_owner T w s z on in
    let there = k.keeps.node o.0 s node.head node.labels o.1 node.family in
    let z' : r s ≡ 0 → ⊥ = λ zero. k.root (r o.0) (ap T'.check (sym zero) ∙ k.check s o.0 o.1) in
    (r s, (kept.0, kept.1 ∙ ap r on.1), mark_head size' T' (r s) node.head node.labels z' there ∙ sym (mark_head size T s node.head node.labels z node.family) ∙ e)

-- ---- a node's own slots changed

-- the slot of the number is owned as it was
owned_as : (T T' : Cells) (s : ℕ) → (T.check (below T s 0) ≡ pos s → T'.check (below T' s 0) ≡ pos s) → (T'.check (below T' s 0) ≡ pos s → T.check (below T s 0) ≡ pos s) → has_number_slot T' s ≡ has_number_slot T s
owned_as T T' s to from = elim (same_or_not (T.check (below T s 0)) (pos s)) [
  | inl o ↦ owns_yes T' s (to o) ∙ sym (owns_yes T s o)
  | inr n ↦ owns_no T' s (λ o. n (from o)) ∙ sym (owns_no T s n)
]

mark_as : (T T' : Cells) (s : ℕ) → T'.stored s ≡ T.stored s → has_number_slot T' s ≡ has_number_slot T s → mark T' s ≡ mark T s
mark_as T T' s stored has = ap (λ b. cond b (Some true) (own_mark (T'.stored s))) has ∙ ap (λ st. cond (has_number_slot T s) (Some true) (own_mark st)) stored

module _ (size : ℕ) (T T' : Cells) (f : Forest) (u : List ℕ) (a x : ℕ) (h : HoldsTree size T f) (at : IsAt T u a) (k : Touches T T' a x) where
  -- another node's
  mark_other : (s : ℕ) → Held T s → (s ≡ a → ⊥) → (s ≡ x → ⊥) → mark T' s ≡ mark T s
  mark_other s held n m =
      let stored : T'.stored s ≡ T.stored s = k.stored s held n m in
      let same : below T' s 0 ≡ below T s 0 = ap (λ st. bit_xor (base_in st) 0) stored in
      mark_as T T' s stored (owned_as T T' s (λ o. ap T'.check same ∙ k.check _ s o n) (λ o. k.back _ s (ap T'.check (sym same) ∙ o) n))

  -- no path leads to slot x but that of a node which a owns
  pub touched_marks : ((w : List ℕ) (s : ℕ) (m : Bool) → IsAt T w s → T.check s ≡ pos a → mark T s ≡ Some m → s ≡ x → ⊥) → KeepsOtherMarks T T' a
  touched_marks apart w s m on other e =
      let z : s ≡ 0 → ⊥ = λ zero. root_unmarked size T f m h (ap (mark T) (sym zero) ∙ e) in
      let o = has_owner T w s z on in
      let off : s ≡ x → ⊥ = λ is. apart w s m on (o.1 ∙ ap pos (k.owner o.0 (ap T.check (sym is) ∙ o.1))) e is in
      (s, paths_touched size T T' f u a x h at k w s on off, mark_other s (held_node T w s on) other off ∙ e)

-- a label taken
pub label_marks : (size : ℕ) (T T' : Cells) (f : Forest) (u : List ℕ) (a l : ℕ) → HoldsTree size T f → IsAt T u a → Touches T T' a (below T' a l) → 0 < l → (Held T (below T' a l) → ⊥)
    → (T'.stored a ≡ T.stored a) ⊎ ((v : ℤ) → T.stored a ≡ OwnNumber v → ⊥) → KeepsMarks T T'
label_marks size T T' f u a l h at k p free at_a w s m on e = elim (cases_eq s a) [
  | inl is ↦ (a, here w (subst (IsAt T w) is on), of_a (ap (mark T) (sym is) ∙ e))
  | inr other ↦ touched_marks size T T' f u a (below T' a l) h at k (λ _ q n _ o _ z. free (inr (a, ap T.check (sym z) ∙ o))) w s m on other e
]
  where
    here : (v : List ℕ) → IsAt T v a → IsAt T' v a
    here v there = paths_touched size T T' f u a (below T' a l) h at k v a there (λ z. free (subst (Held T) z (held_node T v a there)))

    same_slot : T.check (below T a 0) ≡ pos a → below T' a 0 ≡ below T a 0
    same_slot o = ap (λ st. bit_xor (base_in st) 0) (k.place _ o)

    to : T.check (below T a 0) ≡ pos a → T'.check (below T' a 0) ≡ pos a
    to o = ap T'.check (same_slot o) ∙ k.mine _ o (λ z. free (inr (a, ap T.check (sym z) ∙ o)))

    from : T'.check (below T' a 0) ≡ pos a → T.check (below T a 0) ≡ pos a
    from o = elim (k.only _ o) [
      | inl was ↦ ap T.check (sym (ap (λ st. bit_xor (base_in st) 0) (k.place _ was))) ∙ was
      | inr z ↦ let zero : 0 ≡ l = xor_injective (base_of T' a) 0 l z in absurd (omega (arith, p, zero))
    ]

    has : has_number_slot T' a ≡ has_number_slot T a
    has = owned_as T T' a to from

    own_there : (st : Stored) → own_mark st ≡ Some m → ((v : ℤ) → st ≡ OwnNumber v → ⊥) → ⊥
    own_there (AtBase b) i n = let no : ◌≡◌ {A = Option Bool} None (Some m) = i in cc
    own_there (OwnNumber v) i n = n v refl
    own_there Nothing i n = let no : ◌≡◌ {A = Option Bool} None (Some m) = i in cc

    by_test : (b : Bool) → has_number_slot T a ≡ b → mark T a ≡ Some m → mark T' a ≡ Some m
    by_test true here_is is = ap (λ t. cond t (Some true) (own_mark (T'.stored a))) (has ∙ here_is) ∙ sym (ap (λ t. cond t (Some true) (own_mark (T.stored a))) here_is) ∙ is
    by_test false off is =
        let own_is : own_mark (T.stored a) ≡ Some m = sym (ap (λ t. cond t (Some true) (own_mark (T.stored a))) off) ∙ is in
        elim at_a [
          | inl stored ↦ mark_as T T' a stored has ∙ is
          | inr none_own ↦ absurd (own_there (T.stored a) own_is none_own)
        ]

    of_a : mark T a ≡ Some m → mark T' a ≡ Some m
    of_a is = by_test (has_number_slot T a) refl is

-- a leaf without number has no mark
pub bare_unmarked : (size : ℕ) (T : Cells) (s : ℕ) (m : Bool) → (s ≡ 0 → ⊥) → Node size T s None [] → mark T s ≡ Some m → ⊥
bare_unmarked size T s m z k e = by_head k.head k.number (sym (mark_head size T s k.head [] z k.family) ∙ e)
  where
    by_head : (h : Head) → number_of h ≡ None → head_mark h ≡ Some m → ⊥
    by_head plain n is = let no : ◌≡◌ {A = Option Bool} None (Some m) = is in cc
    by_head (valued v) n is = let no : ◌≡◌ {A = Option ℤ} (Some v) None = n in cc
    by_head (own v) n is = let no : ◌≡◌ {A = Option ℤ} (Some v) None = n in cc
    by_head top n is = let no : ◌≡◌ {A = Option Bool} None (Some m) = is in cc

-- a bare label given up
pub removed_marks : (size : ℕ) (T T' : Cells) (f : Forest) (u : List ℕ) (a l : ℕ) → HoldsTree size T f → IsAt T u a → Removes size T T' a l → Node size T (below T a l) None [] → KeepsMarks T T'
removed_marks size T T' f u a l h at k bare w s m on e = elim (cases_eq s a) [
  | inl is ↦ (a, here w (subst (IsAt T w) is on), mark_as T T' a (k.touches.place _ k.was) has ∙ ap (mark T) (sym is) ∙ e)
  | inr other ↦ touched_marks size T T' f u a (below T a l) h at k.touches apart w s m on other e
]
  where
    here : (v : List ℕ) → IsAt T v a → IsAt T' v a
    here v there = paths_touched size T T' f u a (below T a l) h at k.touches v a there (λ z. not_own_owner T v a h.root there (ap T.check z ∙ k.was))

    apart : (v : List ℕ) (q : ℕ) (n : Bool) → IsAt T v q → T.check q ≡ pos a → mark T q ≡ Some n → q ≡ below T a l → ⊥
    apart v q n there o marked_q z = bare_unmarked size T (below T a l) n k.touches.not_root bare (ap (mark T) (sym z) ∙ marked_q)

    same : (n : ℕ) → below T' a n ≡ below T a n
    same n = ap (λ st. bit_xor (base_in st) n) (k.touches.place _ k.was)

    has : has_number_slot T' a ≡ has_number_slot T a
    has = owned_as T T' a
        (λ o. ap T'.check (same 0) ∙ k.touches.mine _ o (λ z. let zero : 0 ≡ l = xor_injective (base_of T a) 0 l z in k.positive (sym zero)))
        (λ o. elim (k.touches.only _ o) [ inl was ↦ ap T.check (sym (same 0)) ∙ was | inr z ↦ absurd (k.gone a (ap T'.check (sym z) ∙ o)) ])

-- a base field written
pub field_marks : (T T' : Cells) (a : ℕ) (st : Stored) → OwnsNothing T a → FieldSet T T' a st → ((w : List ℕ) (s : ℕ) → IsAt T w s → IsAt T' w s) → KeepsOtherMarks T T' a
field_marks T T' a st alone k paths w s m on other e =
    let stored : T'.stored s ≡ T.stored s = k.stored s other in
    let same : below T' s 0 ≡ below T s 0 = ap (λ v. bit_xor (base_in v) 0) stored in
    (s, paths w s on, mark_as T T' s stored (owned_as T T' s (λ o. k.check _ ∙ ap T.check same ∙ o) (λ o. ap T.check (sym same) ∙ sym (k.check _) ∙ o)) ∙ e)

-- ---- one change after another

pub marks_then : (T T' T'' : Cells) → KeepsMarks T T' → KeepsMarks T' T'' → KeepsMarks T T''
marks_then T T' T'' first next w s m on e =
    let there = first w s m on e in
    next w there.0 m there.1 there.2

pub marks_same : (T : Cells) → KeepsMarks T T
marks_same T w s m on e = (s, on, e)

-- ---- a number in a slot, and one in its node's own base field

pub slot_marked : (T : Cells) (s : ℕ) → T.check (below T s 0) ≡ pos s → mark T s ≡ Some true
slot_marked T s o = ap (λ b. cond b (Some true) (own_mark (T.stored s))) (owns_yes T s o)

pub own_marked : (T : Cells) (s : ℕ) (v : ℤ) → (T.check (below T s 0) ≡ pos s → ⊥) → T.stored s ≡ OwnNumber v → mark T s ≡ Some false
own_marked T s v n e = ap (λ b. cond b (Some true) (own_mark (T.stored s))) (owns_no T s n) ∙ ap own_mark e

-- a mark of a slot says that the node owns it
pub marked_slot : (T : Cells) (s : ℕ) → mark T s ≡ Some true → T.check (below T s 0) ≡ pos s
marked_slot T s e = elim (same_or_not (T.check (below T s 0)) (pos s)) [
  | inl o ↦ o
  | inr n ↦ absurd (never_slot (T.stored s) (sym (ap (λ b. cond b (Some true) (own_mark (T.stored s))) (owns_no T s n)) ∙ e))
]
  where
    is_true : Option Bool → Bool
    is_true (Some b) = b
    is_true None = false

    some_same : ◌≡◌ {A = Option Bool} (Some false) (Some true) → false ≡ true
    some_same i = ap (λ (o : Option Bool). is_true o) i

    never_slot : (st : Stored) → own_mark st ≡ Some true → ⊥
    never_slot (AtBase b) i = let no : ◌≡◌ {A = Option Bool} None (Some true) = i in cc
    never_slot (OwnNumber v) i = let no : false ≡ true = some_same i in true≢false (sym no)
    never_slot Nothing i = let no : ◌≡◌ {A = Option Bool} None (Some true) = i in cc

-- the slot of a number given up: each other number is kept as it was
pub dropped_marks : (size : ℕ) (T T' : Cells) (f : Forest) (u : List ℕ) (a : ℕ) → HoldsTree size T f → IsAt T u a → DropsNumber size T T' a → KeepsOtherMarks T T' a
dropped_marks size T T' f u a h at k = touched_marks size T T' f u a (below T a 0) h at k.touches (λ w s m on o _ z. not_number T h.root (follow_on w []) on.0 a k.was (sym z ∙ sym on.1))
