-- What a script sees of a dictionary once a key was stored or removed.
use Rattle.std.proofs.Common.{◌≡◌, ◌+◌, ◌++◌, ℕ, zero, suc, ℤ, ◌<◌, ◌⊎◌, inl, inr, List, [], ◌∷◌, take, length, Option, Some, None, Bool, true, false, not, cond, ◌&&◌, ◌||◌, ◌==◌, refl, sym, ap, ◌∙◌, arith}
use Rattle.std.specs.Prelude.{is_some}
use Rattle.std.proofs.lemmas.Bool.{eqb-true, false≢true, and_from, or_cases, or_right, and_parts, or_left, not-true}
use Rattle.std.proofs.lemmas.Bool.Decides.{eqb_tells}
use Rattle.cedarwood.specs.State.{State, after_put, after_erase}
use Rattle.cedarwood.specs.Tree.{IsSound, Tree, is_bare, number_at}
use Rattle.cedarwood.specs.Queries.{IsFront, is_path, node_at, prefixes, slots_of_tree, walk}
use Rattle.cedarwood.proofs.EntryLemmas.Built.{is_path_itself, same_path}
use Rattle.cedarwood.proofs.EntryLemmas.Prefixes.{front_of_node, node_of_held}
use Rattle.cedarwood.specs.declared.error.CedarError.{CedarError}
use Rattle.cedarwood.specs.Marks.{HasMark, IsProperFront, MarksCut, MarksPut}
use Rattle.cedarwood.specs.Layouts.{LayoutKind, default_layout, reduced_layout}
use Rattle.cedarwood.specs.Dictionary.{Dictionary, IsMarked, some_numbers}
use Rattle.cedarwood.specs.Fault.{fault}
use Rattle.cedarwood.proofs.MarkedLemmas.{same_numbers}
use Rattle.cedar_cli.specs.Script.{figures_text, view_after_order, reply}
use Rattle.cedar_cli.specs.declared.command.Verb.TheVariants.{Put, Erase, Figures}
use Rattle.cedar_cli.specs.View.{View, cut_in, has_node, has_slot, has_slot_beside, is_proper_front, put_in, view_of, slots_held}
use Rattle.cedarwood.proofs.FaultLemmas.{key_without_fault}

-- ---- tests

-- tests that follow from each other agree
agree : (a b : Bool) → (a ≡ true → b ≡ true) → (b ≡ true → a ≡ true) → a ≡ b
agree true true p q = refl
agree true false p q = sym (p refl)
agree false true p q = q refl
agree false false p q = refl

not_holds : (b : Bool) → (b ≡ true → ⊥) → not b ≡ true
not_holds true h = absurd (h refl)
not_holds false h = refl

fails : (b : Bool) → not b ≡ true → b ≡ true → ⊥
fails true h p = false≢true h
fails false h p = false≢true p

itself : (b : ℕ) → (b == b) ≡ true
itself b = elim (eqb_tells b b) [ inl e ↦ e.0 | inr e ↦ absurd (e.1 refl) ]

-- ---- fronts

front_found : (n : ℕ) (key : List ℕ) → n < length key → is_proper_front (take n key) key ≡ true
front_found n [] h = absurd (omega arith)
front_found zero (b ∷ key) h = refl
front_found (suc n) (b ∷ key) h = and_from (b == b) (is_proper_front (take n key) key) (itself b) (front_found n key (omega arith))

found_front : (w key : List ℕ) → is_proper_front w key ≡ true → IsProperFront w key
found_front w [] h = absurd (no_front w h) where
  no_front : (w : List ℕ) → is_proper_front w [] ≡ true → ⊥
  no_front [] h = false≢true h
  no_front (a ∷ w) h = false≢true h
found_front [] (b ∷ key) h = (0, omega arith, refl)
found_front (a ∷ w) (b ∷ key) h =
    let parts = and_parts (a == b) (is_proper_front w key) h in
    let rest = found_front w key parts.1 in
    let less = rest.1 in
    (suc rest.0, omega (arith, less), ap (λ (c : ℕ). c ∷ w) (eqb-true a b parts.0) ∙ ap (λ (l : List ℕ). b ∷ l) rest.2)

-- ---- marks

module _ (t m m' : Tree) (key : List ℕ) (sound : IsSound t) (some : 0 < length key) where
  -- what is said of a path that has a slot
  abbrev beside : List ℕ → Bool
  beside w = is_some (number_at m w) || ((is_proper_front w key && is_some (number_at t w)) || (is_path w key && has_node t key))

  to_beside : (w : List ℕ) → HasMark m w ⊎ (IsProperFront w key × (is_some (number_at t w) ≡ true)) ⊎ ((w ≡ key) × IsFront t key) → beside w ≡ true
  to_beside w (inl was) = or_left (is_some (number_at m w)) _ was
  to_beside w (inr (inl front)) =
      let p : is_proper_front w key ≡ true = ap (λ (x : List ℕ). is_proper_front x key) front.0.2 ∙ front_found front.0.0 key front.0.1 in
      or_right (is_some (number_at m w)) _ (or_left (is_proper_front w key && is_some (number_at t w)) _ (and_from (is_proper_front w key) (is_some (number_at t w)) p front.1))
  to_beside w (inr (inr is)) =
      let p : is_path w key ≡ true = ap (λ (x : List ℕ). is_path x key) is.0 ∙ is_path_itself key in
      let n : has_node t key ≡ true = ap not (node_of_held t key is.1) in
      or_right (is_some (number_at m w)) _ (or_right (is_proper_front w key && is_some (number_at t w)) _ (and_from (is_path w key) (has_node t key) p n))

  of_beside : (w : List ℕ) → beside w ≡ true → HasMark m w ⊎ (IsProperFront w key × (is_some (number_at t w) ≡ true)) ⊎ ((w ≡ key) × IsFront t key)
  of_beside w h = elim (or_cases (is_some (number_at m w)) _ h) [
    | inl was ↦ inl was
    | inr other ↦ elim (or_cases (is_proper_front w key && is_some (number_at t w)) _ other) [
      | inl front ↦ let parts = and_parts (is_proper_front w key) (is_some (number_at t w)) front in inr (inl (found_front w key parts.0, parts.1))
      | inr at ↦
          let parts = and_parts (is_path w key) (has_node t key) at in
          inr (inr (same_path w key parts.0, front_of_node t key sound.1 some (not-true (is_bare (node_at t key)) parts.1)))
    ]
  ]

  not_some : (n : Option ℤ) → is_some n ≡ false → n ≡ None
  not_some None h = refl
  not_some (Some v) h = absurd (false≢true (sym h))

  pub put_marks : MarksPut t m m' key → (w : List ℕ) → is_some (number_at m' w) ≡ cond (is_some (number_at t key)) (is_some (number_at m w)) (beside w)
  put_marks k w = by_held (is_some (number_at t key)) refl where
    by_held : (b : Bool) → is_some (number_at t key) ≡ b → is_some (number_at m' w) ≡ cond (is_some (number_at t key)) (is_some (number_at m w)) (beside w)
    by_held true had = agree (is_some (number_at m' w)) (is_some (number_at m w)) (k.over had w).0 (k.over had w).1 ∙ ap (λ b. cond b (is_some (number_at m w)) (beside w)) (sym had)
    by_held false new =
        let iff = k.new (not_some (number_at t key) new) w in
        agree (is_some (number_at m' w)) (beside w) (λ h. to_beside w (iff.0 h)) (λ h. iff.1 (of_beside w h))
        ∙ ap (λ b. cond b (is_some (number_at m w)) (beside w)) (sym new)

pub cut_marks : (m m' : Tree) (key : List ℕ) → MarksCut m m' key → (w : List ℕ) → is_some (number_at m' w) ≡ (not (is_path w key) && is_some (number_at m w))
cut_marks m m' key k w = agree (is_some (number_at m' w)) (not (is_path w key) && is_some (number_at m w))
    (λ h. let parts = (k w).0 h in and_from (not (is_path w key)) (is_some (number_at m w)) (not_holds (is_path w key) (λ p. parts.0 (same_path w key p))) parts.1)
    (λ h. let parts = and_parts (not (is_path w key)) (is_some (number_at m w)) h in (k w).1 ((λ is. fails (is_path w key) parts.0 (ap (λ (x : List ℕ). is_path x key) is ∙ is_path_itself key)), parts.1))

-- ---- what is seen

-- marks and a state are what is seen in the reduced layout
by_marks : (d : Dictionary) (state : State) (test : List ℕ → Bool) → d.state ≡ state → IsMarked d → ((w : List ℕ) → is_some (number_at d.marked w) ≡ test w)
    → view_of reduced_layout d ≡ record { layout = reduced_layout; state = state; marked = some_numbers test state.tree }
by_marks d state test is marked told =
    let m : d.marked ≡ some_numbers test state.tree =
    marked ∙ ap (λ f. record { number = None; children = f }) (same_numbers (λ w. is_some (number_at d.marked w)) test d.state.tree.children told)
    ∙ ap (λ (s : State). some_numbers test s.tree) is in
    ap (λ (t : Tree). record { layout = reduced_layout; state = d.state; marked = t }) m
    ∙ ap (λ (s : State). record { layout = reduced_layout; state = s; marked = some_numbers test state.tree }) is

-- a put without a fault
pub put_obeyed : (layout : LayoutKind) (old new : Dictionary) (key : List ℕ) (v : ℤ) → fault key v ≡ None → IsSound old.state.tree → new.state ≡ after_put old.state key v → IsMarked new
    → (layout ≡ reduced_layout → MarksPut old.state.tree old.marked new.marked key) → view_of layout new ≡ view_after_order (view_of layout old) (Some (Put v, key))
put_obeyed layout old new key v clean sound done marked marks = rw clean (by_layout layout marks) where
  by_layout : (l : LayoutKind) → (l ≡ reduced_layout → MarksPut old.state.tree old.marked new.marked key) → view_of l new ≡ put_in (view_of l old) key v
  by_layout default_layout k = ap (λ (s : State). record { layout = default_layout; state = s; marked = s.tree }) done
  by_layout reduced_layout k =
      by_marks new (after_put old.state key v) (has_slot_beside (view_of reduced_layout old) key) done marked
      (put_marks old.state.tree old.marked new.marked key sound (key_without_fault key v clean) (k refl))

-- one with a fault changes nothing
pub put_refused : (s : View) (key : List ℕ) (v : ℤ) (e : CedarError) → fault key v ≡ Some e → s ≡ view_after_order s (Some (Put v, key))
put_refused s key v e why = rw why refl

-- an erasure
pub cut_obeyed : (layout : LayoutKind) (old new : Dictionary) (key : List ℕ) → new.state ≡ after_erase old.state key → IsMarked new → MarksCut old.marked new.marked key
    → view_of layout new ≡ view_after_order (view_of layout old) (Some (Erase, key))
cut_obeyed layout old new key done marked marks = by_layout layout where
  by_layout : (l : LayoutKind) → view_of l new ≡ cut_in (view_of l old) key
  by_layout default_layout = ap (λ (s : State). record { layout = default_layout; state = s; marked = s.tree }) done
  by_layout reduced_layout =
      by_marks new (after_erase old.state key) (λ w. not (is_path w key) && has_slot (view_of reduced_layout old) w) done marked
      (cut_marks old.marked new.marked key marks)

-- a refused update is seen as nothing
pub seen_same : (layout : LayoutKind) (old new : Dictionary) → new.state ≡ old.state → new.marked ≡ old.marked → view_of layout new ≡ view_of layout old
seen_same layout old new same marks = by_layout layout where
  by_layout : (l : LayoutKind) → view_of l new ≡ view_of l old
  by_layout default_layout = ap (λ (s : State). record { layout = default_layout; state = s; marked = s.tree }) same
  by_layout reduced_layout =
      ap (λ (t : Tree). record { layout = reduced_layout; state = new.state; marked = t }) marks
      ∙ ap (λ (s : State). record { layout = reduced_layout; state = s; marked = old.marked }) same

-- the line of the figures
pub figures_seen : (layout : LayoutKind) (d : Dictionary) (key : List ℕ) (keys slots : ℕ) → keys ≡ length (walk d.state.tree) → (layout ≡ default_layout → slots ≡ slots_of_tree d.state.tree)
    → slots ≡ 1 + length (prefixes d.state.tree) + length (walk d.marked)
    → figures_text keys slots ++ 10 ∷ [] ≡ reply (view_of layout d) (Some (Figures, key)) ++ 10 ∷ []
figures_seen layout d key keys slots e by_default marked = ap (λ n. figures_text n slots ++ 10 ∷ []) e ∙ ap (λ n. figures_text (length (walk d.state.tree)) n ++ 10 ∷ []) (by_layout layout by_default) where
  by_layout : (l : LayoutKind) → (l ≡ default_layout → slots ≡ slots_of_tree d.state.tree) → slots ≡ slots_held (view_of l d)
  by_layout default_layout k = k refl
  by_layout reduced_layout k = marked
