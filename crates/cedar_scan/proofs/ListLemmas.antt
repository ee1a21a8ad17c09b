-- Lists that end with one more element, and fields of states that are written.
use Rattle.std.proofs.Common.{◌≡◌, ℕ, ◌<◌, List, [], ◌∷◌, ◌++◌, get_or, length, length-append, take, refl, sym, ap, ◌∙◌, arith, inl, inr}
use Rattle.std.specs.Prelude.{slice_set}
use Rattle.std.proofs.lemmas.Bool.Decides.{eqb_tells}
use Rattle.std.proofs.lemmas.List.{append_cancel_left, get_or-set_other, get_or-set_same, length-set, take-append-le, take_all}
use Rattle.cedar_scan.specs.declared.state.State.{State}
use Rattle.cedar_scan.specs.Automata.{state_at}

-- ---- lists

-- a list with elements ends with one
pub snoc : {X : Type 0} (b : X) (v : List X) → (w : List X) × (l : X) × (b ∷ v ≡ w ++ l ∷ [])
snoc b [] = ([], b, refl)
snoc b (c ∷ v) = let r = snoc c v in (b ∷ r.0, r.1, ap (λ x. b ∷ x) r.2)

front_of_snoc : (w : List ℕ) (l : ℕ) → take (length w) (w ++ l ∷ []) ≡ w
front_of_snoc w l = take-append-le (length w) w (l ∷ []) (omega arith) ∙ take_all (length w) w (omega arith)

pub same_front : (p w : List ℕ) (m l : ℕ) → p ++ m ∷ [] ≡ w ++ l ∷ [] → p ≡ w
same_front p w m l e =
    let one = length-append p (m ∷ []) in
    let other = length-append w (l ∷ []) in
    let all = ap length e in
    let long : length p ≡ length w = omega (arith, one, other, all) in
    sym (front_of_snoc p m) ∙ ap (take (length p)) e ∙ ap (λ n. take n (w ++ l ∷ [])) long ∙ front_of_snoc w l

one_element : (m l : ℕ) → m ∷ [] ≡ l ∷ [] → m ≡ l
one_element m l e = ap (λ xs. get_or xs 0 0) e

pub same_last : (p w : List ℕ) (m l : ℕ) → p ++ m ∷ [] ≡ w ++ l ∷ [] → m ≡ l
same_last p w m l e =
    let front = same_front p w m l e in
    one_element m l (append_cancel_left w (m ∷ []) (l ∷ []) (ap (λ x. x ++ m ∷ []) (sym front) ∙ e))

pub snoc_not_empty : (w : List ℕ) (l : ℕ) → w ++ l ∷ [] ≡ [] → ⊥
snoc_not_empty w l e = let one = length-append w (l ∷ []) in let none = ap length e in absurd (omega (arith, one, none))

pub whole_front : {X : Type 0} (n : ℕ) (xs ys : List X) → n ≡ length xs → take n (xs ++ ys) ≡ xs
whole_front n xs ys e = take-append-le n xs ys (omega (arith, e)) ∙ take_all n xs (omega (arith, e))

-- ---- fields of states

-- a write that keeps a field of the slot that it writes keeps it everywhere
pub field_kept : {X : Type 0} (f : State → X) (states : List State) (i : ℕ) (v : State) (y : ℕ) → i < length states → f v ≡ f (state_at states i) → f (state_at (slice_set states i v) y) ≡ f (state_at states y)
field_kept f states i v y inside same = elim (eqb_tells y i) [
  | inl here ↦ let at = here.1 in
      ap (λ k. f (state_at (slice_set states i v) k)) at
      ∙ ap f (get_or-set_same states i v (record { base = 0; owner = 0; labels = 0; failure = 0; output = 0 }) inside)
      ∙ same ∙ ap (λ k. f (state_at states k)) (sym at)
  | inr there ↦ ap f (get_or-set_other states i y v (record { base = 0; owner = 0; labels = 0; failure = 0; output = 0 }) there.1)
]

pub written_here : (states : List State) (i : ℕ) (v : State) (y : ℕ) → i < length states → y ≡ i → state_at (slice_set states i v) y ≡ v
written_here states i v y inside at =
    ap (λ k. state_at (slice_set states i v) k) at ∙ get_or-set_same states i v (record { base = 0; owner = 0; labels = 0; failure = 0; output = 0 }) inside

pub written_elsewhere : (states : List State) (i : ℕ) (v : State) (y : ℕ) → (y ≡ i → ⊥) → state_at (slice_set states i v) y ≡ state_at states y
written_elsewhere states i v y other = get_or-set_other states i y v (record { base = 0; owner = 0; labels = 0; failure = 0; output = 0 }) other

pub still_inside : (states : List State) (i : ℕ) (v : State) → length (slice_set states i v) ≡ length states
still_inside states i v = length-set states i v
