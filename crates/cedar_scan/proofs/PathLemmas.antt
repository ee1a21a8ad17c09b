-- The path to the node in a slot.
use Rattle.std.proofs.Common.{◌≡◌, ℕ, zero, suc, ◌≤◌, Bool, true, false, cond, ◌==◌, ◌&&◌, ltb, List, [], ◌∷◌, ◌++◌, length, length-append, Some, None, eq-eqb, refl, sym, ap, ◌∙◌, arith}
use Rattle.std.specs.Prelude.{bit_xor}
use Rattle.std.proofs.lemmas.Bool.{and_parts, eqb-true, ne_eqb}
use Rattle.cedar_tree.specs.Tree.{Tree}
use Rattle.cedar_tree.specs.Walks.{forwards}
use Rattle.cedar_scan.specs.declared.state.State.{State}
use Rattle.cedar_scan.specs.Automata.{IsGoto, IsPlacing, may_have, path_in, path_up, state_at}
use Rattle.cedar_scan.specs.Counts.{count_below}
use Rattle.cedar_scan.specs.Suffixes.{is_node}
use Rattle.cedar_model.proofs.MeaningLemmas.ExclusiveOr.{xor_back}
use Rattle.cedar_scan.proofs.CountLemmas.{path_short}
use Rattle.cedar_scan.proofs.ListLemmas.{snoc, snoc_not_empty}
use Rattle.cedar_scan.proofs.SuffixLemmas.{node_front}

some_is : (x y : ℕ) → Some x ≡ Some y → x ≡ y
some_is x y e = cc

none_some : (x : ℕ) → None ≡ Some x → ⊥
none_some x e = absurd (cc)

-- more steps than the root is away change nothing
up_from_root : (n : ℕ) (states : List State) → path_up n states 0 ≡ []
up_from_root zero states = refl
up_from_root (suc n) states = ap (λ b. cond b [] (bit_xor (state_at states (state_at states 0).owner).base 0 ∷ path_up n states (state_at states 0).owner)) (eq-eqb 0 0 refl)

up_one : (n : ℕ) (states : List State) (s : ℕ) → (s ≡ 0 → ⊥) → path_up (suc n) states s ≡ bit_xor (state_at states (state_at states s).owner).base s ∷ path_up n states (state_at states s).owner
up_one n states s other = ap (λ b. cond b [] (bit_xor (state_at states (state_at states s).owner).base s ∷ path_up n states (state_at states s).owner)) (ne_eqb s 0 other)

-- the root's own path
pub root_path : (t : Tree) (states : List State) → path_in t states 0 ≡ []
root_path t states = ap forwards (up_from_root (count_below t.children) states)

module _ (t : Tree) (slot_of : List ℕ → ℕ) (states : List State) (p : IsPlacing t slot_of) (h : IsGoto t slot_of states) where
  -- what a child's slot says of the node above
  record IsBelow (v : List ℕ) (l : ℕ) : Type 0 where
    pub slot : slot_of (v ++ l ∷ []) ≡ bit_xor (state_at states (slot_of v)).base l
    pub owner : (state_at states (slot_of (v ++ l ∷ []))).owner ≡ slot_of v

  below : (v : List ℕ) (l : ℕ) → is_node t (v ++ l ∷ []) ≡ true → IsBelow v l
  below v l node =
      let s = slot_of v in
      let x = bit_xor (state_at states s).base l in
      let has : Bool = may_have (state_at states s) l in
      let owned : Bool = ltb x (length states) && ((state_at states x).owner == s) in
      let test : Bool = has && owned in
      let found : cond test (Some x) None ≡ Some (slot_of (v ++ l ∷ [])) = h.child v l (node_front t v (l ∷ []) node) ∙ ap (λ b. cond b (Some (slot_of (v ++ l ∷ []))) None) node in
      (elim test as (λ b. test ≡ b → cond b (Some x) None ≡ Some (slot_of (v ++ l ∷ [])) → IsBelow v l) [
        | true ↦ λ e same.
            let here : x ≡ slot_of (v ++ l ∷ []) = some_is x (slot_of (v ++ l ∷ [])) same in
            record {
              slot = sym here;
              owner = ap (λ y. (state_at states y).owner) (sym here) ∙ eqb-true (state_at states x).owner s (and_parts (ltb x (length states)) ((state_at states x).owner == s) (and_parts has owned e).1).1;
            }
        | false ↦ λ e missing. absurd (none_some (slot_of (v ++ l ∷ [])) missing)
      ]) refl found

  up_is : (n : ℕ) (w : List ℕ) → length w ≤ n → is_node t w ≡ true → forwards (path_up n states (slot_of w)) ≡ w
  up_is zero [] low node = refl
  up_is zero (b ∷ u) low node = absurd (omega (arith, low))
  up_is (suc n) [] low node = ap (λ s. forwards (path_up (suc n) states s)) p.root ∙ ap forwards (up_from_root (suc n) states)
  up_is (suc n) (b ∷ u) low node =
      let s = snoc b u in
      let v = s.0 in
      let l = s.1 in
      let there : is_node t (v ++ l ∷ []) ≡ true = ap (is_node t) (sym s.2) ∙ node in
      let is = below v l there in
      let one = length-append v (l ∷ []) in
      let all = ap length s.2 in
      let short : length v ≤ n = omega (arith, one, all, low) in
      let other : (slot_of (v ++ l ∷ []) ≡ 0 → ⊥) = λ e. snoc_not_empty v l (p.one (v ++ l ∷ []) [] there refl (e ∙ sym p.root)) in
      let label : bit_xor (state_at states (slot_of v)).base (slot_of (v ++ l ∷ [])) ≡ l = ap (bit_xor (state_at states (slot_of v)).base) is.slot ∙ xor_back (state_at states (slot_of v)).base l in
      ap (λ x. forwards (path_up (suc n) states (slot_of x))) s.2
      ∙ ap forwards (up_one n states (slot_of (v ++ l ∷ [])) other)
      ∙ ap (λ o. forwards (path_up n states o) ++ bit_xor (state_at states o).base (slot_of (v ++ l ∷ [])) ∷ []) is.owner
      ∙ ap (λ x. forwards (path_up n states (slot_of v)) ++ x ∷ []) label
      ∙ ap (λ x. x ++ l ∷ []) (up_is n v short (node_front t v (l ∷ []) there))
      ∙ sym s.2

  -- what is read on the way up is the path
  pub path_is : (w : List ℕ) → is_node t w ≡ true → path_in t states (slot_of w) ≡ w
  path_is w node = up_is (count_below t.children) w (path_short t w node) node

  pub path_long : (w : List ℕ) → is_node t w ≡ true → length (path_in t states (slot_of w)) ≡ length w
  path_long w node = ap length (path_is w node)
