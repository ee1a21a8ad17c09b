-- Whether a node is bare, as it is read from its slots.
use Rattle.std.proofs.Common.{◌≡◌, ℕ, ◌<◌, sym, ◌∙◌, ap, arith, eqb, Option, Some, false, is_none}
use Rattle.std.specs.Prelude.{ℤ, pos, bit_xor, ◌&&◌}
use lib.Bits.{xor_zero_r}
use Rattle.std.proofs.lemmas.Bool.Decides.{nat_tests}
use Rattle.cedar_tree.specs.Tree.{Forest, none, child, Tree, is_bare, is_leafless}
use Rattle.cedar_model.specs.declared.layout.Stored.TheVariants.{AtBase, OwnNumber}
use Rattle.cedar_model.specs.Table.Cells.{Cells}
use Rattle.cedar_model.specs.Meaning.Family.{base_in, below, Family, Head, Links, own, plain, top, valued}
use Rattle.cedar_model.specs.Meaning.StandsFor.{labels, Stands}
use Rattle.cedar_model.proofs.MeaningLemmas.SearchStep.{number_found, number_missing, number_own}

pub numbered_not_bare : (t : Tree) (v : ℤ) → t.number ≡ Some v → false ≡ is_bare t
numbered_not_bare t v e = sym (ap (λ (n : Option ℤ). is_none n && is_leafless t.children) e)

pub leafless_is : (T : Cells) (s : ℕ) (f : Forest) → Links T s (T.child s) (labels f) → eqb (T.child s) 0 ≡ is_leafless f
leafless_is T s none h = let e : T.child s ≡ 0 = h in grind (arith, nat_tests)
leafless_is T s (child l n below rest) h = let e : T.child s ≡ l = h.0 in let p : 0 < l = h.1 in grind (arith, nat_tests)

module _ (size : ℕ) (T : Cells) (s : ℕ) (t : Tree) (k : Stands size T s t) where
  pub own_not_bare : (v : ℤ) → T.stored s ≡ OwnNumber v → false ≡ is_bare t
  own_not_bare v e = numbered_not_bare t v (number_own size T s t k v e)

  pub found_not_bare : (b : ℕ) → T.stored s ≡ AtBase b → T.check b ≡ pos s → false ≡ is_bare t
  found_not_bare b e o = numbered_not_bare t (T.base b) (number_found size T s t k b e o)

  -- a node below the root that has no number is bare if its chain is empty
  pub bare_is : (b : ℕ) → T.stored s ≡ AtBase b → (s ≡ 0 → ⊥) → (T.check b ≡ pos s → ⊥) → eqb (T.child s) 0 ≡ is_bare t
  bare_is b e z n =
      by_head k.head k.family ∙ sym (ap (λ (m : Option ℤ). is_none m && is_leafless t.children) (number_missing size T s t k b e n))
    where
      at : below T s 0 ≡ b
      at = ap (λ st. bit_xor (base_in st) 0) e ∙ xor_zero_r b

      by_head : (h : Head) → Family size T s h (labels t.children) → eqb (T.child s) 0 ≡ is_leafless t.children
      by_head plain f = leafless_is T s t.children f.begins
      by_head (valued v) f = absurd (n (ap T.check (sym at) ∙ f.begins.1))
      by_head (own v) f = let c : AtBase b ≡ OwnNumber v = sym e ∙ f.based in cc
      by_head top f = absurd (z f.begins.0)
