-- Four labels of a key, walked at once.
use Rattle.std.proofs.Common.{◌≡◌, ℕ, ◌≤◌, ◌-◌, ◌∙◌, List, length, get_or, take, drop, sym, ap, refl, arith, length-drop}
use Rattle.std.proofs.lemmas.List.{take_all}
use Rattle.cedar_model.specs.Tree.{Tree, number_at, subtree}
use Rattle.cedar_model.proofs.MeaningLemmas.SearchStep.{step_down}

-- the trees under the first labels of what is left of a key
abbrev pub under_1 : Tree → List ℕ → Tree
under_1 u q = subtree u.children (get_or q 0 0)

abbrev pub under_2 : Tree → List ℕ → Tree
under_2 u q = subtree (under_1 u q).children (get_or q 1 0)

abbrev pub under_3 : Tree → List ℕ → Tree
under_3 u q = subtree (under_2 u q).children (get_or q 2 0)

abbrev pub under_4 : Tree → List ℕ → Tree
under_4 u q = subtree (under_3 u q).children (get_or q 3 0)

module _ (u : Tree) (q : List ℕ) (long : 4 ≤ length q) where
  pub down_1 : number_at u q ≡ number_at (under_1 u q) (drop 1 q)
  down_1 = step_down u q 0 (get_or q 0 0) (omega arith) refl

  pub down_2 : number_at u q ≡ number_at (under_2 u q) (drop 2 q)
  down_2 = down_1 ∙ step_down (under_1 u q) q 1 (get_or q 1 0) (omega arith) refl

  pub down_3 : number_at u q ≡ number_at (under_3 u q) (drop 3 q)
  down_3 = down_2 ∙ step_down (under_2 u q) q 2 (get_or q 2 0) (omega arith) refl

  pub down_4 : number_at u q ≡ number_at (under_4 u q) (take (length q - 4) (drop 4 q))
  down_4 =
      let whole : take (length q - 4) (drop 4 q) ≡ drop 4 q = take_all (length q - 4) (drop 4 q) (omega (arith, length-drop 4 q)) in
      (down_3 ∙ step_down (under_3 u q) q 3 (get_or q 3 0) (omega arith) refl) ∙ ap (number_at (under_4 u q)) (sym whole)

  pub left_4 : length (take (length q - 4) (drop 4 q)) ≡ length q - 4
  left_4 = ap length (take_all (length q - 4) (drop 4 q) (omega (arith, length-drop 4 q))) ∙ length-drop 4 q
