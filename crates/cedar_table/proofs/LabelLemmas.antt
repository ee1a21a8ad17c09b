-- A chain that is read into a list is longer than the list while a label is left.
use Rattle.std.proofs.Common.{◌≡◌, ℕ, ◌+◌, ◌<◌, List, [], ◌∷◌, ◌++◌, length, ◌∙◌, ap, refl, subst, arith}
use Rattle.std.proofs.lemmas.List.{length-append}
use Rattle.cedar_model.specs.Table.Cells.{Cells}
use Rattle.cedar_model.specs.Meaning.Family.{Links}
use Rattle.cedar_model.proofs.MeaningLemmas.LabelList.{Listed}
use Rattle.cedar_model.proofs.MeaningLemmas.OneTree.{links_unique}

pub listed_more : (T : Cells) (s first c : ℕ) (before items : List ℕ) → (c ≡ 0 → ⊥) → Listed T s first c before items → (ls : List ℕ) → Links T s first ls → length items < length (before ++ ls)
listed_more T s first c before items n w ls h = by_rest w.rest refl
  where
    by_rest : (rest : List ℕ) → w.rest ≡ rest → length items < length (before ++ ls)
    by_rest [] e = absurd (n (subst (Links T s c) e w.links))
    by_rest (l ∷ rest) e =
        let whole : length (w.gone ++ w.rest) ≡ length ls = ap length (links_unique T s first (w.gone ++ w.rest) ls w.begun h) in
        let split : length (w.gone ++ w.rest) ≡ length w.gone + length w.rest = length-append w.gone w.rest in
        let some : length w.rest ≡ length (l ∷ rest) = ap length e in
        let all : length items ≡ length before + length w.gone = ap length w.so_far ∙ length-append before w.gone in
        let both : length (before ++ ls) ≡ length before + length ls = length-append before ls in
        omega (arith, whole, split, some, all, both)
