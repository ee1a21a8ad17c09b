-- Costs that lines say, one line after another.
use Rattle.std.proofs.Common.{◌≡◌, ◌∙◌, ◌+◌, ◌<◌, ◌++◌, ◌∷◌, [], Bor, List, ℕ, zero, suc, Option, Some, None, ap, append_assoc, arith, drop, length, map, refl, slice_index_or, sym}
use Rattle.word_lists.specs.Costs.{cost_of_line, costs_of_lines, IsFirstWithoutCost}

-- what the line at an index says, and those behind it
pub costs_next : (lines : List (Bor (List ℕ))) (i : ℕ) (d : Bor (List ℕ)) → i < length lines → costs_of_lines (drop i lines) ≡ cost_of_line (slice_index_or lines i d).now ∷ costs_of_lines (drop (i + 1) lines)
costs_next [] i d low = absurd (omega (arith, low))
costs_next (line ∷ lines) zero d low = refl
costs_next (line ∷ lines) (suc i) d low =
    let same : suc (i + 1) ≡ suc i + 1 = omega arith in
    costs_next lines i d (omega (arith, low)) ∙ ap (λ n. cost_of_line (slice_index_or lines i d).now ∷ costs_of_lines (drop n (line ∷ lines))) same

-- one line more is read
pub costs_more : (lines : List (Bor (List ℕ))) (i : ℕ) (d : Bor (List ℕ)) (before after : List ℕ) → i < length lines → map Some after ≡ map Some before ++ cost_of_line (slice_index_or lines i d).now ∷ []
    → map Some before ++ costs_of_lines (drop i lines) ≡ costs_of_lines lines → map Some after ++ costs_of_lines (drop (i + 1) lines) ≡ costs_of_lines lines
costs_more lines i d before after low pushed so_far =
    let x = cost_of_line (slice_index_or lines i d).now in
    let behind = costs_of_lines (drop (i + 1) lines) in
    ap (λ l. l ++ behind) pushed ∙ append_assoc (map Some before) (x ∷ []) behind ∙ ap (λ l. map Some before ++ l) (sym (costs_next lines i d low)) ∙ so_far

-- the first line without a cost
pub first_without : (lines : List (Bor (List ℕ))) (i : ℕ) (d : Bor (List ℕ)) (before : List ℕ) (index : ℕ) → i < length lines → cost_of_line (slice_index_or lines i d).now ≡ None → length before ≡ index
    → map Some before ++ costs_of_lines (drop i lines) ≡ costs_of_lines lines → IsFirstWithoutCost lines index
first_without lines i d before index low none is so_far =
    let behind = costs_of_lines (drop (i + 1) lines) in
    (before, behind, is, sym so_far ∙ ap (λ l. map Some before ++ l) (costs_next lines i d low ∙ ap (λ (o : Option ℕ). o ∷ behind) none))
