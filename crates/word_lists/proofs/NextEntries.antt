-- So many of the next entries, of which some came.
use Rattle.std.proofs.Common.{◌≡◌, ◌<◌, ◌+◌, ◌-◌, zero, suc, ℕ, List, [], ◌∷◌, ◌++◌, Option, sym, ap, ◌∙◌, length, take, arith}
use Rattle.std.proofs.Math.Seq.{take-append-add}
use Rattle.std.specs.Io.KnownBytes.{Appends}
use Rattle.cedarwood.specs.Queries.{Entry}
use Rattle.device_lines.specs.Written.{WritesFront}
use Rattle.word_lists.specs.Lines.{entry_line, entry_lines}
use Rattle.word_lists.proofs.WordLines.{lines_begun, lines_stopped}

-- those that are wanted, where some came and so many more may come
wanted_in_parts : (entries came rest : List Entry) (left most : ℕ) → entries ≡ came ++ rest → length came + left ≡ most → take most entries ≡ came ++ take left rest
wanted_in_parts entries came rest left most whole count =
    ap (λ l. take most l) whole ∙ ap (λ n. take n (came ++ rest)) (sym count) ∙ take-append-add came rest left

take_more : (left : ℕ) (rest later : List Entry) (e : Entry) → 0 < left → rest ≡ e ∷ later → take left rest ≡ e ∷ take (left - 1) later
take_more zero rest later e some step = absurd (omega (arith, some))
take_more (suc n) rest later e some step = ap (λ l. take (suc n) l) step ∙ ap (λ k. e ∷ take k later) (omega arith)

-- the next one's line broke off
pub stopped_next : (a b d : Option (List ℕ)) (entries came rest later : List Entry) (e : Entry) (left most : ℕ) → entries ≡ came ++ rest → length came + left ≡ most → 0 < left → rest ≡ e ∷ later
    → Appends a b (entry_lines came) → WritesFront b d (entry_line e) → WritesFront a d (entry_lines (take most entries))
stopped_next a b d entries came rest later e left most whole count some step written front =
    lines_stopped a b d (take most entries) came (take (left - 1) later) e
    (wanted_in_parts entries came rest left most whole count ∙ ap (λ l. came ++ l) (take_more left rest later e some step)) written front

-- the next one's key found no memory
pub begun_next : (a b : Option (List ℕ)) (entries came rest : List Entry) (left most : ℕ) → entries ≡ came ++ rest → length came + left ≡ most → 0 < left → 0 < length rest
    → Appends a b (entry_lines came) → WritesFront a b (entry_lines (take most entries))
begun_next a b entries came rest left most whole count some any written =
    lines_begun a b (take most entries) came (take left rest) (wanted_in_parts entries came rest left most whole count) (taken left rest some any) written where
      taken : (n : ℕ) (xs : List Entry) → 0 < n → 0 < length xs → 0 < length (take n xs)
      taken zero xs p q = absurd (omega (arith, p))
      taken (suc n) [] p q = absurd (omega (arith, q))
      taken (suc n) (x ∷ xs) p q = omega arith
