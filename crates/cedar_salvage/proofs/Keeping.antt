-- What is written into an empty file.
use Rattle.std.specs.Prelude.{nat_eq}
use Rattle.std.specs.Cmp.Lexicographic.{bytes_decides, pointwise}
use Rattle.std.proofs.Common.{◌≡◌, ℕ, ◌+◌, true, false, List, [], ◌++◌, length, take, drop, sym, ◌∙◌, ap, arith}
use Rattle.std.proofs.Math.Seq.{drop-append_seam, take-append_seam}
use Rattle.std.proofs.lemmas.Bool.{false≢true}
use Rattle.std.proofs.lemmas.List.{append-nil, drop_all, take_all, take-append-drop}
use Rattle.cedar_journal.specs.Device.{Holds}

pub first_written : (old header new : List ℕ) → old ≡ [] → Holds old 0 header new → new ≡ header
first_written old header new none is =
    is
    ∙ ap (λ d. take 0 d ++ header ++ drop (0 + length header) d) none
    ∙ ap (λ l. header ++ l) (drop_all (0 + length header) [] (omega arith))
    ∙ append-nil header

pub next_written : (old header bytes new : List ℕ) → old ≡ header → Holds old (length header) bytes new → new ≡ header ++ bytes
next_written old header bytes new was is =
    is
    ∙ ap (λ d. take (length header) d ++ bytes ++ drop (length header + length bytes) d) was
    ∙ ap (λ l. l ++ bytes ++ drop (length header + length bytes) header) (take_all (length header) header (omega arith))
    ∙ ap (λ l. header ++ bytes ++ l) (drop_all (length header + length bytes) header (omega arith))
    ∙ append-nil (header ++ bytes)

-- ---- some bytes, and what follows the header in them

module _ (held header bytes rest : List ℕ) where
  pub are_both : pointwise nat_eq (take (length header) held) header ≡ true → rest ≡ drop (length header) held → pointwise nat_eq rest bytes ≡ true → held ≡ header ++ bytes
  are_both front is same =
      sym (take-append-drop (length header) held)
      ∙ (λ i. (bytes_decides (take (length header) held) header).0 front i ++ (sym is ∙ (bytes_decides rest bytes).0 same) i)

  pub not_both : rest ≡ drop (length header) held → pointwise nat_eq rest bytes ≡ false → held ≡ header ++ bytes → ⊥
  not_both is differs both =
      false≢true (sym differs ∙ (bytes_decides rest bytes).1 (is ∙ ap (drop (length header)) both ∙ drop-append_seam header bytes))

pub no_header : (held header bytes : List ℕ) → pointwise nat_eq (take (length header) held) header ≡ false → held ≡ header ++ bytes → ⊥
no_header held header bytes lacks both =
    false≢true (sym lacks ∙ (bytes_decides (take (length header) held) header).1 (ap (take (length header)) both ∙ take-append_seam header bytes))
