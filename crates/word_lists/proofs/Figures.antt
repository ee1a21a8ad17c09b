-- Numbers in figures, and what comes before and behind a line's first tab.
use Rattle.std.proofs.Common.{◌≡◌, ℕ, ℤ, w32, List, [], ◌∷◌, true, false, refl, sym, ap, ◌∙◌, arith, length, nat_eq, of_z, to_z}
use Rattle.std.proofs.lemmas.Bool.{eqb-true, false≢true}
use Rattle.std.proofs.lemmas.Int.{ints, to_z-of_z}
use Rattle.std.specs.Ordering.{int_eq}
use Rattle.std.specs.Int.RustNames.{FitsSigned}
use Rattle.std.specs.Prelude.{◌==◌}
use Rattle.device_lines.specs.Lines.{is_filled}

-- a text that isn't empty has a byte
pub filled_unless : (text : List ℕ) → false ≡ (length text == 0) → is_filled text ≡ true
filled_unless [] h = absurd (false≢true h)
filled_unless (b ∷ text) h = refl

pub unfilled_if : (text : List ℕ) → true ≡ (length text == 0) → is_filled text ≡ false
unfilled_if [] h = refl
unfilled_if (b ∷ text) h = absurd (let same : length (b ∷ text) ≡ 0 = eqb-true (length (b ∷ text)) 0 (sym h) in omega arith)

-- ---- `==` of two numbers compares their bits, which are equal just for equal numbers

same_test : (m n : ℕ) (a b : ℤ) → (m ≡ n → a ≡ b) → (a ≡ b → m ≡ n) → nat_eq m n ≡ int_eq a b
same_test m n a b back forth = grind (arith, ints)

pub same_bits : (a b : ℤ) → FitsSigned w32 a → FitsSigned w32 b → nat_eq (of_z w32 a) (of_z w32 b) ≡ int_eq a b
same_bits a b f g =
    let back : of_z w32 a ≡ of_z w32 b → a ≡ b = λ e. sym (to_z-of_z w32 a f) ∙ ap (to_z w32) e ∙ to_z-of_z w32 b g in
    let forth : a ≡ b → of_z w32 a ≡ of_z w32 b = ap (of_z w32) in
    same_test (of_z w32 a) (of_z w32 b) a b back forth
