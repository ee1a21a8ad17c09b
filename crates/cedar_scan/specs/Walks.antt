-- What a caller sees of a scan that is under way.
use Rattle.std.specs.Prelude.{ℕ, ℤ, List}
use Rattle.std.specs.Coded.{Coded, code_by, coded×, coded_ℕ, coded_ℤ, coded_list}
use Rattle.std.proofs.Common.{refl}
use Rattle.cedar_scan.specs.Suffixes.{Occurrence}

-- the items that are left, and how many steps they take at most, beside one for each item
pub record ScanLeft : Type 0 where
  pub rest : List Occurrence
  pub steps : ℕ

-- what is left of a scan as plain data, for `impl Model` alone
abbrev pub scan_code : Coded ScanLeft
scan_code =
    code_by (List (ℕ × ℕ × ℤ) × ℕ) (coded× (coded_list (code_by (ℕ × (ℕ × ℤ)) (coded× coded_ℕ (coded× coded_ℕ coded_ℤ)) (λ s. (s.0, (s.1, s.2))) (λ p. (p.0, p.1.0, p.1.1)) (λ _. refl))) coded_ℕ)
    (λ w. (w.rest, w.steps))
    (λ p. record { rest = p.0; steps = p.1 })
    (λ _. refl)
