use Rattle.std.proofs.Common.{◌≡◌, ℕ, ◌<◌, true, false, refl, sym, ap, subst, ◌∙◌, arith, rules}
use Rattle.std.proofs.lemmas.Bool.{true≢false}
use Rattle.std.proofs.lemmas.Bool.Decides.{nat_tests}
use Rattle.std.proofs.lemmas.Int.{to_z-of_z}
use lib.IntN.{ℤ, pos, negsuc, nat_abs}
use lib.Dec.{T}
use lib.Signed.{lt_z, non_neg}
use mir.Syntax.{w32, w64}
use mir.Val.{Fits, SFits, to_z, of_z}
use Rattle.cedar_file.proofs.check.tree.owner_named.Goals as goal

own_size : (z : ℤ) → lt_z z (pos 0) ≡ false → z ≡ pos (nat_abs z)
own_size (pos n) at_least = refl
own_size (negsuc n) at_least = absurd (true≢false at_least)

no_number : (z : ℤ) (n : ℕ) → lt_z z (pos 0) ≡ true → z ≡ pos n → ⊥
no_number (pos m) n below same = grind (arith, nat_tests)
no_number (negsuc m) n below same = cc

cast_fits : (z : ℤ) → SFits w32 z → lt_z z (pos 0) ≡ false → T (non_neg z) × Fits w64 (nat_abs z)
cast_fits (pos n) fits at_least = search rules
cast_fits (negsuc n) fits at_least = absurd (true≢false at_least)

pub overflow_cast-owner : goal.overflow_cast-owner
overflow_cast-owner g c =
    let same = to_z-of_z w32 c.args.check c.ranges.check in
    cast_fits _ (subst (SFits w32) (sym same) c.ranges.check) c.if-check-lt0.false

pub returns : goal.returns
returns g c =
    let same = to_z-of_z w32 c.args.check c.ranges.check in
    (sym same ∙ own_size _ c.if-check-lt0.false, subst (λ size. nat_abs (to_z w32 (of_z w32 c.args.check)) < size) c.size.ensures c.if-owner-size.false)

pub returns-then-check-lt0 : goal.returns-then-check-lt0
returns-then-check-lt0 g c =
    let same = to_z-of_z w32 c.args.check c.ranges.check in
    λ owner within named. no_number _ owner c.if-check-lt0.true (same ∙ named)

pub returns-then-owner-size : goal.returns-then-owner-size
returns-then-owner-size g c =
    let same = to_z-of_z w32 c.args.check c.ranges.check in
    λ owner within named.
    let own : nat_abs (to_z w32 (of_z w32 c.args.check)) ≡ owner = ap nat_abs (same ∙ named) in
    omega (arith, own, within, c.size.ensures, c.if-owner-size.true)
