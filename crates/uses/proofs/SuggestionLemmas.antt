-- Some entries, or others where there are none of them.
use Rattle.std.proofs.Common.{◌≡◌, List, [], ◌∷◌, length, refl, ap, ◌∙◌, arith}
use Rattle.std.specs.Prelude.{Err, IfOk, Ok, Result}
use Rattle.cedarwood.specs.Queries.{Entry}
use Rattle.uses.specs.Suggestions.{first_filled}

some_first : (es others : List Entry) → (length es ≡ 0 → ⊥) → es ≡ first_filled es others
some_first [] others some = absurd (some refl)
some_first (e ∷ es) others some = refl

none_first : (es others : List Entry) → length es ≡ 0 → others ≡ first_filled es others
none_first [] others none = refl
none_first (e ∷ es) others none = absurd (omega (arith, none))

-- what was found is told if it is some
pub found_first : (found first others : List Entry) → found ≡ first → (length found ≡ 0 → ⊥) → found ≡ first_filled first others
found_first found first others is some = some_first found others some ∙ ap (λ es. first_filled es others) is

-- and the others are if it is none
pub others_told : (X E : Type 0) (entries : X → List Entry) (result : Result X E) (found first others : List Entry) → found ≡ first → length found ≡ 0
    → IfOk result (λ x. entries x ≡ others) → IfOk result (λ x. entries x ≡ first_filled first others)
others_told X E entries (Ok x) found first others is none same = same ∙ none_first found others none ∙ ap (λ es. first_filled es others) is
others_told X E entries (Err e) found first others is none same = tt
