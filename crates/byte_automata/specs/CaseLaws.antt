-- An automaton over letters in lower case says of a key what the other one says of the key in lower case.
use Rattle.std.proofs.Common.{◌≡◌, ℕ, Bool, false, List, [], ◌∷◌, ◌++◌, map, refl, sym, ◌∙◌, ap}
use Rattle.std.specs.Prelude.{fold}
use Rattle.std.proofs.lemmas.List.{map-append}
use Rattle.byte_automata.specs.Cases.{lower_after, lower_of}

module _ {S : Type 0} (after : S → ℕ → S) where
  lower_run : (state : S) (read : List ℕ) → fold (lower_after after) state read ≡ fold after state (map lower_of read)
  lower_run state [] = refl
  lower_run state (b ∷ read) = lower_run (after state (lower_of b)) read

  -- an automaton over letters in lower case says whether the key in lower case is accepted
  pub lower_tells : (state : S) (matches : S → Bool) (accepts : List ℕ → Bool) → ((read : List ℕ) → matches (fold after state read) ≡ accepts read)
      → (read : List ℕ) → matches (fold (lower_after after) state read) ≡ accepts (map lower_of read)
  lower_tells state matches accepts tells read = ap matches (lower_run state read) ∙ tells (map lower_of read)

  -- where it can't match any more, nothing that goes on is accepted
  pub lower_prunes : (state : S) (may : S → Bool) (accepts : List ℕ → Bool) → ((read rest : List ℕ) → may (fold after state read) ≡ false → accepts (read ++ rest) ≡ false)
      → (read rest : List ℕ) → may (fold (lower_after after) state read) ≡ false → accepts (map lower_of (read ++ rest)) ≡ false
  lower_prunes state may accepts prunes read rest h =
      ap accepts (map-append lower_of read rest) ∙ prunes (map lower_of read) (map lower_of rest) (ap may (sym (lower_run state read)) ∙ h)
