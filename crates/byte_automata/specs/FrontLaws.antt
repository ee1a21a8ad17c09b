-- What is known once some front was accepted, and before.
use Rattle.std.proofs.Common.{◌≡◌, ℕ, Bool, true, false, cond, ◌||◌, List, [], ◌∷◌, ◌++◌, Option}
use Rattle.std.proofs.Common.{Some, None, is_none, refl, sym, ◌∙◌, ap}
use Rattle.std.specs.Prelude.{fold}
use Rattle.std.proofs.lemmas.Bool.{or_parts}
use Rattle.byte_automata.specs.Fronts.{front_after, front_may_match, has_front, without_match}

module _ {S : Type 0} (matches : S → Bool) (after : S → ℕ → S) where
  -- what has matched stays so
  matched_stays : (read : List ℕ) → fold (front_after matches after) None read ≡ None
  matched_stays [] = refl
  matched_stays (b ∷ read) = matched_stays read

  -- from a state on, where `test` says what is accepted of what follows
  tells_front : (state : S) (test : List ℕ → Bool) → ((read : List ℕ) → matches (fold after state read) ≡ test read)
      → (read : List ℕ) → is_none (fold (front_after matches after) (without_match matches state) read) ≡ has_front test read
  unfolding has_front
  tells_front state test tells [] = ap_none (matches state) ∙ tells []
    where
      ap_none : (t : Bool) → is_none (cond t None (Some state)) ≡ t
      ap_none true = refl
      ap_none false = refl
  tells_front state test tells (b ∷ read) =
      let later = tells_front (after state b) (λ more. test (b ∷ more)) (λ more. tells (b ∷ more)) read in
      each (matches state) ∙ (λ i. tells [] i || later i)
    where
      each : (t : Bool) → is_none (fold (front_after matches after) (cond t None (Some state)) (b ∷ read))
          ≡ (t || is_none (fold (front_after matches after) (without_match matches (after state b)) read))
      each true = ap is_none (matched_stays read)
      each false = refl

module _ {S : Type 0} (matches : S → Bool) (after : S → ℕ → S) (state : S) (accepts : List ℕ → Bool)
    (tells : (read : List ℕ) → matches (fold after state read) ≡ accepts read) where
  -- what is known after some bytes says whether a front of them is accepted
  pub front_tells : (read : List ℕ) → is_none (fold (front_after matches after) (without_match matches state) read) ≡ has_front accepts read
  front_tells read = tells_front matches after state accepts tells read

-- where none of the bytes so far was accepted, and none that go on are, no front is
no_front : (test : List ℕ → Bool) (read rest : List ℕ) → has_front test read ≡ false → ((more : List ℕ) → test (read ++ more) ≡ false) → has_front test (read ++ rest) ≡ false
unfolding has_front
no_front test [] [] h none = none []
no_front test [] (b ∷ rest) h none =
    (λ i. none [] i || no_front (λ more. test (b ∷ more)) [] rest (shown (b ∷ rest)) (λ more. none (b ∷ more)) i)
  where
    shown : (w : List ℕ) → has_front (λ more. test (b ∷ more)) [] ≡ false
    shown w = none (b ∷ [])
no_front test (b ∷ read) rest h none =
    let parts = or_parts (test []) (has_front (λ more. test (b ∷ more)) read) h in
    (λ i. parts.0 i || no_front (λ more. test (b ∷ more)) read rest parts.1 none i)

-- the state is that of the other automaton as long as nothing was accepted
inside : {S : Type 0} (matches : S → Bool) (after : S → ℕ → S) (state : S) (read : List ℕ) (found : S)
    → fold (front_after matches after) (without_match matches state) read ≡ Some found → found ≡ fold after state read
inside matches after state [] found is = at (matches state) is
  where
    at : (t : Bool) → cond t None (Some state) ≡ Some found → found ≡ state
    at true h = cc
    at false h = cc
inside matches after state (b ∷ read) found is = at (inside matches after (after state b) read found) (matches state) is
  where
    at : (fold (front_after matches after) (without_match matches (after state b)) read ≡ Some found → found ≡ fold after (after state b) read)
        → (t : Bool) → fold (front_after matches after) (cond t None (Some state)) (b ∷ read) ≡ Some found → found ≡ fold after (after state b) read
    at later true h = (let stays = matched_stays matches after read in cc)
    at later false h = later h

-- where it can't match any more, no front of what goes on is accepted
pub front_prunes : {S : Type 0} (matches may_match : S → Bool) (after : S → ℕ → S) (state : S) (accepts : List ℕ → Bool)
    → ((read : List ℕ) → matches (fold after state read) ≡ accepts read)
    → ((read rest : List ℕ) → may_match (fold after state read) ≡ false → accepts (read ++ rest) ≡ false)
    → (read rest : List ℕ) → front_may_match may_match (fold (front_after matches after) (without_match matches state) read) ≡ false → has_front accepts (read ++ rest) ≡ false
front_prunes {S = S} matches may_match after state accepts tells prunes read rest h =
    go (fold (front_after matches after) (without_match matches state) read) refl h
  where
    go : (found : Option S) → fold (front_after matches after) (without_match matches state) read ≡ found → front_may_match may_match found ≡ false → has_front accepts (read ++ rest) ≡ false
    go None is fails = cc
    go (Some now) is fails =
        let same = inside matches after state read now is in
        let lacks = sym (front_tells matches after state accepts tells read) ∙ ap is_none is in
        no_front accepts read rest lacks (λ more. prunes read more (ap may_match (sym same) ∙ fails))
