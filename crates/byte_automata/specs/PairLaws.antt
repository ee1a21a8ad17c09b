-- Two automata side by side say what each says.
use Rattle.std.proofs.Common.{◌≡◌, ℕ, Bool, true, false, ◌&&◌, ◌||◌, List, [], ◌∷◌, ◌++◌, refl, sym}
use Rattle.std.proofs.Common.{◌∙◌, ap}
use Rattle.std.specs.Prelude.{fold}
use Rattle.std.proofs.lemmas.Bool.{or_parts}
use Rattle.byte_automata.specs.Pairs.{both_after}

-- the states of two automata after some bytes
pub both_run : {S R : Type 0} (f : S → ℕ → S) (g : R → ℕ → R) (s : S) (r : R) (read : List ℕ) → fold (both_after f g) (s, r) read ≡ (fold f s read, fold g r read)
both_run f g s r [] = refl
both_run f g s r (b ∷ read) = both_run f g (f s b) (g r b) read

lacks_one : (t : Bool) → (t && false) ≡ false
lacks_one true = refl
lacks_one false = refl

module _ {S R : Type 0} (f : S → ℕ → S) (g : R → ℕ → R) (p : S → Bool) (q : R → Bool) (a c : List ℕ → Bool) (s : S) (r : R) where
  -- two automata accept what both accept
  pub both_tell : ((read : List ℕ) → p (fold f s read) ≡ a read) → ((read : List ℕ) → q (fold g r read) ≡ c read)
      → (read : List ℕ) → (p (fold (both_after f g) (s, r) read).0 && q (fold (both_after f g) (s, r) read).1) ≡ (a read && c read)
  both_tell first second read = ap (λ t. p t.0 && q t.1) (both_run f g s r read) ∙ (λ i. first read i && second read i)

  -- or what one of them accepts
  pub either_tells : ((read : List ℕ) → p (fold f s read) ≡ a read) → ((read : List ℕ) → q (fold g r read) ≡ c read)
      → (read : List ℕ) → (p (fold (both_after f g) (s, r) read).0 || q (fold (both_after f g) (s, r) read).1) ≡ (a read || c read)
  either_tells first second read = ap (λ t. p t.0 || q t.1) (both_run f g s r read) ∙ (λ i. first read i || second read i)

  -- where one of them can't match any more, nothing that goes on is accepted by both
  pub both_prune : ((read rest : List ℕ) → p (fold f s read) ≡ false → a (read ++ rest) ≡ false) → ((read rest : List ℕ) → q (fold g r read) ≡ false → c (read ++ rest) ≡ false)
      → (read rest : List ℕ) → (p (fold (both_after f g) (s, r) read).0 && q (fold (both_after f g) (s, r) read).1) ≡ false → (a (read ++ rest) && c (read ++ rest)) ≡ false
  both_prune first second read rest h =
      either_fails (p (fold f s read)) (q (fold g r read)) (first read rest) (second read rest) (sym (ap (λ t. p t.0 && q t.1) (both_run f g s r read)) ∙ h)
    where
      either_fails : (x y : Bool) → (x ≡ false → a (read ++ rest) ≡ false) → (y ≡ false → c (read ++ rest) ≡ false) → (x && y) ≡ false → (a (read ++ rest) && c (read ++ rest)) ≡ false
      either_fails true y fx fy h = ap (λ t. a (read ++ rest) && t) (fy h) ∙ lacks_one (a (read ++ rest))
      either_fails false y fx fy h = ap (λ t. t && c (read ++ rest)) (fx refl)

  -- where both can't, nothing that goes on is accepted by one of them
  pub either_prunes : ((read rest : List ℕ) → p (fold f s read) ≡ false → a (read ++ rest) ≡ false) → ((read rest : List ℕ) → q (fold g r read) ≡ false → c (read ++ rest) ≡ false)
      → (read rest : List ℕ) → (p (fold (both_after f g) (s, r) read).0 || q (fold (both_after f g) (s, r) read).1) ≡ false → (a (read ++ rest) || c (read ++ rest)) ≡ false
  either_prunes first second read rest h =
      let parts = or_parts (p (fold f s read)) (q (fold g r read)) (sym (ap (λ t. p t.0 || q t.1) (both_run f g s r read)) ∙ h) in
      (λ i. first read rest parts.0 i || second read rest parts.1 i)
