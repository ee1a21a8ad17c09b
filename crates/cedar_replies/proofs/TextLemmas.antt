-- Text entries one further.
use Rattle.std.proofs.Common.{◌≡◌, ℕ, ℤ, ◌+◌, List, [], ◌∷◌, ◌++◌, length, map, Option, Some, None, refl, ap, arith, subst, sym}
use Rattle.std.specs.Str.{IsUtf8}
use Rattle.cedarwood.specs.Queries.{Entry}
use Rattle.cedar_replies.specs.Replies.{AreTexts}

-- a text, or nothing, represents the first entry that is left, and the next ones are left then
pub record IsTextStep (rest next : List Entry) (text : Option (List ℕ × ℤ)) : Type 0 where
  pub shorter : length rest ≡ length next + 1
  pub texts : (later : List (Option (List ℕ × ℤ))) → AreTexts later next → AreTexts (text ∷ later) rest

one_longer : (rest next : List Entry) (entry : Entry) → rest ≡ entry ∷ next → length rest ≡ length next + 1
one_longer rest next entry e = rw e (omega arith)

-- the entry comes as its text
pub text_given : (rest next : List Entry) (text : List ℕ × ℤ) → rest ≡ text ∷ next → IsTextStep rest next (Some text)
text_given rest next text e = record {
  shorter = one_longer rest next text e;
  texts = λ later h. subst (AreTexts (Some text ∷ later)) (sym e) (refl, h);
}

-- or it has none
pub text_missing : (rest next : List Entry) → ((entry : Entry) × (rest ≡ entry ∷ next) × (IsUtf8 entry.0 → ⊥)) → IsTextStep rest next None
text_missing rest next lacks = record {
  shorter = one_longer rest next lacks.0 lacks.1;
  texts = λ later h. subst (AreTexts (None ∷ later)) (sym lacks.1) (lacks.2, h);
}

-- one more is collected
pub texts_more : {X Y : Type 0} (f : X → Y) (found : List X) (x : X) (later : List Y) → map f (found ++ x ∷ []) ++ later ≡ map f found ++ (f x ∷ later)
texts_more f [] x later = refl
texts_more f (y ∷ found) x later = ap (λ xs. f y ∷ xs) (texts_more f found x later)
