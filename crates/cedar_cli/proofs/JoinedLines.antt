-- The line of things in parts.
use Rattle.std.proofs.Common.{◌≡◌, ℕ, List, [], ◌∷◌, ◌++◌, Option, refl, sym, ap, subst, ◌∙◌, append_assoc, append-nil}
use Rattle.std.specs.Prelude.{codes}
use Rattle.std.specs.Io.KnownBytes.{Appends}
use Rattle.cedar_cli.specs.Script.{spaced_texts, joined_texts}
use Rattle.device_lines.specs.Written.{WritesFront}
use Rattle.device_lines.proofs.Bytes.{front_after, front_more}

spaced-append : {T : Type 0} (text : T → List ℕ) (a b : List T) → spaced_texts text (a ++ b) ≡ spaced_texts text a ++ spaced_texts text b
spaced-append text [] b = refl
spaced-append text (t ∷ a) b =
    ap (λ l. (codes " " ++ text t) ++ l) (spaced-append text a b)
    ∙ sym (append_assoc (codes " " ++ text t) (spaced_texts text a) (spaced_texts text b))

pub spaced_push : {T : Type 0} (text : T → List ℕ) (a : List T) (t : T) → spaced_texts text (a ++ t ∷ []) ≡ spaced_texts text a ++ (codes " " ++ text t)
spaced_push text a t = spaced-append text a (t ∷ []) ∙ ap (λ l. spaced_texts text a ++ l) (append-nil (codes " " ++ text t))

-- some things were written, and a front of the next one
pub spaced_stopped : {T : Type 0} (text : T → List ℕ) (a b d : Option (List ℕ)) (things came later : List T) (t : T) → things ≡ came ++ t ∷ later
    → Appends a b (spaced_texts text came) → WritesFront b d (codes " " ++ text t) → WritesFront a d (spaced_texts text things ++ 10 ∷ [])
spaced_stopped text a b d things came later t e written front =
    subst (WritesFront a d) (sym line)
    (front_after a b d (spaced_texts text came) ((codes " " ++ text t) ++ (spaced_texts text later ++ 10 ∷ [])) written
    (front_more b d (codes " " ++ text t) (spaced_texts text later ++ 10 ∷ []) front)) where
      line : spaced_texts text things ++ 10 ∷ [] ≡ spaced_texts text came ++ ((codes " " ++ text t) ++ (spaced_texts text later ++ 10 ∷ []))
      line =
          ap (λ ts. spaced_texts text ts ++ 10 ∷ []) e
          ∙ ap (λ l. l ++ 10 ∷ []) (spaced-append text came (t ∷ later))
          ∙ append_assoc (spaced_texts text came) (spaced_texts text (t ∷ later)) (10 ∷ [])
          ∙ ap (λ l. spaced_texts text came ++ l) (append_assoc (codes " " ++ text t) (spaced_texts text later) (10 ∷ []))

-- a line that begins with a thing
pub joined_line : {T : Type 0} (text : T → List ℕ) (things later : List T) (t : T) → things ≡ t ∷ later → text t ++ (spaced_texts text later ++ 10 ∷ []) ≡ joined_texts text things ++ 10 ∷ []
joined_line text things later t e = sym (append_assoc (text t) (spaced_texts text later) (10 ∷ [])) ∙ ap (λ ts. joined_texts text ts ++ 10 ∷ []) (sym e)
