-- Bytes that are taken apart: the lists that they are of are the same.
use Rattle.std.proofs.Common.{◌≡◌, ℕ, List, [], ◌∷◌, ◌++◌, length, take, drop, arith, refl, sym, ap, ◌∙◌, take_at, drop_at, append_assoc}
use Rattle.std.specs.Prelude.{All}
use Rattle.std.proofs.lemmas.List.Elements.{recursion_from_All}
use Rattle.std.specs.List.{AllByRecursion, flat_map}

-- two fronts of one length
pub same_front : (a b x y : List ℕ) → length a ≡ length b → a ++ x ≡ b ++ y → a ≡ b
same_front a b x y len e = sym (take_at a x (length a) refl) ∙ ap (take (length a)) e ∙ take_at b y (length a) (sym len)

pub same_rest : (a b x y : List ℕ) → length a ≡ length b → a ++ x ≡ b ++ y → x ≡ y
same_rest a b x y len e = sym (drop_at a x (length a) refl) ∙ ap (drop (length a)) e ∙ drop_at b y (length a) (sym len)

pub cons_same : {X : Type 0} (x y : X) (xs ys : List X) → x ≡ y → xs ≡ ys → x ∷ xs ≡ y ∷ ys
cons_same x y xs ys p q = cc

module _ {X : Type 0} (bytes_of : X → List ℕ) (n : ℕ) (Fits : X → Type 0) (same_len : (x : X) → length (bytes_of x) ≡ n)
    (one : (x y : X) → Fits x → Fits y → bytes_of x ≡ bytes_of y → x ≡ y) where
  same_items : (xs ys : List X) (a b : List ℕ) → length xs ≡ length ys → AllByRecursion Fits xs → AllByRecursion Fits ys
      → flat_map bytes_of xs ++ a ≡ flat_map bytes_of ys ++ b → (xs ≡ ys) × (a ≡ b)
  same_items [] [] a b len p q e = (refl, e)
  same_items [] (y ∷ ys) a b len p q e = absurd (omega arith)
  same_items (x ∷ xs) [] a b len p q e = absurd (omega arith)
  same_items (x ∷ xs) (y ∷ ys) a b len p q e =
      let split : bytes_of x ++ (flat_map bytes_of xs ++ a) ≡ bytes_of y ++ (flat_map bytes_of ys ++ b) =
      sym (append_assoc (bytes_of x) (flat_map bytes_of xs) a) ∙ e ∙ append_assoc (bytes_of y) (flat_map bytes_of ys) b in
      let lens : length (bytes_of x) ≡ length (bytes_of y) = same_len x ∙ sym (same_len y) in
      let head : x ≡ y = one x y p.0 q.0 (same_front (bytes_of x) (bytes_of y) (flat_map bytes_of xs ++ a) (flat_map bytes_of ys ++ b) lens split) in
      let tail : (xs ≡ ys) × (a ≡ b) = same_items xs ys a b (omega arith) p.1 q.1 (same_rest (bytes_of x) (bytes_of y) (flat_map bytes_of xs ++ a) (flat_map bytes_of ys ++ b) lens split) in
      (cons_same x y xs ys head tail.0, tail.1)

  pub same_lists : (xs ys : List X) (a b : List ℕ) → length xs ≡ length ys → All Fits xs → All Fits ys → flat_map bytes_of xs ++ a ≡ flat_map bytes_of ys ++ b → (xs ≡ ys) × (a ≡ b)
  same_lists xs ys a b len p q e = same_items xs ys a b len (recursion_from_All Fits xs p) (recursion_from_All Fits ys q) e
