-- What is written in parts, and calls of a writer that didn't fail.
use Rattle.std.proofs.Common.{◌≡◌, ℕ, List, [], ◌++◌, Option, Some, None, refl, sym, ap, ◌∙◌, append_assoc, append-nil, take, drop, length, ◌-◌, arith, take-append-drop, length-drop, length-append, Bool, true, false, ◌||◌, ◌&&◌, ◌==◌}
use Rattle.std.proofs.lemmas.List.{take_all}
use Rattle.std.proofs.lemmas.Bool.{eqb-true}
use Rattle.std.specs.Prelude.{Result, Ok, Err, OnErr}
use Rattle.std.specs.Io.KnownBytes.{Appends}
use Rattle.device_lines.specs.Written.{WritesFront}

-- bytes appended in two parts
pub Appends-append : (a b c : Option (List ℕ)) (x y : List ℕ) → Appends a b x → Appends b c y → Appends a c (x ++ y)
Appends-append None b c x y p q = tt
Appends-append (Some xs) None c x y p q = absurd p
Appends-append (Some xs) (Some ys) None x y p q = absurd q
Appends-append (Some xs) (Some ys) (Some zs) x y p q = q ∙ ap (λ l. l ++ y) p ∙ append_assoc xs x y

-- no byte is appended
pub Appends-none : (a : Option (List ℕ)) → Appends a a []
Appends-none None = tt
Appends-none (Some xs) = sym (append-nil xs)

-- as many bytes as are left behind the first n are all that are left there
pub whole_rest : (n : ℕ) (rest : List ℕ) → take (length rest - n) (drop n rest) ≡ drop n rest
whole_rest n rest = take_all (length rest - n) (drop n rest) (omega (arith, length-drop n rest))

-- the next n bytes of the rest were taken
pub Appends-more : (a b c : Option (List ℕ)) (all x rest : List ℕ) (n : ℕ) → all ≡ x ++ rest → Appends a b x → Appends b c (take n rest)
    → (y : List ℕ) × (all ≡ y ++ take (length rest - n) (drop n rest)) × Appends a c y
Appends-more a b c all x rest n e p q = (
  x ++ take n rest,
  e ∙ ap (λ l. x ++ l) (sym (take-append-drop n rest)) ∙ sym (append_assoc x (take n rest) (drop n rest)) ∙ ap (λ l. (x ++ take n rest) ++ l) (sym (whole_rest n rest)),
  Appends-append a b c x (take n rest) p q,
)

-- a front of some bytes is one of more bytes
pub front_more : (a b : Option (List ℕ)) (bytes more : List ℕ) → WritesFront a b bytes → WritesFront a b (bytes ++ more)
front_more a b bytes more h =
    (h.0, h.1 ++ more, (let some = h.2 in omega (arith, length-append h.1 more)), ap (λ l. l ++ more) h.3 ∙ append_assoc h.0 h.1 more, h.4)

-- what was written, and a front of what follows
pub front_after : (a b c : Option (List ℕ)) (done bytes : List ℕ) → Appends a b done → WritesFront b c bytes → WritesFront a c (done ++ bytes)
front_after a b c done bytes p h =
    (done ++ h.0, h.1, h.2, ap (λ l. done ++ l) h.3 ∙ sym (append_assoc done h.0 h.1), Appends-append a b c done h.0 p h.4)

-- what is so of a call that failed
pub on_err : {T E P : Type 0} (r : Result T E) → P → OnErr r P
on_err (Ok x) p = tt
on_err (Err e) p = p

pub or_false : (b : Bool) → (b || false) ≡ b
or_false true = refl
or_false false = refl

-- and so did a write that took a byte or more
pub unfailed_by : (before after : Bool) (count : ℕ) (any : Bool) → after ≡ (before || (count == 0 && any)) → (count ≡ 0 → ⊥) → after ≡ before
unfailed_by before after count any h some = h ∙ rw (eqb-not count 0 some) (or_false before) where
  eqb-not : (m n : ℕ) → (m ≡ n → ⊥) → (m == n) ≡ false
  eqb-not m n ne = (elim (m == n) as (λ same. (m == n) ≡ same → (m == n) ≡ false) [
    | true ↦ λ e. absurd (ne (eqb-true m n e))
    | false ↦ λ e. e
  ]) refl
