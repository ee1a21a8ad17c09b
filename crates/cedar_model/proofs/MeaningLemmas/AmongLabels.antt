-- Members of lists of labels, and labels that ascend.
use Rattle.std.proofs.Common.{◌≡◌, ℕ, ◌<◌, ◌⊎◌, refl, inl, inr, arith, List, [], ◌∷◌, ◌++◌}
use Rattle.cedar_tree.specs.Tree.{AllAbove, child, Forest, IsAscending, none}
use Rattle.cedar_model.specs.Edit.NodeEdits.{Above}
use Rattle.cedar_model.specs.Meaning.Family.{Among}
use Rattle.cedar_model.specs.Meaning.StandsFor.{labels}

pub among_join : (xs ys : List ℕ) (x : ℕ) → Among (xs ++ ys) x → Among xs x ⊎ Among ys x
among_join [] ys x h = inr h
among_join (z ∷ xs) ys x (inl e) = inl (inl e)
among_join (z ∷ xs) ys x (inr h) = elim (among_join xs ys x h) [ inl k ↦ inl (inr k) | inr k ↦ inr k ]

pub among_front : (xs ys : List ℕ) (x : ℕ) → Among xs x → Among (xs ++ ys) x
among_front [] ys x h = absurd h
among_front (z ∷ xs) ys x (inl e) = inl e
among_front (z ∷ xs) ys x (inr h) = inr (among_front xs ys x h)

pub among_push : (xs : List ℕ) (l x : ℕ) → Among (xs ++ l ∷ []) x → Among xs x ⊎ (l ≡ x)
among_push [] l x (inl e) = inr e
among_push [] l x (inr a) = absurd a
among_push (y ∷ xs) l x (inl e) = inl (inl e)
among_push (y ∷ xs) l x (inr a) = elim (among_push xs l x a) [ inl b ↦ inl (inr b) | inr e ↦ inr e ]

pub among_last : (xs : List ℕ) (y : ℕ) → Among (xs ++ y ∷ []) y
among_last [] y = inl refl
among_last (x ∷ xs) y = inr (among_last xs y)

-- ---- labels that ascend

pub above_less : (b c : ℕ) (ls : List ℕ) → b < c → Above c ls → Above b ls
above_less b c [] h a = tt
above_less b c (l ∷ ls) h a = (omega (arith, h, a.0), a.1)

pub above_labels : (b : ℕ) (f : Forest) → AllAbove b f → IsAscending f → Above b (labels f)
above_labels b none u s = tt
above_labels b (child m n below rest) u s = (u.0, above_labels m rest s.0 s.2)
