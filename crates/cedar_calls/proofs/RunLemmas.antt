-- Runs that go one call further.
use Rattle.std.proofs.Common.{ℕ, List, [], ◌∷◌, ◌++◌, append_assoc, ap, refl, subst, ◌∙◌}
use Rattle.cedarwood.specs.Layouts.{LayoutKind}
use Rattle.cedarwood.specs.Dictionary.{Dictionary}
use Rattle.cedar_calls.specs.declared.call.Call.{Call}
use Rattle.cedar_calls.specs.declared.answer.Answer.{Answer}
use Rattle.cedar_calls.specs.Runs.{AddsRun, IsRun, IsStep}

-- a run with one call more
pub run_more : {A : Type 0} (layout : LayoutKind) (slots : ℕ) (s : List Dictionary) (calls : List Call) (answers : List (Answer A)) (m : List Dictionary) (c : Call) (a : Answer A) (t : List Dictionary)
    → IsRun layout slots s calls answers m → IsStep layout slots m c a t → IsRun layout slots s (calls ++ c ∷ []) (answers ++ a ∷ []) t
run_more layout slots s [] [] m c a t h step = (t, subst (λ x. IsStep layout slots x c a t) h step, refl)
run_more layout slots s [] (b ∷ answers) m c a t h step = absurd h
run_more layout slots s (d ∷ calls) [] m c a t h step = absurd h
run_more layout slots s (d ∷ calls) (b ∷ answers) m c a t h step = (h.0, h.1, run_more layout slots h.0 calls answers m c a t h.2 step)

-- the answers that it added, with one more
pub adds_more : {A : Type 0} (layout : LayoutKind) (slots : ℕ) (s : List Dictionary) (calls : List Call) (earlier all : List (Answer A)) (m : List Dictionary) (c : Call) (a : Answer A)
    (t : List Dictionary) → AddsRun layout slots s calls earlier all m → IsStep layout slots m c a t → AddsRun layout slots s (calls ++ c ∷ []) earlier (all ++ a ∷ []) t
adds_more layout slots s calls earlier all m c a t h step =
    (h.0 ++ a ∷ [], ap (λ xs. xs ++ a ∷ []) h.1 ∙ append_assoc earlier h.0 (a ∷ []), run_more layout slots s calls h.0 m c a t h.2 step)
